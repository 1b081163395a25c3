-- Visiting a valuation keeps what is true of a walk.
use Rattle.std.proofs.Common.{◌≡◌, ◌<◌, List, [], ◌∷◌, ◌++◌, length, ◌⊎◌, inl, inr, refl, ap, sym, ◌∙◌, subst, arith, ◌+◌, map}
use Rattle.std.specs.List.{flat_map, sum_by}
use Rattle.std.proofs.lemmas.List.Sums.{sum_by-cons, sum_by-append}
use Rattle.beas_core.specs.Types.{Row}
use Rattle.beas_core.specs.Reads.{Probe}
use Rattle.beas_core.proofs.Sets.{Has, SameMembers, Has-append_left, Has-append_right, Has-append_cases}
use Rattle.beas_core.proofs.MemberTests.{Has-flat_map, Has-from_flat_map}
use Rattle.beas_core.specs.Valuations.{output_row}
use Rattle.block_walk.specs.Worlds.{World, Fetched}
use Rattle.block_walk.specs.Routes.{Route}
use Rattle.block_walk.specs.Kept.{Pending, pending_at}
use Rattle.block_walk.specs.Stacks.{pending_in}
use Rattle.block_walk.specs.declared.walking.Walk.{Walk}
use Rattle.block_walk.specs.Walks.{WasMade, fetched_in, set_at, children, probe_of, next_at, outputs_from, wanted_from, work_from, IsProbe, IsWalk, StandsAt}
use Rattle.block_walk.specs.Turns.{GoesOn, outputs_at}
use Rattle.block_walk.proofs.WorldFacts.{outputs_is, wanted_is, work_is, outputs_last, wanted_last}

-- a flat map over two parts, by members
pub split : {A B : Type 0} (f : A → List B) (xs ys : List A) (b : B) → Has (flat_map f (xs ++ ys)) b → Has (flat_map f xs) b ⊎ Has (flat_map f ys) b
split f xs ys b h =
    let m = Has-from_flat_map f (xs ++ ys) b h in
    elim (Has-append_cases xs ys m.0 m.1) [
      | inl k ↦ inl (Has-flat_map f xs m.0 b k m.2)
      | inr k ↦ inr (Has-flat_map f ys m.0 b k m.2)
    ]

pub join : {A B : Type 0} (f : A → List B) (xs ys : List A) (b : B) → Has (flat_map f xs) b ⊎ Has (flat_map f ys) b → Has (flat_map f (xs ++ ys)) b
join f xs ys b (inl h) = let m = Has-from_flat_map f xs b h in Has-flat_map f (xs ++ ys) m.0 b (Has-append_left xs ys m.0 m.1) m.2
join f xs ys b (inr h) = let m = Has-from_flat_map f ys b h in Has-flat_map f (xs ++ ys) m.0 b (Has-append_right xs ys m.0 m.1) m.2

-- the last of some
last_of : {A B : Type 0} (f : A → List B) (rest : List A) (x : A) (b : B) → Has (flat_map f (rest ++ x ∷ [])) b → Has (flat_map f rest) b ⊎ Has (f x) b
last_of f rest x b h = elim (split f rest (x ∷ []) b h) [
  | inl k ↦ inl k
  | inr k ↦ elim (Has-append_cases (f x) [] b k) [ inl g ↦ inr g | inr n ↦ absurd n ]
]

to_last : {A B : Type 0} (f : A → List B) (rest : List A) (x : A) (b : B) → Has (flat_map f rest) b ⊎ Has (f x) b → Has (flat_map f (rest ++ x ∷ [])) b
to_last f rest x b (inl h) = join f rest (x ∷ []) b (inl h)
to_last f rest x b (inr h) = join f rest (x ∷ []) b (inr (Has-append_left (f x) [] b h))

-- a pending valuation wants its probe
pub pending_is_probe : (w : World) (r : Route) (at : Pending) → at.step < length r.steps → (walk : Walk) (rest : List Pending)
    → IsWalk w r walk → pending_in walk.pending ≡ rest ++ at ∷ [] → IsProbe w r (probe_of w r at)
pending_is_probe w r at below walk rest is pending = is.probes_only (probe_of w r at)
    (inr (subst (λ ps. Has (flat_map (wanted_from w r) ps) (probe_of w r at)) (sym pending)
    (to_last (wanted_from w r) rest at (probe_of w r at) (inr (subst (λ ys. Has ys (probe_of w r at)) (sym (wanted_is w r at below)) (inl refl))))))

-- a valuation was visited: those that it leads to are pending in its place, and its probe is made
module _ (w : World) (r : Route) (at : Pending) (below : at.step < length r.steps) (through : List Row) (rest : List Pending) (old new : List Fetched)
    (walk : StandsAt w r through (rest ++ at ∷ []) old)
    (made_new : (p : Probe) → WasMade old p → WasMade new p) (made_here : WasMade new (probe_of w r at))
    (made_old : (p : Probe) → WasMade new p → (p ≡ probe_of w r at) ⊎ WasMade old p) where
  abbrev more : List Pending
  more = children at (next_at w r at)

  wanted_before : (p : Probe) → (p ≡ probe_of w r at) ⊎ Has (flat_map (wanted_from w r) more) p → Has (flat_map (wanted_from w r) (rest ++ at ∷ [])) p
  wanted_before p h = to_last (wanted_from w r) rest at p (inr (subst (λ ys. Has ys p) (sym (wanted_is w r at below)) h))

  pub visited_inner : StandsAt w r through (rest ++ more) new
  visited_inner = record {
    rows_all = λ y h. elim (walk.rows_all y h) [
      | inl k ↦ inl k
      | inr k ↦ inr (join (outputs_from w r) rest more y (elim (last_of (outputs_from w r) rest at y k) [
        | inl g ↦ inl g
        | inr g ↦ inr (subst (λ ys. Has ys y) (outputs_is w r at below) g)
      ]))
    ];
    rows_only = λ y h. walk.rows_only y (elim h [
      | inl k ↦ inl k
      | inr k ↦ inr (to_last (outputs_from w r) rest at y (elim (split (outputs_from w r) rest more y k) [
        | inl g ↦ inl g
        | inr g ↦ inr (subst (λ ys. Has ys y) (sym (outputs_is w r at below)) g)
      ]))
    ]);
    probes_all = λ p h. elim (walk.probes_all p h) [
      | inl k ↦ inl (made_new p k)
      | inr k ↦ elim (last_of (wanted_from w r) rest at p k) [
        | inl g ↦ inr (join (wanted_from w r) rest more p (inl g))
        | inr g ↦ elim (subst (λ ys. Has ys p) (wanted_is w r at below) g) [
          | inl e ↦ inl (subst (WasMade new) (sym e) made_here)
          | inr d ↦ inr (join (wanted_from w r) rest more p (inr d))
        ]
      ]
    ];
    probes_only = λ p h. walk.probes_only p (elim h [
      | inl k ↦ elim (made_old p k) [
        | inl e ↦ inr (wanted_before p (inl e))
        | inr m ↦ inl m
      ]
      | inr k ↦ elim (split (wanted_from w r) rest more p k) [
        | inl g ↦ inr (to_last (wanted_from w r) rest at p (inl g))
        | inr g ↦ inr (wanted_before p (inr g))
      ]
    ]);
  }

-- valuations after the last step: their outputs are through in their place
module _ (w : World) (r : Route) (at : Pending) (last : at.step + 1 ≡ length r.steps) (rows : List Row) where
  abbrev outputs : List Row → List Row
  outputs xs = map (output_row r.normal (set_at w r (length r.steps))) xs

  outputs_through : (xs : List Row) → flat_map (outputs_from w r) (children at xs) ≡ outputs xs
  outputs_through [] = refl
  outputs_through (x ∷ xs) = ap (λ ys. ys ++ flat_map (outputs_from w r) (children at xs)) (outputs_last w r (pending_at (at.step + 1) x) last)
      ∙ ap (λ ys. output_row r.normal (set_at w r (length r.steps)) x ∷ ys) (outputs_through xs)

  none_wanted : (xs : List Row) → flat_map (wanted_from w r) (children at xs) ≡ []
  none_wanted [] = refl
  none_wanted (x ∷ xs) = ap (λ ys. ys ++ flat_map (wanted_from w r) (children at xs)) (wanted_last w r (pending_at (at.step + 1) x) last) ∙ none_wanted xs

  pub children_through : (through : List Row) (rest : List Pending) (fetched : List Fetched) → StandsAt w r through (rest ++ children at rows) fetched
      → StandsAt w r (through ++ outputs rows) rest fetched
  children_through through rest fetched walk = record {
    rows_all = λ y h. elim (walk.rows_all y h) [
      | inl k ↦ inl (Has-append_left through (outputs rows) y k)
      | inr k ↦ elim (split (outputs_from w r) rest (children at rows) y k) [
        | inl g ↦ inr g
        | inr g ↦ inl (Has-append_right through (outputs rows) y (subst (λ ys. Has ys y) (outputs_through rows) g))
      ]
    ];
    rows_only = λ y h. walk.rows_only y (elim h [
      | inl k ↦ elim (Has-append_cases through (outputs rows) y k) [
        | inl g ↦ inl g
        | inr g ↦ inr (join (outputs_from w r) rest (children at rows) y (inr (subst (λ ys. Has ys y) (sym (outputs_through rows)) g)))
      ]
      | inr k ↦ inr (join (outputs_from w r) rest (children at rows) y (inl k))
    ]);
    probes_all = λ p h. elim (walk.probes_all p h) [
      | inl k ↦ inl k
      | inr k ↦ elim (split (wanted_from w r) rest (children at rows) p k) [
        | inl g ↦ inr g
        | inr g ↦ absurd (subst (λ ys. Has ys p) (none_wanted rows) g)
      ]
    ];
    probes_only = λ p h. walk.probes_only p (elim h [
      | inl k ↦ inl k
      | inr k ↦ inr (join (wanted_from w r) rest (children at rows) p (inl k))
    ]);
  }

-- outputs count by what they are
same_through : (w : World) (r : Route) (rest : List Pending) (fetched : List Fetched) (now was : List Row) → SameMembers now was
    → StandsAt w r was rest fetched → StandsAt w r now rest fetched
same_through w r rest fetched now was same walk = record {
  rows_all = λ y h. elim (walk.rows_all y h) [ inl k ↦ inl ((same y).1 k) | inr k ↦ inr k ];
  rows_only = λ y h. walk.rows_only y (elim h [ inl k ↦ inl ((same y).0 k) | inr k ↦ inr k ]);
  probes_all = walk.probes_all;
  probes_only = walk.probes_only;
}

pub visited_is_walk : (w : World) (r : Route) (at : Pending) → at.step < length r.steps → (before new : Walk) (rest : List Pending) → IsWalk w r before
    → pending_in before.pending ≡ rest ++ at ∷ []
    → GoesOn (length r.steps) at (next_at w r at) (outputs_at w r at) rest (pending_in new.pending) before.through new.through
    → ((p : Probe) → WasMade (fetched_in before) p → WasMade (fetched_in new) p) → WasMade (fetched_in new) (probe_of w r at)
    → ((p : Probe) → WasMade (fetched_in new) p → (p ≡ probe_of w r at) ⊎ WasMade (fetched_in before) p) → IsWalk w r new
visited_is_walk w r at below before new rest walk pending goes made_new made_here made_old =
    let inner = visited_inner w r at below before.through rest (fetched_in before) (fetched_in new)
    (subst (λ ps. StandsAt w r before.through ps (fetched_in before)) pending walk) made_new made_here made_old in
    elim goes [
      | inl x ↦ subst (λ ps. StandsAt w r new.through ps (fetched_in new)) (sym x.1) (same_through w r rest (fetched_in new) new.through
          (before.through ++ outputs_at w r at) x.2 (children_through w r at x.0 (next_at w r at) before.through rest (fetched_in new) inner))
      | inr x ↦ subst (λ ps. StandsAt w r new.through ps (fetched_in new)) (sym x.1)
          (subst (λ ts. StandsAt w r ts (rest ++ children at (next_at w r at)) (fetched_in new)) (sym x.2) inner)
    ]

-- a valuation after the last step
module _ (w : World) (r : Route) (at : Pending) (last : at.step ≡ length r.steps) (before new : Walk) (walk : IsWalk w r before)
    (pending : pending_in before.pending ≡ pending_in new.pending ++ at ∷ [])
    (through : new.through ≡ before.through ++ output_row r.normal (set_at w r (length r.steps)) at.row ∷ [])
    (fetched : fetched_in new ≡ fetched_in before) where
  abbrev output : Row
  output = output_row r.normal (set_at w r (length r.steps)) at.row

  there_last : {B : Type 0} (f : Pending → List B) (b : B) → Has (flat_map f (pending_in before.pending)) b → Has (flat_map f (pending_in new.pending)) b ⊎ Has (f at) b
  there_last f b h = last_of f (pending_in new.pending) at b (subst (λ ps. Has (flat_map f ps) b) pending h)

  to_there_last : {B : Type 0} (f : Pending → List B) (b : B) → Has (flat_map f (pending_in new.pending)) b ⊎ Has (f at) b → Has (flat_map f (pending_in before.pending)) b
  to_there_last f b h = subst (λ ps. Has (flat_map f ps) b) (sym pending) (to_last f (pending_in new.pending) at b h)

  pub through_is_walk : IsWalk w r new
  through_is_walk = record {
    rows_all = λ y h. elim (walk.rows_all y h) [
      | inl k ↦ inl (subst (λ xs. Has xs y) (sym through) (Has-append_left before.through (output ∷ []) y k))
      | inr k ↦ elim (there_last (outputs_from w r) y k) [
        | inl g ↦ inr g
        | inr g ↦ inl (subst (λ xs. Has xs y) (sym through) (Has-append_right before.through (output ∷ []) y
            (subst (λ ys. Has ys y) (outputs_last w r at last) g)))
      ]
    ];
    rows_only = λ y h. walk.rows_only y (elim h [
      | inl k ↦ elim (Has-append_cases before.through (output ∷ []) y (subst (λ xs. Has xs y) through k)) [
        | inl g ↦ inl g
        | inr g ↦ inr (to_there_last (outputs_from w r) y (inr (subst (λ ys. Has ys y) (sym (outputs_last w r at last)) g)))
      ]
      | inr k ↦ inr (to_there_last (outputs_from w r) y (inl k))
    ]);
    probes_all = λ p h. elim (walk.probes_all p h) [
      | inl k ↦ inl (subst (λ fs. WasMade fs p) (sym fetched) k)
      | inr k ↦ elim (there_last (wanted_from w r) p k) [
        | inl g ↦ inr g
        | inr g ↦ absurd (subst (λ ys. Has ys p) (wanted_last w r at last) g)
      ]
    ];
    probes_only = λ p h. walk.probes_only p (elim h [
      | inl k ↦ inl (subst (λ fs. WasMade fs p) fetched k)
      | inr k ↦ inr (to_there_last (wanted_from w r) p (inl k))
    ]);
  }

pub visited_work : (w : World) (r : Route) (at : Pending) → at.step < length r.steps → (before new : Walk) (rest : List Pending) (through : List Row)
    → pending_in before.pending ≡ rest ++ at ∷ []
    → GoesOn (length r.steps) at (next_at w r at) (outputs_at w r at) rest (pending_in new.pending) through new.through
    → sum_by (work_from w r) (pending_in new.pending) < sum_by (work_from w r) (pending_in before.pending)
visited_work w r at below before new rest through pending goes =
    let weight = work_from w r in
    let a = ap (sum_by weight) pending ∙ sum_by-append weight rest (at ∷ []) in
    let b = sum_by-cons weight at [] in
    let e = work_is w r at below in
    elim goes [
      | inl x ↦ (let d = ap (sum_by weight) x.1 in omega (arith, a, b, d, e))
      | inr x ↦ (let d = ap (sum_by weight) x.1 ∙ sum_by-append weight rest (children at (next_at w r at)) in omega (arith, a, b, d, e))
    ]

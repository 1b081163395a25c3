-- What a visit of a valuation does, by the entries that are known.
use Rattle.std.proofs.Common.{◌≡◌, ◌+◌, ◌<◌, ◌≤◌, ℕ, zero, suc, true, false, All, List, [], ◌∷◌, ◌++◌, length, map, get_or, Option, Some, None, ◌⊎◌, inl, inr, refl, ap, sym, ◌∙◌, subst, arith, add-one, Bool}
use Rattle.std.specs.List.{filter}
use Rattle.std.proofs.lemmas.Bool.{cases_eq}
use Rattle.std.proofs.lemmas.List.{get_or-map, length-append, length-map, map-append}
use Rattle.beas_core.specs.declared.schema.Access.{Access}
use Rattle.beas_core.specs.declared.plan.Normal.{Normal}
use Rattle.beas_core.specs.Types.{Row, TableRows, Use}
use Rattle.beas_core.specs.Sets.{IsInOrder}
use Rattle.plan_ops.proofs.RowFacts.{group_pairs}
use Rattle.plan_ops.specs.Over.{set_of}
use Rattle.beas_core.specs.Groups.{group_of}
use Rattle.beas_core.specs.Derivations.{access_in}
use Rattle.beas_core.specs.Reads.{Probe, access_of_step}
use Rattle.beas_core.specs.Valuations.{classes_in, value_of, output_row}
use Rattle.beas_core.proofs.Sets.{Has, SameMembers, Has-get_or, Has-from_map, Has-append_left, Has-append_right, Has-append_cases, Contains-from_has}
use Rattle.plan_ops.specs.declared.stages.Stage.{Stage}
use Rattle.plan_ops.specs.Stages.{IsPair, IsStage, bound_with, joined_bindings, joined_row, key_by, leads_to, next_by, set_before, use_at}
use Rattle.block_walk.specs.Worlds.{World, Fetched, AgreesWith, in_order, made, probe_cmp, put_in}
use Rattle.block_walk.specs.Turns.{fetched_reads, GoesOn, outputs_at, Visited, VisitCosts, VisitSpent, probed}
use Rattle.block_walk.specs.Routes.{Route, is_last, step_at, probe_at}
use Rattle.block_walk.specs.Kept.{Entry, Pending, pending_at}
use Rattle.block_walk.specs.Entries.{AreKept, IsKnown, entries_in, entry_of}
use Rattle.block_walk.specs.Finding.{Finds, FindSpent, Grew, WasNotProbed}
use Rattle.block_walk.specs.Stacks.{IsStack, pending_in}
use Rattle.block_walk.specs.declared.known.Known.{Known}
use Rattle.block_walk.specs.declared.known.Found.{Found}
use Rattle.block_walk.specs.declared.walking.Walk.{Walk}
use Rattle.block_walk.specs.Walks.{accesses_in, no_access, Begins, classes_at, fetched_at, fetched_in, IsMadeFor, IsTidy, IsStageAt, WasMade, set_at, children, probe_of, found_at, next_at}
use Rattle.block_walk.proofs.KeptFacts.{kept_elsewhere}
use Rattle.block_walk.proofs.OrderFacts.{Has-put, Has-put_old, Has-from_put, IsInOrder-put, fetched_from, fetched_here, in_order_more, length-put, reads-put}
use Rattle.block_walk.proofs.WorldFacts.{next_kept, set_is, set_more, stage_access, step_access, use_by}

pub least : (a b : ℕ) → a ≤ b → (a < b) ⊎ (a ≡ b)
least zero zero h = inr refl
least zero (suc b) h = inl (omega arith)
least (suc a) zero h = absurd (omega (arith, h))
least (suc a) (suc b) h = elim (least a b (omega (arith, h))) [ inl m ↦ inl (omega (arith, m)) | inr e ↦ inr (ap suc e) ]

map_alike : {A B : Type 0} (f g : A → B) (xs : List A) → ((x : A) → Has xs x → f x ≡ g x) → map f xs ≡ map g xs
map_alike f g [] h = refl
map_alike f g (x ∷ xs) h = let a = h x (inl refl) in let b = map_alike f g xs (λ y m. h y (inr m)) in cc

-- the rows after a step have a value for each class
next_wide : (normal : Normal) (s : Stage) (v : Row) (tuples : List Row) (y : Row) → IsStage normal s
    → Has (next_by normal (use_at s) (set_before normal s) v tuples) y → length y ≡ length s.join.classes
next_wide normal s v tuples y is h =
    let u = use_at s in
    let set = set_before normal s in
    let m = Has-from_map (joined_row normal u set v) (filter (leads_to normal u set v) tuples) y h in
    ap length m.2 ∙ length-map (classes_in (bound_with normal u set)) (value_of (joined_bindings normal u set v m.0)) ∙ ap length (sym is.join_is.classes_are)

-- a probe whose key wasn't probed wasn't made
not_known : (w : World) (r : Route) (at : Pending) (old : Walk) → WasNotProbed old.known at.step (probe_of w r at).key
    → WasMade (fetched_in old) (probe_of w r at) → ⊥
not_known w r at old none h =
    let m = Has-from_map (λ (f : Fetched). f.probe) (fetched_in old) (probe_of w r at) h in
    let k = fetched_from old m.0 m.1 in
    let p : probe_of w r at ≡ probe_at k.0.0.0 k.0.0.1 = m.2 ∙ ap (λ (f : Fetched). f.probe) k.2 in
    none k.0 k.1 (ap (λ (q : Probe). (q.step, q.key)) (sym p))

pub record Outcome (w : World) (r : Route) (at : Pending) (did : Bool) (old new : Walk) : Type 0 where
  pub tidy : IsTidy r new
  pub visited : Visited w r at did old new

-- a stage serves a valuation in a world
pub record Serves (w : World) (r : Route) (at : Pending) (s : Stage) : Type 0 where
  pub stage : IsStage r.normal s
  pub uses : use_at s ≡ use_by (step_at r at.step) (access_in w.accesses (step_at r at.step).access)
  pub before : set_before r.normal s ≡ set_at w r at.step

module _ (w : World) (r : Route) (at : Pending) (s : Stage) (serves : Serves w r at s) where
  abbrev u : Use
  u = use_by (step_at r at.step) (access_in w.accesses (step_at r at.step).access)

  key_is : key_by r.normal (use_at s) (set_before r.normal s) at.row ≡ (probe_of w r at).key
  key_is = ap (λ v. key_by r.normal v (set_before r.normal s) at.row) serves.uses ∙ ap (λ set. key_by r.normal u set at.row) serves.before

  pub access_is : s.access.value ≡ access_in w.accesses (step_at r at.step).access
  access_is = ap (λ (v : Use). v.access) serves.uses

  group_is : (key : Row) → key ≡ (probe_of w r at).key → group_of (w.rows s.access.value.table) s.access.value key ≡ (found_at w r at).tuples
  group_is key e = ap (λ (a : Access). group_of (w.rows a.table) a key) access_is
      ∙ ap (group_of (w.rows (access_in w.accesses (step_at r at.step).access).table) (access_in w.accesses (step_at r at.step).access)) e

  pub next_is : (tuples : List Row) → tuples ≡ (found_at w r at).tuples → next_by r.normal (use_at s) (set_before r.normal s) at.row tuples ≡ next_at w r at
  next_is tuples e = ap (next_by r.normal (use_at s) (set_before r.normal s) at.row) e
      ∙ ap (λ v. next_by r.normal v (set_before r.normal s) at.row (found_at w r at).tuples) serves.uses
      ∙ ap (λ set. next_by r.normal u set at.row (found_at w r at).tuples) serves.before
      ∙ next_kept r.normal (step_at r at.step) at.row (access_in w.accesses (step_at r at.step).access) (set_at w r at.step) (found_at w r at).tuples

-- the stage of a step that was begun
serves_begun : (w : World) (r : Route) (at : Pending) (walk : Walk) → IsTidy r walk → AgreesWith w r.steps (fetched_in walk)
    → at.step < length walk.stages.items → (d : Stage) → Serves w r at (get_or walk.stages.items at.step d)
serves_begun w r at walk tidy agree l d =
    let is = tidy.stages at.step d l in record {
      stage = is.stage;
      uses = ap (λ k. record { atom = k; access = (get_or walk.stages.items at.step d).access.value }) is.atom
          ∙ ap (use_by (step_at r at.step)) (stage_access w r walk tidy agree at.step d l);
      before = ap (set_of r.normal) is.from ∙ set_is w r walk tidy agree at.step (omega (arith, l));
    }

-- the tuples of a key's group go with the valuation that gives the key
group_all : (rows : TableRows) (normal : Normal) (s : Stage) (v key : Row) (tuples : List Row) → length v ≡ length s.from.value
    → key ≡ key_by normal (use_at s) (set_before normal s) v → tuples ≡ group_of (rows s.access.value.table) s.access.value key → All (IsPair normal s v) tuples
group_all rows normal s v key tuples wide keyed is i d l = group_pairs (rows s.access.value.table) normal s v (get_or tuples i d) wide
    (subst (λ ts. Has ts (get_or tuples i d)) (is ∙ ap (group_of (rows s.access.value.table) s.access.value) keyed) (Has-get_or tuples i d l))

get_or_any : {A : Type 0} (xs : List A) (i : ℕ) (d e : A) → i < length xs → get_or xs i d ≡ get_or xs i e
get_or_any [] i d e l = absurd (omega (arith, l))
get_or_any (x ∷ xs) zero d e l = refl
get_or_any (x ∷ xs) (suc i) d e l = get_or_any xs i d e (omega (arith, l))

get_or-front : {A : Type 0} (xs : List A) (y d : A) (j : ℕ) → j < length xs → get_or (xs ++ y ∷ []) j d ≡ get_or xs j d
get_or-front [] y d j l = absurd (omega (arith, l))
get_or-front (x ∷ xs) y d zero l = refl
get_or-front (x ∷ xs) y d (suc j) l = get_or-front xs y d j (omega (arith, l))

get_or-last : {A : Type 0} (xs : List A) (y d : A) → get_or (xs ++ y ∷ []) (length xs) d ≡ y
get_or-last [] y d = refl
get_or-last (x ∷ xs) y d = get_or-last xs y d

-- the entry that is found for the key of a valuation, whose step has a stage
module _ (w : World) (r : Route) (at : Pending) (old : Walk) (agree : AgreesWith w r.steps (fetched_in old)) (below : at.step < length r.steps)
    (s : Stage) (serves : Serves w r at s) (found : Found) (known : Known) (before now : ℕ)
    (stage_finds : Finds w.rows w.accesses (step_at r at.step).access at.step (key_by r.normal (use_at s) (set_before r.normal s) at.row)
    found old.known known before now) where
  finds : Finds w.rows w.accesses (step_at r at.step).access at.step (probe_of w r at).key found old.known known before now
  finds = subst (λ k. Finds w.rows w.accesses (step_at r at.step).access at.step k found old.known known before now) (key_is w r at s serves) stage_finds

  abbrev at_place : Entry
  at_place = entry_of known found.place

  abbrev group : List Row
  group = (found_at w r at).tuples

  -- it was there before
  old_tuples : Has (entries_in old.known) at_place → at_place.1 ≡ group
  old_tuples h =
      let was = fetched_at old.stages.items at_place in
      let agrees = agree was (Contains-from_has (fetched_in old) was (fetched_here old at_place h)) in
      let keyed : at_place.0 ≡ (at.step, (probe_of w r at).key) = finds.is_key in
      let access : access_of_step w.accesses r.steps at.step ≡ was.access =
      subst (λ (k : ℕ × Row). access_of_step w.accesses r.steps k.0 ≡ was.access) keyed agrees.access in
      sym agrees.tuples ∙ ap (λ (k : ℕ × Row). group_of (w.rows was.access.table) was.access k.1) keyed
      ∙ ap (λ (a : Access). group_of (w.rows a.table) a (probe_of w r at).key) (sym access ∙ step_access w r at.step below)

  -- it is the last one
  new_tuples : entries_in known ≡ entries_in old.known ++ ((at.step, (probe_of w r at).key), group) ∷ [] → found.place ≡ length (entries_in old.known)
      → at_place.1 ≡ group
  new_tuples more last = ap (λ (e : Entry). e.1) (ap (λ es. get_or es found.place ((0, []), [])) more
      ∙ ap (λ i. get_or (entries_in old.known ++ ((at.step, (probe_of w r at).key), group) ∷ []) i ((0, []), [])) last
      ∙ get_or-last (entries_in old.known) ((at.step, (probe_of w r at).key), group) ((0, []), []))

  old_place : entries_in known ≡ entries_in old.known → Has (entries_in old.known) at_place
  old_place same = subst (λ es. Has es at_place) same (Has-get_or (entries_in known) found.place ((0, []), []) finds.there)

  found_tuples : (entry_of known found.place).1 ≡ (found_at w r at).tuples
  found_tuples = by found.reads finds.grew finds.is_new
    where
      by : (o : Option ℕ) → Grew w.rows w.accesses (step_at r at.step).access at.step (probe_of w r at).key o old.known known before now
          → ((reads : ℕ) → o ≡ Some reads → found.place ≡ length (entries_in old.known)) → at_place.1 ≡ group
      by None grew last = old_tuples (old_place grew.0)
      by (Some reads) grew last = new_tuples grew.1 (last reads refl)

  known_entry : entries_in known ≡ entries_in old.known → Has (entries_in old.known) ((at.step, (probe_of w r at).key), group)
  known_entry same = subst (Has (entries_in old.known)) (ap (λ (k : ℕ × Row). (k, at_place.1)) finds.is_key
      ∙ ap (λ (ts : List Row). ((at.step, (probe_of w r at).key), ts)) found_tuples) (old_place same)

  pub found_cost : VisitCosts w r at found.reads before now
  found_cost = by found.reads finds.grew
    where
      by : (o : Option ℕ) → Grew w.rows w.accesses (step_at r at.step).access at.step (probe_of w r at).key o old.known known before now
          → VisitCosts w r at o before now
      by None grew = grew.1
      by (Some reads) grew = (grew.2, grew.3)

  pub found_spent : VisitSpent w r at old before now
  found_spent = by found.reads finds.grew
    where
      by : (o : Option ℕ) → Grew w.rows w.accesses (step_at r at.step).access at.step (probe_of w r at).key o old.known known before now
          → VisitSpent w r at old before now
      by None grew = inl grew.1
      by (Some reads) grew = inr (not_known w r at old grew.0, grew.3 ∙ ap (λ n. before + n) grew.2)

  -- the tuples go with the valuation
  pub found_pairs : length at.row ≡ length s.from.value → All (IsPair r.normal s at.row) (entry_of known found.place).1
  found_pairs wide = group_all w.rows r.normal s at.row (key_by r.normal (use_at s) (set_before r.normal s) at.row) at_place.1 wide refl
      (found_tuples ∙ sym (group_is w r at s serves (key_by r.normal (use_at s) (set_before r.normal s) at.row) (key_is w r at s serves)))

-- what is counted where no entry was found
pub not_found_spent : (w : World) (r : Route) (at : Pending) (old : Walk) (s : Stage) → Serves w r at s → (before now : ℕ)
    → FindSpent w.rows w.accesses (step_at r at.step).access at.step (key_by r.normal (use_at s) (set_before r.normal s) at.row) old.known before now
    → VisitSpent w r at old before now
not_found_spent w r at old s serves before now spent =
    elim (subst (λ k. FindSpent w.rows w.accesses (step_at r at.step).access at.step k old.known before now) (key_is w r at s serves) spent) [
      | inl e ↦ inl e
      | inr d ↦ inr (not_known w r at old d.0, d.1)
    ]

-- what becomes of the valuations that one makes with these tuples by a stage
abbrev Goes : Route → Pending → Stage → List Row → Walk → Walk → Type 0
Goes r at s tuples old new =
    let rows = next_by r.normal (use_at s) (set_before r.normal s) at.row tuples in
    GoesOn (length r.steps) at rows (map (output_row r.normal (bound_with r.normal (use_at s) (set_before r.normal s))) rows)
    (pending_in old.pending) (pending_in new.pending) old.through new.through

-- the stages of a walk once the step before which a valuation stands is begun
pub record IsBegun (w : World) (r : Route) (at : Pending) (old : Walk) (stages : List Stage) (s : Stage) : Type 0 where
  pub serves : Serves w r at s
  pub at_step : IsStageAt r old.first old.stages.items at.step s
  pub reach : at.step ≤ length old.stages.items
  pub few : length stages ≤ length r.steps
  pub alike : (j : ℕ) (d : Stage) → j < length old.stages.items → get_or stages j d ≡ get_or old.stages.items j d
  pub longer : length old.stages.items ≤ length stages
  pub only : (j : ℕ) → j < length stages → (j < length old.stages.items) ⊎ (j ≡ at.step)
  pub inside : at.step < length stages
  pub here : (d : Stage) → get_or stages at.step d ≡ s
  pub kept : AreKept r.normal s (is_last r at.step) old.known at.step

module _ (w : World) (r : Route) (at : Pending) (old : Walk) (tidy : IsTidy r old) (agree : AgreesWith w r.steps (fetched_in old))
    (below : at.step < length r.steps) where
  -- the step was begun before
  begun_before : at.step < length old.stages.items → (s : Stage) → get_or old.stages.items at.step s ≡ s → IsBegun w r at old old.stages.items s
  begun_before begun s here = record {
    serves = subst (Serves w r at) here (serves_begun w r at old tidy agree begun s);
    at_step = subst (IsStageAt r old.first old.stages.items at.step) here (tidy.stages at.step s begun);
    reach = omega (arith, begun);
    few = tidy.few;
    alike = λ j d l. refl;
    longer = omega arith;
    only = λ j l. inl l;
    inside = begun;
    here = λ d. get_or_any old.stages.items at.step d s begun ∙ here;
    kept = subst (λ (x : Stage). AreKept r.normal x (is_last r at.step) old.known at.step) here (tidy.kept at.step s begun);
  }

  abbrev MadeHere : Stage → Type 0
  MadeHere = IsMadeFor r.normal (step_at r at.step).atom (access_in w.accesses (step_at r at.step).access)
      (classes_at old.first old.stages.items (length old.stages.items))

  -- it is begun now, and no key was probed at it
  begun_now : (s : Stage) → at.step ≡ length old.stages.items → MadeHere s → IsBegun w r at old (old.stages.items ++ s ∷ []) s
  begun_now s next is =
      let counted : length (old.stages.items ++ s ∷ []) ≡ length old.stages.items + 1 = length-append old.stages.items (s ∷ []) in
      let from : s.from.value ≡ classes_at old.first old.stages.items at.step = is.from ∙ ap (classes_at old.first old.stages.items) (sym next) in
      record {
        serves = record {
          stage = is.stage;
          uses = ap (λ k. record { atom = k; access = s.access.value }) is.atom ∙ ap (use_by (step_at r at.step)) is.access;
          before = ap (set_of r.normal) from ∙ set_is w r old tidy agree at.step (omega (arith, next));
        };
        at_step = record { stage = is.stage; atom = is.atom; from = from };
        reach = omega (arith, next);
        few = omega (arith, counted, next, below);
        alike = λ j d l. get_or-front old.stages.items s d j l;
        longer = omega (arith, counted);
        only = λ j l. elim (least j (length old.stages.items) (omega (arith, l, counted))) [ inl m ↦ inl m | inr e ↦ inr (e ∙ sym next) ];
        inside = omega (arith, counted, next);
        here = λ d. ap (λ n. get_or (old.stages.items ++ s ∷ []) n d) next ∙ get_or-last old.stages.items s d;
        kept = λ i l e.
            (let b = tidy.steps (entry_of old.known i) (Has-get_or (entries_in old.known) i ((0, []), []) l) in absurd (omega (arith, b, e, next)));
      }

  pub is_begun : (stages : List Stage) → Begins MadeHere at.step old.stages.items stages → (s : Stage) → get_or stages at.step s ≡ s
      → IsBegun w r at old stages s
  is_begun stages (inl b) s here = subst (λ ss. IsBegun w r at old ss s) (sym b.1) (begun_before b.0 s (ap (λ ss. get_or ss at.step s) (sym b.1) ∙ here))
  is_begun stages (inr b) s here =
      let now = begun_now b.0 b.1 b.3 in
      let same : b.0 ≡ s = sym (now.here s) ∙ ap (λ ss. get_or ss at.step s) (sym b.2) ∙ here in
      subst (IsBegun w r at old stages) same (subst (λ ss. IsBegun w r at old ss b.0) (sym b.2) now)

-- a visit by a stage
module _ (w : World) (r : Route) (at : Pending) (old new : Walk) (tidy : IsTidy r old) (agree : AgreesWith w r.steps (fetched_in old)) (s : Stage)
    (begun : IsBegun w r at old new.stages.items s) (first_same : new.first ≡ old.first) (found : Found) (before now : ℕ)
    (stage_finds : Finds w.rows w.accesses (step_at r at.step).access at.step (key_by r.normal (use_at s) (set_before r.normal s) at.row)
    found old.known new.known before now)
    (goes : Goes r at s (entry_of new.known found.place).1 old new) (known_new : IsKnown new.known)
    (kept_here : AreKept r.normal s (is_last r at.step) new.known at.step) (stack_new : IsStack new.pending) where
  abbrev n : ℕ
  n = at.step

  abbrev key : Row
  key = (probe_of w r at).key

  below : at.step < length r.steps
  below = let inside = begun.inside in let few = begun.few in omega (arith, inside, few)

  abbrev tuples : List Row
  tuples = (entry_of new.known found.place).1

  is_group : tuples ≡ (found_at w r at).tuples
  is_group = found_tuples w r at old agree below s begun.serves found new.known before now stage_finds

  classes_alike : (j : ℕ) → j ≤ length old.stages.items → classes_at new.first new.stages.items j ≡ classes_at old.first old.stages.items j
  classes_alike zero l = first_same
  classes_alike (suc j) l =
      let b : j < length old.stages.items = omega (arith, l) in
      let longer = begun.longer in
      get_or-map (λ (x : Stage). x.join.classes) new.stages.items j s [] (omega (arith, b, longer))
      ∙ ap (λ (x : Stage). x.join.classes) (begun.alike j s b)
      ∙ sym (get_or-map (λ (x : Stage). x.join.classes) old.stages.items j s [] b)

  classes_next : classes_at new.first new.stages.items (n + 1) ≡ s.join.classes
  classes_next = ap (classes_at new.first new.stages.items) (add-one n) ∙ get_or-map (λ (x : Stage). x.join.classes) new.stages.items n s [] begun.inside
      ∙ ap (λ (x : Stage). x.join.classes) (begun.here s)

  access_alike : (j : ℕ) → j < length old.stages.items → get_or (accesses_in new.stages.items) j no_access ≡ get_or (accesses_in old.stages.items) j no_access
  access_alike j l =
      let longer = begun.longer in
      get_or-map (λ (x : Stage). x.access.value) new.stages.items j s no_access (omega (arith, l, longer))
      ∙ ap (λ (x : Stage). x.access.value) (begun.alike j s l) ∙ sym (get_or-map (λ (x : Stage). x.access.value) old.stages.items j s no_access l)

  access_new : get_or (accesses_in new.stages.items) n no_access ≡ access_in w.accesses (step_at r n).access
  access_new = get_or-map (λ (x : Stage). x.access.value) new.stages.items n s no_access begun.inside
      ∙ ap (λ (x : Stage). x.access.value) (begun.here s) ∙ access_is w r at s begun.serves

  stages_new : (j : ℕ) (d : Stage) → j < length new.stages.items → IsStageAt r new.first new.stages.items j (get_or new.stages.items j d)
  stages_new j d l = elim (begun.only j l) [
    | inl b ↦ subst (IsStageAt r new.first new.stages.items j) (sym (begun.alike j d b)) (record {
      stage = (tidy.stages j d b).stage;
      atom = (tidy.stages j d b).atom;
      from = (tidy.stages j d b).from ∙ sym (classes_alike j (omega (arith, b)));
    })
    | inr e ↦ subst (λ k. IsStageAt r new.first new.stages.items k (get_or new.stages.items k d)) (sym e)
        (subst (IsStageAt r new.first new.stages.items n) (sym (begun.here d)) (record {
          stage = begun.at_step.stage;
          atom = begun.at_step.atom;
          from = begun.at_step.from ∙ sym (classes_alike n begun.reach);
        }))
  ]

  -- what is kept of each step's tuples
  kept_new : (j : ℕ) (d : Stage) → j < length new.stages.items → AreKept r.normal (get_or new.stages.items j d) (is_last r j) new.known j
  kept_new j d l = elim (cases_eq j n) [
    | inl e ↦ subst (λ k. AreKept r.normal (get_or new.stages.items k d) (is_last r k) new.known k) (sym e)
        (subst (λ (x : Stage). AreKept r.normal x (is_last r n) new.known n) (sym (begun.here d)) kept_here)
    | inr ne ↦ elim (begun.only j l) [
      | inl b ↦ subst (λ (x : Stage). AreKept r.normal x (is_last r j) new.known j) (sym (begun.alike j d b))
          (kept_elsewhere w.rows w.accesses (step_at r n).access n (key_by r.normal (use_at s) (set_before r.normal s) at.row) found old.known new.known
          before now stage_finds r.normal (get_or old.stages.items j d) (is_last r j) j ne (tidy.kept j d b))
      | inr e ↦ absurd (ne e)
    ]
  ]

  abbrev rows : List Row
  rows = next_by r.normal (use_at s) (set_before r.normal s) at.row tuples

  pending_from : (p : Pending) → Has (pending_in new.pending) p → Has (pending_in old.pending) p ⊎ Has (children at rows) p
  pending_from p h = elim goes [
    | inl x ↦ inl (subst (λ ps. Has ps p) x.1 h)
    | inr x ↦ Has-append_cases (pending_in old.pending) (children at rows) p (subst (λ ps. Has ps p) x.1 h)
  ]

  pending_new : (p : Pending) → Has (pending_in new.pending) p
      → (p.step ≤ length new.stages.items) × (length p.row ≡ length (classes_at new.first new.stages.items p.step))
  pending_new p h = elim (pending_from p h) [
    | inl k ↦ (
        let l = tidy.pending p k in
        let longer = begun.longer in
        (omega (arith, l, longer), tidy.wide p k ∙ ap length (sym (classes_alike p.step l))))
    | inr k ↦ (
        let m = Has-from_map (pending_at (n + 1)) (next_by r.normal (use_at s) (set_before r.normal s) at.row tuples) p k in
        let inside = begun.inside in
        subst (λ (q : Pending). (q.step ≤ length new.stages.items) × (length q.row ≡ length (classes_at new.first new.stages.items q.step))) (sym m.2)
        (omega (arith, inside), next_wide r.normal s at.row tuples m.0 begun.serves.stage m.1 ∙ ap length (sym classes_next)))
  ]

  set_next : bound_with r.normal (use_at s) (set_before r.normal s) ≡ set_at w r (n + 1)
  set_next = ap (λ v. bound_with r.normal v (set_before r.normal s)) begun.serves.uses
      ∙ ap (bound_with r.normal (use_by (step_at r n) (access_in w.accesses (step_at r n).access))) begun.serves.before
      ∙ sym (set_more w r n below)

  gone_on : GoesOn (length r.steps) at (next_at w r at) (outputs_at w r at) (pending_in old.pending) (pending_in new.pending) old.through new.through
  gone_on =
      let same = next_is w r at s begun.serves tuples is_group in
      elim goes [
        | inl x ↦ inl (
          x.0,
          x.1,
          subst (λ ys. SameMembers new.through (old.through ++ ys)) (ap (λ set. map (output_row r.normal set) rows) (set_next ∙ ap (set_at w r) x.0)
              ∙ ap (map (output_row r.normal (set_at w r (length r.steps)))) same) x.2,
        )
        | inr x ↦ inr (x.0, x.1 ∙ ap (λ rs. (pending_in old.pending) ++ children at rs) same, x.2)
      ]

  old_alike : map (fetched_at new.stages.items) (entries_in old.known) ≡ map (fetched_at old.stages.items) (entries_in old.known)
  old_alike = map_alike (fetched_at new.stages.items) (fetched_at old.stages.items) (entries_in old.known)
      (λ e h. let c = access_alike e.0.0 (tidy.steps e h) in ap (λ a. record { probe = probe_at e.0.0 e.0.1; access = a; tuples = e.1 }) c)

  abbrev one : Entry
  one = ((n, key), (found_at w r at).tuples)

  one_is : fetched_at new.stages.items one ≡ found_at w r at
  one_is = ap (λ a. record { probe = probe_of w r at; access = a; tuples = (found_at w r at).tuples }) access_new

  -- the tuples were known
  module _ (entries : entries_in new.known ≡ (entries_in old.known)) (known : Has (entries_in old.known) one) where
    all_same : fetched_in new ≡ fetched_in old
    all_same = ap (λ es. in_order (map (fetched_at new.stages.items) es)) entries ∙ ap in_order old_alike

    known_outcome : Outcome w r at false old new
    known_outcome = record {
      tidy = record {
        first = first_same ∙ tidy.first;
        few = begun.few;
        stages = stages_new;
        steps = λ e h. (let l = tidy.steps e (subst (λ es. Has es e) entries h) in let longer = begun.longer in omega (arith, l, longer));
        each = λ j l. elim (begun.only j l) [
          | inl b ↦ (let e = tidy.each j b in (e.0, subst (λ es. Has es e.0) (sym entries) e.1, e.2))
          | inr e ↦ (one, subst (λ es. Has es one) (sym entries) known, sym e)
        ];
        pending = λ p h. (pending_new p h).0;
        wide = λ p h. (pending_new p h).1;
        known = known_new;
        kept = kept_new;
        stack = stack_new;
        ordered = subst (λ fs. IsInOrder probe_cmp (made fs)) (sym all_same) tidy.ordered;
      };
      visited = record {
        goes_on = gone_on;
        made = subst (Has (fetched_in new)) one_is (fetched_here new one (subst (λ es. Has es one) (sym entries) known));
        others = λ f h. inr (subst (λ fs. Has fs f) all_same h);
        stay = λ f h. subst (λ fs. Has fs f) (sym all_same) h;
        was_due = λ e. absurd (differ e);
        more = λ e. absurd (differ e);
        all_reads = λ e. absurd (differ e);
        was_known = λ e. all_same;
      };
    }
      where
        differ : false ≡ true → ⊥
        differ e = cc

  -- they were probed
  module _ (none : WasNotProbed old.known n key) (entries : entries_in new.known ≡ entries_in old.known ++ one ∷ []) where
    all_new : fetched_in new ≡ put_in (found_at w r at) (fetched_in old)
    all_new = ap (λ es. in_order (map (fetched_at new.stages.items) es)) entries
        ∙ ap in_order (map-append (fetched_at new.stages.items) (entries_in old.known) (one ∷ []))
        ∙ in_order_more (map (fetched_at new.stages.items) (entries_in old.known)) (fetched_at new.stages.items one)
        ∙ ap (λ f. put_in f (in_order (map (fetched_at new.stages.items) (entries_in old.known)))) one_is
        ∙ ap (λ fs. put_in (found_at w r at) (in_order fs)) old_alike

    has_one : Has (entries_in new.known) one
    has_one = subst (λ es. Has es one) (sym entries) (Has-append_right (entries_in old.known) (one ∷ []) one (inl refl))

    stays : (e : Entry) → Has (entries_in old.known) e → Has (entries_in new.known) e
    stays e h = subst (λ es. Has es e) (sym entries) (Has-append_left (entries_in old.known) (one ∷ []) e h)

    from_new : (e : Entry) → Has (entries_in new.known) e → (e ≡ one) ⊎ Has (entries_in old.known) e
    from_new e h = elim (Has-append_cases (entries_in old.known) (one ∷ []) e (subst (λ es. Has es e) entries h)) [
      | inl k ↦ inr k
      | inr k ↦ elim k [ inl d ↦ inl d | inr none_here ↦ absurd none_here ]
    ]

    probed_outcome : Outcome w r at true old new
    probed_outcome = record {
      tidy = record {
        first = first_same ∙ tidy.first;
        few = begun.few;
        stages = stages_new;
        steps = λ e h. elim (from_new e h) [
          | inl k ↦ subst (λ (x : Entry). x.0.0 < length new.stages.items) (sym k) begun.inside
          | inr k ↦ (let l = tidy.steps e k in let longer = begun.longer in omega (arith, l, longer))
        ];
        each = λ j l. elim (begun.only j l) [
          | inl b ↦ (let e = tidy.each j b in (e.0, stays e.0 e.1, e.2))
          | inr e ↦ (one, has_one, sym e)
        ];
        pending = λ p h. (pending_new p h).0;
        wide = λ p h. (pending_new p h).1;
        known = known_new;
        kept = kept_new;
        stack = stack_new;
        ordered = subst (λ fs. IsInOrder probe_cmp (made fs)) (sym all_new)
            (IsInOrder-put (found_at w r at) (fetched_in old) tidy.ordered (not_known w r at old none));
      };
      visited = record {
        goes_on = gone_on;
        made = subst (λ fs. Has fs (found_at w r at)) (sym all_new) (Has-put (found_at w r at) (fetched_in old));
        others = λ f h. Has-from_put (found_at w r at) (fetched_in old) f (subst (λ fs. Has fs f) all_new h);
        stay = λ f h. subst (λ fs. Has fs f) (sym all_new) (Has-put_old (found_at w r at) (fetched_in old) f h);
        was_due = λ e. not_known w r at old none;
        more = λ e. ap length all_new ∙ length-put (found_at w r at) (fetched_in old);
        all_reads = λ e. ap fetched_reads all_new ∙ reads-put (found_at w r at) (fetched_in old);
        was_known = λ e. absurd (differ e);
      };
    }
      where
        differ : true ≡ false → ⊥
        differ e = cc

  pub outcome : Outcome w r at (probed found.reads) old new
  outcome = by found.reads (finds w r at old agree below s begun.serves found new.known before now stage_finds).grew
    where
      by : (o : Option ℕ) → Grew w.rows w.accesses (step_at r at.step).access at.step key o old.known new.known before now → Outcome w r at (probed o) old new
      by None grew = known_outcome grew.0 (known_entry w r at old agree below s begun.serves found new.known before now stage_finds grew.0)
      by (Some reads) grew = probed_outcome grew.0 grew.1

-- A walk from each valuation before some steps reaches the valuations after them, and wants their probes.
use Rattle.std.proofs.Common.{◌≡◌, ◌+◌, List, [], ◌∷◌, ◌++◌, length, map, inl, inr, refl, ap, sym, ◌∙◌, subst, append_assoc, length-append}
use Rattle.std.specs.List.{flat_map}
use Rattle.beas_core.specs.declared.schema.Access.{Access}
use Rattle.beas_core.specs.declared.plan.DStep.{DStep}
use Rattle.beas_core.specs.declared.plan.Normal.{Normal}
use Rattle.beas_core.specs.Types.{Row, TableRows, ClassSet, Guide}
use Rattle.beas_core.specs.Order.{row_cmp_total}
use Rattle.std.proofs.lemmas.List.{append-nil}
use Rattle.beas_core.specs.Derivations.{bound_by, bound_after}
use Rattle.beas_core.specs.Valuations.{valuations}
use Rattle.beas_core.specs.Reads.{Probe, key_for, keys_after, probes_after}
use Rattle.beas_core.proofs.Sets.{Has, Has-map, Has-from_map, Has-filter, Has-from_filter, Has-append_left, Has-append_right, Has-append_cases, Has-distinct, Has-from_distinct}
use Rattle.beas_core.proofs.ValueOrder.{row_cmp_tells}
use Rattle.beas_core.specs.Extensions.{extensions, extensions_of, keep_met, meets_bound}
use Rattle.beas_core.specs.Fronts.{FrontsExtend, classes_after}
use Rattle.beas_core.proofs.MemberTests.{Has-flat_map, Has-from_flat_map}
use Rattle.block_walk.specs.Descents.{kept_from, reached, wanted}

module _ (rows : TableRows) (normal : Normal) (accesses : List Access) where
  -- one step, by members
  step_there : (s : DStep) (set : ClassSet) (found : List Row) (u : Row)
      → Has (keep_met normal (bound_by normal accesses set s) (extensions rows normal accesses s set found)) u
      → Has (flat_map (kept_from rows normal accesses s set) found) u
  step_there s set found u h =
      let met = meets_bound normal (bound_by normal accesses set s) in
      let f = Has-from_filter met (extensions rows normal accesses s set found) u h in
      let d = Has-from_distinct row_cmp_total row_cmp_tells (flat_map (extensions_of rows normal accesses s set) found) u f.0 in
      let m = Has-from_flat_map (extensions_of rows normal accesses s set) found u d in
      Has-flat_map (kept_from rows normal accesses s set) found m.0 u m.1 (Has-filter met (extensions_of rows normal accesses s set m.0) u m.2 f.1)

  step_back : (s : DStep) (set : ClassSet) (found : List Row) (u : Row) → Has (flat_map (kept_from rows normal accesses s set) found) u
      → Has (keep_met normal (bound_by normal accesses set s) (extensions rows normal accesses s set found)) u
  step_back s set found u h =
      let met = meets_bound normal (bound_by normal accesses set s) in
      let m = Has-from_flat_map (kept_from rows normal accesses s set) found u h in
      let f = Has-from_filter met (extensions_of rows normal accesses s set m.0) u m.2 in
      Has-filter met (extensions rows normal accesses s set found) u
      (Has-distinct row_cmp_total row_cmp_tells (flat_map (extensions_of rows normal accesses s set) found) u
      (Has-flat_map (extensions_of rows normal accesses s set) found m.0 u m.1 f.0)) f.1

  -- flat maps of flat maps, by members
  deeper : {A B : Type 0} (f : A → List Row) (g : Row → List B) (xs : List A) (ys : List Row) (b : B)
      → ((u : Row) → Has (flat_map f xs) u → Has ys u) → Has (flat_map (λ x. flat_map g (f x)) xs) b → Has (flat_map g ys) b
  deeper f g xs ys b into h =
      let m = Has-from_flat_map (λ x. flat_map g (f x)) xs b h in
      let k = Has-from_flat_map g (f m.0) b m.2 in
      Has-flat_map g ys k.0 b (into k.0 (Has-flat_map f xs m.0 k.0 m.1 k.1)) k.2

  shallower : {A B : Type 0} (f : A → List Row) (g : Row → List B) (xs : List A) (ys : List Row) (b : B)
      → ((u : Row) → Has ys u → Has (flat_map f xs) u) → Has (flat_map g ys) b → Has (flat_map (λ x. flat_map g (f x)) xs) b
  shallower f g xs ys b from h =
      let k = Has-from_flat_map g ys b h in
      let m = Has-from_flat_map f xs k.0 (from k.0 k.1) in
      Has-flat_map (λ x. flat_map g (f x)) xs m.0 b m.1 (Has-flat_map g (f m.0) k.0 b m.2 k.2)

  module _ (guide : Guide) (all : List DStep) (extend : FrontsExtend rows normal accesses guide all) where
    abbrev front : List DStep → List Row
    front done = valuations rows normal accesses guide done

    abbrev classes : List DStep → ClassSet
    classes done = classes_after normal accesses guide done

    -- the next front, where s is the step that follows
    next_there : (done later : List DStep) (s : DStep) → all ≡ done ++ s ∷ later → (u : Row) → Has (front (done ++ s ∷ [])) u
        → Has (flat_map (kept_from rows normal accesses s (classes done)) (front done)) u
    next_there done later s e u h = step_there s (classes done) (front done) u (subst (λ r. Has r u) (extend.step done later s e) h)

    next_back : (done later : List DStep) (s : DStep) → all ≡ done ++ s ∷ later → (u : Row)
        → Has (flat_map (kept_from rows normal accesses s (classes done)) (front done)) u → Has (front (done ++ s ∷ [])) u
    next_back done later s e u h = subst (λ r. Has r u) (sym (extend.step done later s e)) (step_back s (classes done) (front done) u h)

    moved : (done later : List DStep) (s : DStep) → all ≡ done ++ s ∷ later → all ≡ (done ++ s ∷ []) ++ later
    moved done later s e = e ∙ sym (append_assoc done (s ∷ []) later)

    classes_next : (done : List DStep) (s : DStep) → classes (done ++ s ∷ []) ≡ bound_by normal accesses (classes done) s
    classes_next done s = more done (classes [])
      where
        more : (front_steps : List DStep) (set : ClassSet) → bound_after normal accesses set (front_steps ++ s ∷ [])
            ≡ bound_by normal accesses (bound_after normal accesses set front_steps) s
        more [] set = refl
        more (t ∷ ts) set = more ts (bound_by normal accesses set t)

    pub reached_there : (steps done : List DStep) → all ≡ done ++ steps → (y : Row) → Has (front (done ++ steps)) y
        → Has (flat_map (reached rows normal accesses steps (classes done)) (front done)) y
    reached_there [] done e y h = Has-flat_map (reached rows normal accesses [] (classes done)) (front done) y y
        (subst (λ d. Has (front d) y) (append-nil done) h) (inl refl)
    reached_there (s ∷ steps) done e y h =
        let later = reached_there steps (done ++ s ∷ []) (moved done steps s e) y (subst (λ d. Has (front d) y) (sym (append_assoc done (s ∷ []) steps)) h) in
        let same = subst (λ set. Has (flat_map (reached rows normal accesses steps set) (front (done ++ s ∷ []))) y) (classes_next done s) later in
        shallower (kept_from rows normal accesses s (classes done)) (reached rows normal accesses steps (bound_by normal accesses (classes done) s))
        (front done) (front (done ++ s ∷ [])) y (next_there done steps s e) same

    pub reached_back : (steps done : List DStep) → all ≡ done ++ steps → (y : Row)
        → Has (flat_map (reached rows normal accesses steps (classes done)) (front done)) y → Has (front (done ++ steps)) y
    reached_back [] done e y h =
        let m = Has-from_flat_map (reached rows normal accesses [] (classes done)) (front done) y h in
        subst (λ d. Has (front d) y) (sym (append-nil done)) (elim m.2 [ inl k ↦ subst (Has (front done)) (sym k) m.1 | inr n ↦ absurd n ])
    reached_back (s ∷ steps) done e y h =
        let same = deeper (kept_from rows normal accesses s (classes done)) (reached rows normal accesses steps (bound_by normal accesses (classes done) s))
        (front done) (front (done ++ s ∷ [])) y (next_back done steps s e) h in
        let later = subst (λ set. Has (flat_map (reached rows normal accesses steps set) (front (done ++ s ∷ []))) y) (sym (classes_next done s)) same in
        subst (λ d. Has (front d) y) (append_assoc done (s ∷ []) steps) (reached_back steps (done ++ s ∷ []) (moved done steps s e) y later)

    -- the probes of the steps that are left
    abbrev wants : List DStep → List DStep → List Probe
    wants done steps = flat_map (wanted rows normal accesses (length done) steps (classes done)) (front done)

    abbrev probe_at : List DStep → Row → Probe
    probe_at done key = record { step = length done; key = key }

    pub wanted_there : (steps done : List DStep) → all ≡ done ++ steps → (p : Probe) → Has (probes_after rows normal accesses guide done steps) p
        → Has (wants done steps) p
    wanted_there [] done e p h = absurd h
    wanted_there (s ∷ steps) done e p h =
        elim (Has-append_cases (map (probe_at done) (keys_after rows normal accesses guide done s))
        (probes_after rows normal accesses guide (done ++ s ∷ []) steps) p h) [
          | inl k ↦ (
              let m = Has-from_map (probe_at done) (keys_after rows normal accesses guide done s) p k in
              let d = Has-from_distinct row_cmp_total row_cmp_tells (map (key_for normal accesses s (classes done)) (front done)) m.0 m.1 in
              let v = Has-from_map (key_for normal accesses s (classes done)) (front done) m.0 d in
              Has-flat_map (wanted rows normal accesses (length done) (s ∷ steps) (classes done)) (front done) v.0 p v.1
              (inl (m.2 ∙ ap (probe_at done) v.2)))
          | inr k ↦ (
              let later = wanted_there steps (done ++ s ∷ []) (moved done steps s e) p k in
              let count : length (done ++ s ∷ []) ≡ length done + 1 = length-append done (s ∷ []) in
              let same = subst (λ n. Has (flat_map (wanted rows normal accesses n steps (bound_by normal accesses (classes done) s))
              (front (done ++ s ∷ []))) p) count
              (subst (λ set. Has (flat_map (wanted rows normal accesses (length (done ++ s ∷ [])) steps set) (front (done ++ s ∷ []))) p)
              (classes_next done s) later) in
              let deep = shallower (kept_from rows normal accesses s (classes done))
              (wanted rows normal accesses (length done + 1) steps (bound_by normal accesses (classes done) s))
              (front done) (front (done ++ s ∷ [])) p (next_there done steps s e) same in
              let m = Has-from_flat_map (λ v. flat_map (wanted rows normal accesses (length done + 1) steps (bound_by normal accesses (classes done) s))
              (kept_from rows normal accesses s (classes done) v)) (front done) p deep in
              Has-flat_map (wanted rows normal accesses (length done) (s ∷ steps) (classes done)) (front done) m.0 p m.1 (inr m.2))
        ]

    pub wanted_back : (steps done : List DStep) → all ≡ done ++ steps → (p : Probe) → Has (wants done steps) p
        → Has (probes_after rows normal accesses guide done steps) p
    wanted_back [] done e p h =
        let m = Has-from_flat_map (wanted rows normal accesses (length done) [] (classes done)) (front done) p h in absurd m.2
    wanted_back (s ∷ steps) done e p h =
        let m = Has-from_flat_map (wanted rows normal accesses (length done) (s ∷ steps) (classes done)) (front done) p h in
        let here = map (probe_at done) (keys_after rows normal accesses guide done s) in
        let rest = probes_after rows normal accesses guide (done ++ s ∷ []) steps in
        elim m.2 [
          | inl k ↦ Has-append_left here rest p
              (subst (Has here) (sym k) (Has-map (probe_at done) (keys_after rows normal accesses guide done s) (key_for normal accesses s (classes done) m.0)
              (Has-distinct row_cmp_total row_cmp_tells (map (key_for normal accesses s (classes done)) (front done))
              (key_for normal accesses s (classes done) m.0) (Has-map (key_for normal accesses s (classes done)) (front done) m.0 m.1))))
          | inr k ↦ (
              let count : length (done ++ s ∷ []) ≡ length done + 1 = length-append done (s ∷ []) in
              let deep = Has-flat_map (λ v. flat_map (wanted rows normal accesses (length done + 1) steps (bound_by normal accesses (classes done) s))
              (kept_from rows normal accesses s (classes done) v)) (front done) m.0 p m.1 k in
              let same = deeper (kept_from rows normal accesses s (classes done))
              (wanted rows normal accesses (length done + 1) steps (bound_by normal accesses (classes done) s))
              (front done) (front (done ++ s ∷ [])) p (next_back done steps s e) deep in
              let later = subst (λ set. Has (flat_map (wanted rows normal accesses (length (done ++ s ∷ [])) steps set) (front (done ++ s ∷ []))) p)
              (sym (classes_next done s))
              (subst (λ n. Has (flat_map (wanted rows normal accesses n steps (bound_by normal accesses (classes done) s))
              (front (done ++ s ∷ []))) p) (sym count) same) in
              Has-append_right here rest p (wanted_back steps (done ++ s ∷ []) (moved done steps s e) p later))
        ]

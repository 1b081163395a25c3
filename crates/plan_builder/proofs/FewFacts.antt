-- What is planned of a block depends on the constraints on its atoms' tables alone.
use Rattle.std.proofs.Common.{◌≡◌, ◌==◌, ◌&&◌, ◌||◌, ℕ, zero, suc, Bool, true, false, not, cond, List, [], ◌∷◌, ◌++◌, map, Option, Some, None, inl, inr, refl, ap, sym, ◌∙◌}
use Rattle.std.specs.List.{Contains, filter, find, list_any, list_all, range_with_len}
use Rattle.std.specs.Option.{option_map, option_or}
use Rattle.std.proofs.lemmas.List.Elements.{All-contains}
use Rattle.beas_core.specs.declared.plan.DStep.{DStep}
use Rattle.beas_core.specs.declared.plan.Normal.{Normal}
use Rattle.beas_core.specs.declared.plan.NotCovered.TheVariants.{ColumnOpen, AtomUnindexed}
use Rattle.beas_core.specs.declared.schema.Access.{Access}
use Rattle.beas_core.specs.Types.{ClassSet, Use}
use Rattle.beas_core.specs.Shapes.{EachIdOnce}
use Rattle.beas_core.specs.Coverage.{atoms_of, constant_classes, covered_set, fetched_classes, grow, grow_times, has, holds_classes, is_covered, is_open, key_classes, needed_places, own_cover, own_is_covered, reason, serves, start_classes, uses}
use Rattle.beas_core.specs.Derivations.{adding_steps, adds_class, bound_after, enabled_uses, greedy_steps, is_live, is_served_by, least_bound, serving_steps, step_of, then_step, use_of, with_use}
use Rattle.beas_core.specs.Guiding.{is_guided_task, task_reason, task_start, task_steps}
use Rattle.beas_core.specs.Pruning.{derivation, pruned}
use Rattle.beas_core.proofs.Sets.{Has, Has-append_left, Contains-from_has}
use Rattle.beas_core.proofs.MoreAccesses.{bound_agrees, same_access}
use Rattle.beas_core.proofs.SoundDerivations.{greedy_sound}
use Rattle.plan_builder.specs.Parts.{normal_task}
use Rattle.plan_builder.specs.Trials.{steps_from, uses_pruned}
use Rattle.plan_builder.proofs.Drops.{left_by_uses}
use Rattle.plan_builder.proofs.Turns.{greedy_some, served_same}

-- both lists give a block the same uses, and the shorter one is among the longer
module _ (normal : Normal) (few many : List Access) (once_few : EachIdOnce few) (once : EachIdOnce many)
    (within : (access : Access) → Contains few access → Contains many access) (same : uses normal few ≡ uses normal many) where
  -- ---- what they cover

  same_covered : (set : ClassSet) → is_covered normal few set ≡ is_covered normal many set
  unfolding is_covered
  same_covered set = ap (λ us. not (list_any (is_open normal set) (needed_places normal))
      && list_all (λ atom. list_any (λ u. (u.atom == atom) && serves normal set u) us) (atoms_of normal)) same

  same_reason : (set : ClassSet) → reason normal few set ≡ reason normal many set
  unfolding reason
  same_reason set = ap (λ us. option_or
      (option_map (λ p. ColumnOpen p.atom p.column) (find (is_open normal set) (needed_places normal)))
      (option_map (λ atom. AtomUnindexed atom) (find (λ atom. not (list_any (λ u. (u.atom == atom) && serves normal set u) us)) (atoms_of normal)))) same

  same_grow : (set : ClassSet) → grow normal few set ≡ grow normal many set
  same_grow set = ap (λ us. map (λ c. has set c
      || list_any (λ u. holds_classes set (key_classes normal u) && list_any (λ d. d == c) (fetched_classes normal u)) us)
      (range_with_len 0 normal.count)) same

  same_grown : (n : ℕ) (set : ClassSet) → grow_times n normal few set ≡ grow_times n normal many set
  same_grown zero set = refl
  same_grown (suc n) set = same_grow (grow_times n normal few set) ∙ ap (grow normal many) (same_grown n set)

  same_cover : (start : ClassSet) → covered_set normal few start ≡ covered_set normal many start
  unfolding covered_set
  same_cover start = same_grown normal.count start

  -- ---- the steps that add classes

  abbrev Adding : List Access → ℕ → ClassSet → Option Use → Option (List DStep)
  Adding accesses n set o = then_step o None (λ u. option_map (λ steps. step_of normal set u ∷ steps) (adding_steps n normal accesses (with_use normal set u)))

  adding_chosen : (n : ℕ) (set : ClassSet) (o : Option Use) → ((s : ClassSet) → adding_steps n normal few s ≡ adding_steps n normal many s)
      → Adding few n set o ≡ Adding many n set o
  adding_chosen n set None later = refl
  adding_chosen n set (Some u) later = ap (option_map (λ steps. step_of normal set u ∷ steps)) (later (with_use normal set u))

  same_adding : (n : ℕ) (set : ClassSet) → adding_steps n normal few set ≡ adding_steps n normal many set
  same_adding zero set = ap (λ b. cond b (Some []) None) (same_covered set)
  same_adding (suc n) set =
      ap (λ b. cond b (Some []) (Adding few n set (least_bound (enabled_uses normal few set)))) (same_covered set)
      ∙ ap (λ us. cond (is_covered normal many set) (Some []) (Adding few n set
      (least_bound (filter (λ u. holds_classes set (key_classes normal u) && adds_class normal set u) us)))) same
      ∙ ap (λ o. cond (is_covered normal many set) (Some []) o)
      (adding_chosen n set (least_bound (enabled_uses normal many set)) (same_adding n))

  -- ---- the steps that serve atoms

  abbrev AreLive : List DStep → Type 0
  AreLive steps = (s : DStep) → Has steps s → is_live few s.access ≡ true

  same_uses_of : (steps : List DStep) → AreLive steps → map (use_of few) steps ≡ map (use_of many) steps
  same_uses_of [] live = refl
  same_uses_of (s ∷ steps) live =
      ap (λ (a : Access). record { atom = s.atom; access = a } ∷ map (use_of few) steps) (sym (same_access few many once within s.access (live s (inl refl))))
      ∙ ap (λ us. use_of many s ∷ us) (same_uses_of steps (λ t m. live t (inr m)))

  same_served : (steps : List DStep) → AreLive steps → (atom : ℕ) → is_served_by normal few steps atom ≡ is_served_by normal many steps atom
  same_served steps live atom =
      served_same normal few steps (map (use_of many) steps) atom (same_uses_of steps live)
      ∙ sym (served_same normal many steps (map (use_of many) steps) atom refl)

  serving_chosen : (set : ClassSet) (b : Bool) (o : Option Use) (one other : ClassSet → List DStep) → ((s : ClassSet) → one s ≡ other s)
      → cond b (one set) (then_step o (one set) (λ u. step_of normal set u ∷ one (with_use normal set u)))
      ≡ cond b (other set) (then_step o (other set) (λ u. step_of normal set u ∷ other (with_use normal set u)))
  serving_chosen set true o one other e = e set
  serving_chosen set false None one other e = e set
  serving_chosen set false (Some u) one other e = ap (λ more. step_of normal set u ∷ more) (e (with_use normal set u))

  same_serving : (steps : List DStep) → AreLive steps → (atoms : List ℕ) (set : ClassSet)
      → serving_steps normal few steps set atoms ≡ serving_steps normal many steps set atoms
  same_serving steps live [] set = refl
  same_serving steps live (atom ∷ atoms) set =
      let rest : ClassSet → List DStep = λ s. serving_steps normal few steps s atoms in
      ap (λ b. cond b (rest set) (then_step (least_bound (filter (λ u. (u.atom == atom) && serves normal set u) (uses normal few))) (rest set)
      (λ u. step_of normal set u ∷ rest (with_use normal set u)))) (same_served steps live atom)
      ∙ ap (λ us. cond (is_served_by normal many steps atom) (rest set)
      (then_step (least_bound (filter (λ u. (u.atom == atom) && serves normal set u) us)) (rest set)
      (λ u. step_of normal set u ∷ rest (with_use normal set u)))) same
      ∙ serving_chosen set (is_served_by normal many steps atom)
      (least_bound (filter (λ u. (u.atom == atom) && serves normal set u) (uses normal many))) rest
      (λ s. serving_steps normal many steps s atoms) (same_serving steps live atoms)

  -- ---- the derivation

  live_first : (start : ClassSet) (first : List DStep) → adding_steps normal.count normal few start ≡ Some first → AreLive first
  live_first start first e s m =
      let more = serving_steps normal few first (bound_after normal few start first) (atoms_of normal) in
      let sound = greedy_sound normal few once_few start (first ++ more) (greedy_some normal few start first e) in
      All-contains (λ t. is_live few t.access ≡ true) (first ++ more) s sound.live (Contains-from_has (first ++ more) s (Has-append_left first more s m))

  same_whole : (start : ClassSet) (first : List DStep) → adding_steps normal.count normal few start ≡ Some first
      → first ++ serving_steps normal few first (bound_after normal few start first) (atoms_of normal)
      ≡ first ++ serving_steps normal many first (bound_after normal many start first) (atoms_of normal)
  same_whole start first e =
      let live = live_first start first e in
      ap (λ more. first ++ more) (same_serving first live (atoms_of normal) (bound_after normal few start first)
      ∙ ap (λ set. serving_steps normal many first set (atoms_of normal))
      (sym (bound_agrees normal few many first start (λ s m. same_access few many once within s.access (live s m)))))

  same_greedy : (start : ClassSet) → greedy_steps normal few start ≡ greedy_steps normal many start
  unfolding greedy_steps
  same_greedy start = by (adding_steps normal.count normal few start) refl
      ∙ ap (option_map (λ steps. steps ++ serving_steps normal many steps (bound_after normal many start steps) (atoms_of normal)))
      (same_adding normal.count start)
    where
      by : (o : Option (List DStep)) → adding_steps normal.count normal few start ≡ o
          → option_map (λ steps. steps ++ serving_steps normal few steps (bound_after normal few start steps) (atoms_of normal)) o
          ≡ option_map (λ steps. steps ++ serving_steps normal many steps (bound_after normal many start steps) (atoms_of normal)) o
      by None e = refl
      by (Some first) e = ap Some (same_whole start first e)

  same_pruned : (start : ClassSet) (steps : List DStep) → greedy_steps normal few start ≡ Some steps
      → pruned normal few start steps ≡ pruned normal many start steps
  same_pruned start steps e =
      let sound = greedy_sound normal few once_few start steps e in
      let live : AreLive steps = λ s m. All-contains (λ t. is_live few t.access ≡ true) steps s sound.live (Contains-from_has steps s m) in
      sym (left_by_uses normal few start steps sound)
      ∙ ap (λ us. steps_from normal start (uses_pruned normal start us)) (same_uses_of steps live)
      ∙ left_by_uses normal many start steps (greedy_sound normal many once start steps (sym (same_greedy start) ∙ e))

  same_derivation : (start : ClassSet) → derivation normal few start ≡ derivation normal many start
  unfolding derivation
  same_derivation start = by (greedy_steps normal few start) refl ∙ ap (option_map (pruned normal many start)) (same_greedy start)
    where
      by : (o : Option (List DStep)) → greedy_steps normal few start ≡ o
          → option_map (pruned normal few start) o ≡ option_map (pruned normal many start) o
      by None e = refl
      by (Some steps) e = ap Some (same_pruned start steps e)

  -- ---- the block as a task

  same_own : own_is_covered normal few ≡ own_is_covered normal many
  same_own = ap (is_covered normal few) (same_cover (constant_classes normal)) ∙ same_covered (own_cover normal many)

  pub same_guided : (has_guide : Bool) → is_guided_task (normal_task normal few has_guide) ≡ is_guided_task (normal_task normal many has_guide)
  same_guided has_guide = ap (λ b. has_guide && not b) same_own

  pub same_task_reason : (has_guide : Bool) → task_reason (normal_task normal few has_guide) ≡ task_reason (normal_task normal many has_guide)
  same_task_reason has_guide =
      let start = task_start (normal_task normal many has_guide) in
      ap (λ b. reason normal few (covered_set normal few (start_classes normal b))) (same_guided has_guide)
      ∙ ap (reason normal few) (same_cover start) ∙ same_reason (covered_set normal many start)

  pub same_task_steps : (has_guide : Bool) → task_steps (normal_task normal few has_guide) ≡ task_steps (normal_task normal many has_guide)
  same_task_steps has_guide =
      ap (λ b. derivation normal few (start_classes normal b)) (same_guided has_guide)
      ∙ same_derivation (task_start (normal_task normal many has_guide))

-- A pass over the uses of a derivation, one at a time.
use Rattle.std.proofs.Common.{◌≡◌, ◌&&◌, ◌+◌, ◌<◌, ◌≤◌, ℕ, Bool, true, false, not, cond, nat_lt, List, [], ◌∷◌, length, map, drop, get_or, Option, Some, None, ap, sym, ◌∙◌, arith}
use Rattle.std.specs.List.{find}
use Rattle.std.proofs.lemmas.List.{drop_more, drop_all}
use Rattle.std.proofs.lemmas.Bool.Decides.{nat_tests}
use Rattle.beas_core.specs.declared.plan.Normal.{Normal}
use Rattle.beas_core.specs.declared.plan.Sizes.{Sizes}
use Rattle.beas_core.specs.declared.query.Place.{Place}
use Rattle.beas_core.specs.Types.{ClassSet, Use}
use Rattle.beas_core.specs.Coverage.{holds_classes, is_open, key_classes, needed_places}
use Rattle.beas_core.specs.Derivations.{step_of, with_use}
use Rattle.attribute_closure.specs.declared.uses.UseAt.{UseAt}
use Rattle.attribute_closure.specs.Uses.{as_use}
use Rattle.plan_builder.specs.Fronts.{SizesAre, reads_or_cap}
use Rattle.plan_builder.specs.Trials.{all_are_served, are_sound, binds_needed, capped_uses, keys_are_bound, set_after, steps_from, uses_pruned_at, uses_without}
use Rattle.plan_builder.proofs.CandidateFacts.{none_open, some_open}

abbrev pub uses_left : ℕ → List UseAt → List Use
uses_left i us = map as_use (drop i us)

module _ (normal : Normal) (set : ClassSet) (us : List UseAt) (i : ℕ) where
  module _ (d : UseAt) (l : i < length us) where
    one_more : uses_left i us ≡ as_use (get_or us i d) ∷ uses_left (i + 1) us
    one_more = ap (map as_use) (drop_more us i d l)

    pub keys_broken : holds_classes set (key_classes normal (as_use (get_or us i d))) ≡ false → keys_are_bound normal set (uses_left i us) ≡ false
    keys_broken h = ap (keys_are_bound normal set) one_more
        ∙ ap (λ b. b && keys_are_bound normal (with_use normal set (as_use (get_or us i d))) (uses_left (i + 1) us)) h

    pub keys_go_on : holds_classes set (key_classes normal (as_use (get_or us i d))) ≡ true
        → keys_are_bound normal set (uses_left i us) ≡ keys_are_bound normal (with_use normal set (as_use (get_or us i d))) (uses_left (i + 1) us)
    keys_go_on h = ap (keys_are_bound normal set) one_more
        ∙ ap (λ b. b && keys_are_bound normal (with_use normal set (as_use (get_or us i d))) (uses_left (i + 1) us)) h

    pub steps_go_on : steps_from normal set (uses_left i us)
        ≡ step_of normal set (as_use (get_or us i d)) ∷ steps_from normal (with_use normal set (as_use (get_or us i d))) (uses_left (i + 1) us)
    steps_go_on = ap (steps_from normal set) one_more

  module _ (l : length us ≤ i) where
    none_left : uses_left i us ≡ []
    none_left = ap (map as_use) (drop_all i us l)

    pub keys_end : keys_are_bound normal set (uses_left i us) ≡ true
    keys_end = ap (keys_are_bound normal set) none_left

    pub steps_end : steps_from normal set (uses_left i us) ≡ []
    steps_end = ap (steps_from normal set) none_left

pub reads_are_capped : (normal : Normal) (start : ClassSet) (us : List Use) (sizes : Option Sizes) → SizesAre normal start us sizes
    → reads_or_cap sizes ≡ capped_uses normal start us
reads_are_capped normal start us None h = let past = h.are in grind (arith, nat_tests, past)
reads_are_capped normal start us (Some sizes) h =
    let is = ap (λ (s : Sizes). s.reads) h.are in
    let small = h.small in
    grind (arith, nat_tests, is, small)

module _ (normal : Normal) (start : ClassSet) (us : List Use) where
  pub unbound_key : keys_are_bound normal start us ≡ false → false ≡ are_sound normal start us
  unbound_key h = sym (ap (λ k. k && binds_needed normal (set_after normal start us) && all_are_served normal us) h)

  module _ (set : ClassSet) (bound : keys_are_bound normal start us ≡ true) (after : set ≡ set_after normal start us) where
    pub open_left : (p : Place) → find (is_open normal set) (needed_places normal) ≡ Some p → false ≡ are_sound normal start us
    open_left p h = sym (ap (λ k. k && binds_needed normal (set_after normal start us) && all_are_served normal us) bound
        ∙ ap (λ s. true && binds_needed normal s && all_are_served normal us) (sym after)
        ∙ ap (λ b. true && not b && all_are_served normal us) (some_open normal set p (needed_places normal) h))

    pub all_bound : (answer : Bool) → find (is_open normal set) (needed_places normal) ≡ None → answer ≡ all_are_served normal us
        → answer ≡ are_sound normal start us
    all_bound answer h e = e ∙ sym (ap (λ k. k && binds_needed normal (set_after normal start us) && all_are_served normal us) bound
        ∙ ap (λ s. true && binds_needed normal s && all_are_served normal us) (sym after)
        ∙ ap (λ b. true && not b && all_are_served normal us) (none_open normal set (needed_places normal) h))

  module _ (n : ℕ) (most less : ℕ) (has : most ≡ capped_uses normal start us) (gets : less ≡ capped_uses normal start (uses_without n us)) where
    no_greater : not (nat_lt most less) ≡ not (nat_lt (capped_uses normal start us) (capped_uses normal start (uses_without n us)))
    no_greater = ap (λ k. not (nat_lt k less)) has ∙ ap (λ k. not (nat_lt (capped_uses normal start us) k)) gets

    pub may_go : are_sound normal start (uses_without n us) ≡ true → not (nat_lt most less) ≡ true → uses_without n us ≡ uses_pruned_at normal start n us
    may_go h g =
        sym (ap (λ b. cond (b && not (nat_lt (capped_uses normal start us) (capped_uses normal start (uses_without n us)))) (uses_without n us) us) h
        ∙ ap (λ b. cond b (uses_without n us) us) (sym no_greater ∙ g))

    pub costs_more : are_sound normal start (uses_without n us) ≡ true → not (nat_lt most less) ≡ false → us ≡ uses_pruned_at normal start n us
    costs_more h g =
        sym (ap (λ b. cond (b && not (nat_lt (capped_uses normal start us) (capped_uses normal start (uses_without n us)))) (uses_without n us) us) h
        ∙ ap (λ b. cond b (uses_without n us) us) (sym no_greater ∙ g))

  pub not_sound : (n : ℕ) → are_sound normal start (uses_without n us) ≡ false → us ≡ uses_pruned_at normal start n us
  not_sound n h =
      sym (ap (λ b. cond (b && not (nat_lt (capped_uses normal start us) (capped_uses normal start (uses_without n us)))) (uses_without n us) us) h)

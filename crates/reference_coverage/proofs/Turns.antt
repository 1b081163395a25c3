-- The turns of a derivation, one at a time.
use Rattle.std.proofs.Common.{◌≡◌, ◌<◌, ◌-◌, ◌&&◌, ◌==◌, ℕ, zero, suc, Bool, true, false, cond, List, [], ◌∷◌, Option, Some, None, refl, ap, sym, ◌∙◌, arith}
use Rattle.std.specs.List.{filter}
use Rattle.std.specs.Option.{option_map}
use Rattle.beas_core.specs.declared.schema.Access.{Access}
use Rattle.beas_core.specs.declared.plan.DStep.{DStep}
use Rattle.beas_core.specs.declared.plan.Normal.{Normal}
use Rattle.beas_core.specs.Types.{ClassSet, Use}
use Rattle.beas_core.specs.Coverage.{serves, uses, is_covered}
use Rattle.beas_core.specs.Derivations.{least_bound, is_served_by, then_step, enabled_uses, adding_steps, serving_steps, step_of, with_use}
use Rattle.reference_coverage.specs.Turns.{serving_choice}

module _ (normal : Normal) (accesses : List Access) (set : ClassSet) where
  pub adding_done : (n : ℕ) → is_covered normal accesses set ≡ true → adding_steps n normal accesses set ≡ Some []
  adding_done zero e = ap (λ b. cond b (Some []) None) e
  adding_done (suc n) e = ap (λ b. cond b (Some []) (then_step (least_bound (enabled_uses normal accesses set)) None
      (λ u. option_map (λ steps. step_of normal set u ∷ steps) (adding_steps n normal accesses (with_use normal set u))))) e

  pub adding_out : (n : ℕ) → is_covered normal accesses set ≡ false → n ≡ 0 → adding_steps n normal accesses set ≡ None
  adding_out zero e z = ap (λ b. cond b (Some []) None) e
  adding_out (suc n) e z = absurd (omega (arith, z))

  pub adding_stuck : (n : ℕ) → is_covered normal accesses set ≡ false → least_bound (enabled_uses normal accesses set) ≡ None
      → adding_steps n normal accesses set ≡ None
  adding_stuck zero e h = ap (λ b. cond b (Some []) None) e
  adding_stuck (suc n) e h =
      ap (λ b. cond b (Some []) (then_step (least_bound (enabled_uses normal accesses set)) None
      (λ u. option_map (λ steps. step_of normal set u ∷ steps) (adding_steps n normal accesses (with_use normal set u))))) e
      ∙ ap (λ o. then_step o None (λ u. option_map (λ steps. step_of normal set u ∷ steps) (adding_steps n normal accesses (with_use normal set u)))) h

  pub adding_more : (n m : ℕ) (u : Use) → is_covered normal accesses set ≡ false → least_bound (enabled_uses normal accesses set) ≡ Some u → n ≡ suc m
      → adding_steps n normal accesses set ≡ option_map (λ steps. step_of normal set u ∷ steps) (adding_steps m normal accesses (with_use normal set u))
  adding_more n m u e h z =
      ap (λ k. adding_steps k normal accesses set) z
      ∙ ap (λ b. cond b (Some []) (then_step (least_bound (enabled_uses normal accesses set)) None
      (λ v. option_map (λ steps. step_of normal set v ∷ steps) (adding_steps m normal accesses (with_use normal set v))))) e
      ∙ ap (λ o. then_step o None (λ v. option_map (λ steps. step_of normal set v ∷ steps) (adding_steps m normal accesses (with_use normal set v)))) h

  pub adding_result : (n : ℕ) (u : Use) (more : ClassSet) (later steps : Option (List DStep)) (s : DStep) → is_covered normal accesses set ≡ false
      → least_bound (enabled_uses normal accesses set) ≡ Some u → 0 < n → more ≡ with_use normal set u → later ≡ adding_steps (n - 1) normal accesses more
      → s ≡ step_of normal set u → steps ≡ option_map (λ others. s ∷ others) later → steps ≡ adding_steps n normal accesses set
  adding_result n u more later steps s e h l m a t r =
      r ∙ ap (λ x. option_map (λ others. x ∷ others) later) t
      ∙ ap (λ o. option_map (λ others. step_of normal set u ∷ others) o) (a ∙ ap (adding_steps (n - 1) normal accesses) m)
      ∙ sym (adding_more n (n - 1) u e h (omega arith))

  module _ (steps : List DStep) (atom : ℕ) (atoms : List ℕ) where
    -- where a step serves the atom already, and where none does
    by_choice : (b : Bool) (o : Option Use) (none : List DStep) (some : Use → List DStep)
        → cond b none (then_step o none some) ≡ then_step (cond b None o) none some
    by_choice true o none some = refl
    by_choice false o none some = refl

    turn : serving_steps normal accesses steps set (atom ∷ atoms)
        ≡ then_step (serving_choice normal accesses steps set atom) (serving_steps normal accesses steps set atoms)
        (λ u. step_of normal set u ∷ serving_steps normal accesses steps (with_use normal set u) atoms)
    turn = by_choice (is_served_by normal accesses steps atom) (least_bound (filter (λ u. (u.atom == atom) && serves normal set u) (uses normal accesses)))
        (serving_steps normal accesses steps set atoms) (λ u. step_of normal set u ∷ serving_steps normal accesses steps (with_use normal set u) atoms)

    pub serving_none : serving_choice normal accesses steps set atom ≡ None
        → serving_steps normal accesses steps set (atom ∷ atoms) ≡ serving_steps normal accesses steps set atoms
    serving_none h = turn ∙ ap (λ o. then_step o (serving_steps normal accesses steps set atoms)
        (λ u. step_of normal set u ∷ serving_steps normal accesses steps (with_use normal set u) atoms)) h

    pub serving_some : (u : Use) → serving_choice normal accesses steps set atom ≡ Some u
        → serving_steps normal accesses steps set (atom ∷ atoms) ≡ step_of normal set u ∷ serving_steps normal accesses steps (with_use normal set u) atoms
    serving_some u h = turn ∙ ap (λ o. then_step o (serving_steps normal accesses steps set atoms)
        (λ v. step_of normal set v ∷ serving_steps normal accesses steps (with_use normal set v) atoms)) h

-- how a turn of the first kind ends, or goes on
pub ruleset adding_cases = (adding_done, adding_out, adding_stuck, adding_more)

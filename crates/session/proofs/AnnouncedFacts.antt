-- What is announced, call by call.
use Rattle.std.proofs.Common.{◌≡◌, ℕ, Bool, true, false, if◌then◌else◌, Option, Some, None, Result, Ok, Err}
use Rattle.std.specs.Prelude.{nat_le}
use Rattle.beas_core.specs.declared.errors.Fail.{Fail}
use Rattle.beas_core.specs.declared.limits.Limits.{Limits}
use Rattle.beas_core.specs.declared.plan.Prepared.{Prepared}
use Rattle.beas_core.specs.declared.refusal.Refusal.{Refusal}
use Rattle.beas_core.specs.declared.refusal.Refusal.TheVariants.{OverBudget}
use Rattle.beas_core.specs.Trees.{QueryTree}
use Rattle.beas_core.specs.Results.{Gives, IsRefusedAs}
use Rattle.catalogue.specs.Schema.{Schema}
use Rattle.sql_text.specs.Trees.{Tree}
use Rattle.name_resolution.specs.Binding.{refusals, bound_query}
use Rattle.name_resolution.specs.Refusing.{first}
use Rattle.plan_builder.specs.Preparation.{preparation}
use Rattle.session.specs.Announced.{and_then, announcement, binding, within_budget}
use Rattle.session.proofs.CarryFacts.{failed}
use Rattle.session.proofs.GivenFacts.{given, given_fails, given_next}

module _ (limits : Limits) (budget : Option ℕ) (schema : Schema) (tree : Tree) where
  abbrev pub prepare_within : QueryTree → Result Prepared Refusal
  prepare_within query = and_then (preparation schema query) (within_budget budget)

  pub announced_unbound : (x : Fail) → IsRefusedAs (failed QueryTree x) (first (refusals limits schema tree))
      → Gives (failed Prepared x) (announcement limits budget schema tree)
  unfolding announcement
  announced_unbound x told =
      given_fails QueryTree Prepared (binding limits schema tree) prepare_within x
      (given (failed QueryTree x) (refusals limits schema tree) (bound_query schema tree) told tt)

  module _ (query : QueryTree) (told : IsRefusedAs (Ok query) (first (refusals limits schema tree))) (is : query ≡ bound_query schema tree) where
    pub announced_unprepared : (x : Fail) → Gives (failed Prepared x) (preparation schema query)
        → Gives (failed Prepared x) (announcement limits budget schema tree)
    unfolding announcement
    announced_unprepared x h =
        given_next (binding limits schema tree) prepare_within query (failed Prepared x)
        (given (Ok query) (refusals limits schema tree) (bound_query schema tree) told is)
        (given_fails Prepared Prepared (preparation schema query) (within_budget budget) x h)

    pub announced : (prepared : Prepared) (r : Result Prepared Fail) → preparation schema query ≡ Ok prepared → Gives r (within_budget budget prepared)
        → Gives r (announcement limits budget schema tree)
    unfolding announcement
    announced prepared r e h =
        given_next (binding limits schema tree) prepare_within query r (given (Ok query) (refusals limits schema tree) (bound_query schema tree) told is)
        (given_next (preparation schema query) (within_budget budget) prepared r e h)

abbrev kept_if : Bool → ℕ → Prepared → Result Prepared Refusal
kept_if fits n p = if fits then Ok p else Err (OverBudget p.bound n)

-- a query within the budget is as it was
pub within_same : (budget : Option ℕ) (p q : Prepared) → within_budget budget p ≡ Ok q → q ≡ p
within_same None p q e = cc
within_same (Some n) p q e = by (nat_le p.bound n) e
  where
    by : (fits : Bool) → kept_if fits n p ≡ Ok q → q ≡ p
    by true h = cc
    by false h = cc

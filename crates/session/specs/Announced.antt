-- What is announced of a query before any row is read: a function of catalogue, limits, budget and tree, and of no row; where tables may be
-- scanned, of their numbers of rows, too.
--     binding limits schema tree                              the query that the tree is bound to, or why it is refused
--     announcement limits budget schema tree                  the query as it is prepared, or why it is refused
--     scan_announcement limits budget schema sizes tree       the same where tables may be scanned, which have so many rows
use Rattle.std.specs.Prelude.{ℕ, if◌then◌else◌, nat_le, List, [], ◌∷◌, Option, Some, None, Result, Ok, Err}
use Rattle.beas_core.specs.declared.limits.Limits.{Limits}
use Rattle.beas_core.specs.declared.plan.Prepared.{Prepared}
use Rattle.beas_core.specs.declared.refusal.Refusal.{Refusal}
use Rattle.beas_core.specs.declared.refusal.Refusal.TheVariants.{OverBudget}
use Rattle.beas_core.specs.Trees.{QueryTree}
use Rattle.catalogue.specs.Schema.{Schema}
use Rattle.sql_text.specs.Trees.{Tree}
use Rattle.name_resolution.specs.Binding.{refusals, bound_query}
use Rattle.partial_plan.specs.declared.plan.ScanPlan.{ScanPlan}
use Rattle.partial_plan.specs.ScanPlans.{scan_preparation}
use Rattle.plan_builder.specs.Preparation.{preparation}
use Rattle.partial_plan.specs.Scans.{TableSizes}

-- an answer, unless there are refusals: then the first
abbrev pub unless_refused : {A : Type 0} → List Refusal → A → Result A Refusal
unless_refused [] answer = Ok answer
unless_refused (why ∷ more) answer = Err why

abbrev pub and_then : {A B : Type 0} → Result A Refusal → (A → Result B Refusal) → Result B Refusal
and_then (Ok answer) next = next answer
and_then (Err why) next = Err why

abbrev pub binding : Limits → Schema → Tree → Result QueryTree Refusal
binding limits schema tree = unless_refused (refusals limits schema tree) (bound_query schema tree)

-- what is announced with this number; a number above the budget is refused
abbrev pub unless_above : {A : Type 0} → Option ℕ → ℕ → A → Result A Refusal
unless_above None bound announced = Ok announced
unless_above (Some budget) bound announced = if nat_le bound budget then Ok announced else Err (OverBudget bound budget)

abbrev pub within_budget : Option ℕ → Prepared → Result Prepared Refusal
within_budget budget prepared = unless_above budget prepared.bound prepared

unfoldable pub announcement : Limits → Option ℕ → Schema → Tree → Result Prepared Refusal
announcement limits budget schema tree =
    and_then (binding limits schema tree) (λ query. and_then (preparation schema query) (within_budget budget))

-- ---- where tables may be scanned

abbrev pub scans_within_budget : Option ℕ → ScanPlan → Result ScanPlan Refusal
scans_within_budget budget plan = unless_above budget plan.bound plan

unfoldable pub scan_announcement : Limits → Option ℕ → Schema → TableSizes → Tree → Result ScanPlan Refusal
scan_announcement limits budget schema sizes tree =
    and_then (binding limits schema tree) (λ query. and_then (scan_preparation schema sizes query) (scans_within_budget budget))

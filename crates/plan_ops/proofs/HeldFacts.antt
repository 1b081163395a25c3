-- The constraints that a port gives of derivations hold.
use Rattle.std.proofs.Common.{◌≡◌, ◌≤◌, List, subst}
use Rattle.std.specs.List.{All}
use Rattle.std.proofs.lemmas.List.Elements.{All-contains}
use Rattle.beas_core.specs.declared.schema.Access.{Access}
use Rattle.beas_core.specs.declared.plan.DStep.{DStep}
use Rattle.beas_core.specs.declared.plan.Derivation.{Derivation}
use Rattle.beas_core.specs.Types.{TableRows}
use Rattle.beas_core.specs.Groups.{Holds}
use Rattle.beas_core.specs.Derivations.{access_in}
use Rattle.beas_core.specs.Fits.{StepsHold}
use Rattle.beas_core.proofs.Sets.{Has, Contains-from_has}
use Rattle.plan_ops.specs.Held.{StepHolds, PlanHolds}

pub step_holds : (rows : TableRows) (accesses : List Access) (s : DStep) (access : Access) → access ≡ access_in accesses s.access
    → Holds (rows access.table) access → 1 ≤ access.bound → StepHolds rows accesses s
step_holds rows accesses s access e holds bound = record {
  holds = subst (λ (a : Access). Holds (rows a.table) a) e holds;
  bound = subst (λ (a : Access). 1 ≤ a.bound) e bound;
}

-- of each step of each derivation
pub plans_hold : (rows : TableRows) (accesses : List Access) (plans : List Derivation) → All (PlanHolds rows accesses) plans
    → (plan : Derivation) → Has plans plan → StepsHold rows accesses plan.steps
plans_hold rows accesses plans held plan m s member =
    let steps = (All-contains (PlanHolds rows accesses) plans plan held (Contains-from_has plans plan m)).steps in
    let step = All-contains (StepHolds rows accesses) plan.steps s steps member in
    (step.holds, step.bound)

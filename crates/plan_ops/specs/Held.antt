-- Steps whose constraints hold.
use Rattle.std.specs.Prelude.{◌≤◌, List, All}
use Rattle.beas_core.specs.declared.schema.Access.{Access}
use Rattle.beas_core.specs.declared.plan.DStep.{DStep}
use Rattle.beas_core.specs.declared.plan.Derivation.{Derivation}
use Rattle.beas_core.specs.Types.{TableRows}
use Rattle.beas_core.specs.Groups.{Holds}
use Rattle.beas_core.specs.Derivations.{access_in}

pub record StepHolds (rows : TableRows) (accesses : List Access) (s : DStep) : Type 0 where
  pub holds : Holds (rows (access_in accesses s.access).table) (access_in accesses s.access)
  pub bound : 1 ≤ (access_in accesses s.access).bound

pub record PlanHolds (rows : TableRows) (accesses : List Access) (plan : Derivation) : Type 0 where
  pub steps : All (StepHolds rows accesses) plan.steps

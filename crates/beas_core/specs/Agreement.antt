-- When a derivation's steps find the same over other constraints and rows.
use Rattle.std.specs.Prelude.{◌≡◌, List, All}
use Rattle.beas_core.specs.declared.schema.Access.{Access}
use Rattle.beas_core.specs.declared.plan.DStep.{DStep}
use Rattle.beas_core.specs.declared.plan.Normal.{Normal}
use Rattle.beas_core.specs.Types.{TableRows}
use Rattle.beas_core.specs.Derivations.{access_in, table_of}

-- the step's constraint is the same, and so are the rows of its atom's table and of the constraint's
pub record SameStep (normal : Normal) (few many : List Access) (old new : TableRows) (s : DStep) : Type 0 where
  pub access : access_in many s.access ≡ access_in few s.access
  pub rows : new (table_of normal s.atom) ≡ old (table_of normal s.atom)
  pub group_rows : new (access_in few s.access).table ≡ old (access_in few s.access).table

abbrev pub SameSteps : Normal → List Access → List Access → TableRows → TableRows → List DStep → Type 0
SameSteps normal few many old new steps = All (SameStep normal few many old new) steps

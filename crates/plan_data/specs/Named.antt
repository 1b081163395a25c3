-- When the names that a plan uses are those of a schema.
--     BlockIsNamed schema normal plan     the tables of the block's atoms are there, and the constraints of its steps are live
use Rattle.std.specs.Prelude.{◌<◌, length, All, IsTrue}
use Rattle.beas_core.specs.declared.plan.Derivation.{Derivation}
use Rattle.beas_core.specs.declared.plan.Normal.{Normal}
use Rattle.beas_core.specs.Derivations.{is_live}
use Rattle.catalogue.specs.Schema.{Schema}

pub record BlockIsNamed (schema : Schema) (normal : Normal) (plan : Derivation) : Type 0 where
  pub tables : All (λ a. a.table.0 < length schema.tables) normal.atoms
  pub constraints : All (λ s. IsTrue (is_live schema.accesses s.access)) plan.steps

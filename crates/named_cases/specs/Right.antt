-- A block that the layers take.
--     IsRight schema width block     it is well formed and over the tables of the schema, and its output has so many columns
use Rattle.std.specs.Prelude.{◌≡◌, ℕ, length}
use Rattle.beas_core.specs.declared.query.Block.{Block}
use Rattle.beas_core.specs.Shapes.{BlockIsWellFormed}
use Rattle.catalogue.specs.Queries.{BlockIsOver}
use Rattle.catalogue.specs.Schema.{Schema}

pub record IsRight (schema : Schema) (width : ℕ) (block : Block) : Type 0 where
  pub shape : BlockIsWellFormed block
  pub over : BlockIsOver schema block
  pub columns : length block.output ≡ width

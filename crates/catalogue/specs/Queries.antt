-- Queries over the tables of a schema.
--     QueryIsOver schema query      each atom is of a table of the schema, and has as many columns as that table
--     RowsAreWide schema rows       each row of each table has a value for each of its columns
use Rattle.std.specs.Prelude.{◌≡◌, ◌<◌, length, All}
use Rattle.beas_core.specs.declared.query.Atom.{Atom}
use Rattle.beas_core.specs.declared.query.Block.{Block}
use Rattle.beas_core.specs.declared.schema.TableId.{TableId}
use Rattle.beas_core.specs.Trees.{QueryTree, blocks_of}
use Rattle.beas_core.specs.Types.{TableRows}
use Rattle.catalogue.specs.Schema.{Schema, columns_at}

pub record AtomIsOver (schema : Schema) (atom : Atom) : Type 0 where
  pub table : atom.table.0 < length schema.tables
  pub width : atom.width ≡ length (columns_at schema atom.table)

abbrev pub BlockIsOver : Schema → Block → Type 0
BlockIsOver schema block = All (AtomIsOver schema) block.atoms

abbrev pub QueryIsOver : Schema → QueryTree → Type 0
QueryIsOver schema query = All (BlockIsOver schema) (blocks_of query)

abbrev pub RowsAreWide : Schema → TableRows → Type 0
RowsAreWide schema rows =
    (id : TableId) → id.0 < length schema.tables → All (λ row. length row ≡ length (columns_at schema id)) (rows id)

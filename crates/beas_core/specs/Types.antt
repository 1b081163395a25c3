-- The words that definitions speak in.
--     Row             the values of a row, by column
--     TableRows       the rows of each table
--     ClassSet        a set of classes: a truth value for each class
--     Bindings        classes with their values
--     Use             a use of an access constraint on an atom
--     Guide           the answers that guide a block, or none where it starts alone
use Rattle.std.specs.Prelude.{ℕ, Bool, List, Option}
use Rattle.beas_core.specs.declared.schema.TableId.{TableId}
use Rattle.beas_core.specs.declared.schema.Access.{Access}
use Rattle.beas_core.specs.declared.value.Value.{Value}

abbrev pub Row : Type 0
Row = List Value

abbrev pub TableRows : Type 0
TableRows = TableId → List Row

abbrev pub ClassSet : Type 0
ClassSet = List Bool

abbrev pub Binding : Type 0
Binding = ℕ × Value

abbrev pub Bindings : Type 0
Bindings = List Binding

pub record Use : Type 0 where
  pub atom : ℕ
  pub access : Access

abbrev pub Guide : Type 0
Guide = Option (List Row)

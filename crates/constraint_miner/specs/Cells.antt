-- Lent values and pairs of them, as the values and the row that they stand for.
use Rattle.std.specs.Prelude.{List, [], ◌∷◌}
use Rattle.beas_core.specs.declared.value.Value.{Value}
use Rattle.beas_core.specs.declared.value.Value.TheVariants as value
use Rattle.constraint_miner.specs.declared.cells.Cell.{Cell}
use Rattle.constraint_miner.specs.declared.cells.Cell.TheVariants.{Int, Str}
use Rattle.constraint_miner.specs.declared.cells.CellPair.{CellPair}

abbrev pub value_of : Cell → Value
value_of (Int number) = value.Int number
value_of (Str text) = value.Str text.now

abbrev pub pair_row : CellPair → List Value
pair_row pair = value_of pair.first ∷ value_of pair.second ∷ []

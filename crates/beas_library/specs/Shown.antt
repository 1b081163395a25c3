-- What is shown of a cell.
--     shown part       the cell
use Rattle.aggregate.specs.declared.cell.Cell.{Cell}
use Rattle.aggregate.specs.declared.cell.Cell.TheVariants.{Plain, Count as Counted, Sum as Summed}
use Rattle.beas_core.specs.declared.value.Value.TheVariants.{Int, Str}
use Rattle.beas_library.specs.declared.told.Shown.{Shown}
use Rattle.beas_library.specs.declared.told.Shown.TheVariants.{Integer, Text, Count, Sum}

abbrev pub shown : Shown → Cell
shown (Integer number) = Plain (Int number)
shown (Text text) = Plain (Str text.now)
shown (Count count) = Counted count
shown (Sum sum) = Summed sum

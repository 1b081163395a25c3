-- Rows with the same key columns that stand side by side.
--     same_key keys row other    the first columns are equal
use Rattle.std.specs.Prelude.{ℕ, Bool, take}
use Rattle.beas_core.specs.Groups.{same_row}
use Rattle.beas_core.specs.Types.{Row}

abbrev pub same_key : ℕ → Row → Row → Bool
same_key keys row other = same_row (take keys row) (take keys other)

-- Tuples that were fetched, whose values lie one after another.
--     rows_in width count values     so many rows of a width, cut from a list of values
--     Pushed width old new rows count     the new values are the old ones and behind them those of these rows, which are so many
use Rattle.std.specs.Prelude.{◌≡◌, ◌+◌, ◌*◌, length, ℕ, zero, suc, List, [], ◌∷◌, take, drop}
use Rattle.beas_core.specs.declared.value.Value.{Value}
use Rattle.beas_core.specs.Types.{Row}

abbrev pub rows_in : ℕ → ℕ → List Value → List Row
rows_in width zero values = []
rows_in width (suc count) values = take width values ∷ rows_in width count (drop width values)

pub record Pushed (width : ℕ) (old new : List Value) (rows : List Row) (count : ℕ) : Type 0 where
  pub front : take (length old) new ≡ old
  pub whole : length new ≡ length old + count * width
  pub cut : rows_in width count (drop (length old) new) ≡ rows

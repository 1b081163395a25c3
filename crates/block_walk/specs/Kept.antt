-- What a walk keeps. The values of all rows of one kind stand one after another in one list.
--     part values from count     so many values, from a place on
--     Pending                    a valuation before a step
--     pending_at n row           a valuation before step n
--     Entry                      a step and a key, and the tuples found
use Rattle.std.specs.Prelude.{ℕ, List, take, drop}
use Rattle.beas_core.specs.declared.value.Value.{Value}
use Rattle.beas_core.specs.Types.{Row}

abbrev pub part : List Value → ℕ → ℕ → List Value
part values from count = take count (drop from values)

pub record Pending : Type 0 where
  pub step : ℕ
  pub row : Row

abbrev pub pending_at : ℕ → Row → Pending
pending_at n row = record { step = n; row = row }

abbrev pub Entry : Type 0
Entry = (ℕ × Row) × List Row

-- Whole columns of an answer, from a row on.
--     low_in cell, high_in cell                     the lower 64 bits of a sum, and the bits above them
--     AreItems part report column first items       these are the parts of its cells, one after another
--     bytes_to report column first count             the bytes of its texts, one after another
--     AreTexts report column first bytes ends       these are the bytes of its texts, and where each ends
--     LacksItem part report column first count      one of so many cells doesn't have the part, or isn't there
use Rattle.std.specs.Prelude.{◌≡◌, ◌+◌, ◌<◌, ◌^◌, ◌++◌, ℕ, zero, suc, ℤ, pos, List, [], length, nat_abs, slice_get, unwrap_or, IsSome, Option, None, Some, option_and_then}
use Rattle.std.specs.Int.{int_div_euclid, int_rem_euclid}
use Rattle.aggregate.specs.declared.cell.Cell.{Cell}
use Rattle.aggregate.specs.declared.cell.Cell.TheVariants.{Sum}
use Rattle.report.specs.declared.reports.Report.{Report}
use Rattle.beas_library.specs.Told.{cell_told, text_in}

abbrev pub low_in : Cell → Option ℕ
low_in (Sum sum) = Some (nat_abs (int_rem_euclid sum (pos (2 ^ 64))))
low_in _ = None

abbrev pub high_in : Cell → Option ℤ
high_in (Sum sum) = Some (int_div_euclid sum (pos (2 ^ 64)))
high_in _ = None

abbrev pub item_at : {X : Type 0} → (Cell → Option X) → Option Report → ℕ → ℕ → Option X
item_at part report column row = option_and_then part (cell_told report row column)

abbrev pub AreItems : {X : Type 0} → (Cell → Option X) → Option Report → ℕ → ℕ → List X → Type 0
AreItems part report column first items = (i : ℕ) → i < length items → item_at part report column (first + i) ≡ slice_get items i

pub record LacksItem {X : Type 0} (part : Cell → Option X) (report : Option Report) (column first count : ℕ) : Type 0 where
  pub i : ℕ
  pub below : i < count
  pub none : item_at part report column (first + i) ≡ None

-- of so many cells; a cell that is no text has none
abbrev pub bytes_to : Option Report → ℕ → ℕ → ℕ → List ℕ
bytes_to report column first zero = []
bytes_to report column first (suc n) = bytes_to report column first n ++ unwrap_or (item_at text_in report column (first + n)) []

-- as many as there are ends
pub record AreTexts (report : Option Report) (column first : ℕ) (bytes ends : List ℕ) : Type 0 where
  pub there : (i : ℕ) → i < length ends → IsSome (item_at text_in report column (first + i))
  pub bytes_are : bytes ≡ bytes_to report column first (length ends)
  pub ends_are : (i : ℕ) → i < length ends → slice_get ends i ≡ Some (length (bytes_to report column first (i + 1)))

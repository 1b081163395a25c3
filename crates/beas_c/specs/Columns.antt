-- What a call of C reads of a column, by its status. A closed database is refused.
--     HasRead part column first held status ..      these parts of its cells, from a row on, as many as there is room for
--     HasReadSums ..                                the same of sums, in two halves
--     HasReadTexts ..                               the same of texts: their bytes, one after another, and where each ends
--     read_status all                               the status, by whether all cells have the part
use Rattle.std.specs.Prelude.{◌≡◌, ◌⊎◌, ℕ, ℤ, Bool, true, false, List, length, Option, None, Some}
use Rattle.aggregate.specs.declared.cell.Cell.{Cell}
use Rattle.beas_library.specs.Columns.{AreItems, AreTexts, LacksItem, high_in, low_in}
use Rattle.beas_library.specs.Told.{text_in}
use Rattle.beas_c.specs.declared.held.Held.{Held}
use Rattle.beas_c.specs.Statuses.{absent, closed, done, no_memory}
use Rattle.beas_c.specs.Telling.{Copies}

abbrev pub read_status : Bool → ℤ
read_status true = done
read_status false = absent

abbrev pub HasRead : {X : Type 0} → (Cell → Option X) → ℕ → ℕ → Option Held → ℤ → List X → List X → Type 0
HasRead part column first None status old new = (status ≡ closed) × (new ≡ old)
HasRead part column first (Some held) status old new =
    (length new ≡ length old)
    × (((status ≡ done) × AreItems part held.engine.report column first new)
    ⊎ ((status ≡ absent) × LacksItem part held.engine.report column first (length old)))

pub record ReadsSums (column first : ℕ) (held : Held) (status : ℤ) (lows_old lows_new : List ℕ) (highs_old highs_new : List ℤ) : Type 0 where
  pub as_many_lows : length lows_new ≡ length lows_old
  pub as_many_highs : length highs_new ≡ length highs_old
  pub read : ((status ≡ done) × AreItems low_in held.engine.report column first lows_new × AreItems high_in held.engine.report column first highs_new)
      ⊎ ((status ≡ absent) × LacksItem low_in held.engine.report column first (length lows_old))
      ⊎ ((status ≡ absent) × LacksItem high_in held.engine.report column first (length highs_old))

abbrev pub HasReadSums : ℕ → ℕ → Option Held → ℤ → List ℕ → List ℕ → List ℤ → List ℤ → Type 0
HasReadSums column first None status lows_old lows_new highs_old highs_new =
    (status ≡ closed) × (lows_new ≡ lows_old) × (highs_new ≡ highs_old)
HasReadSums column first (Some held) status lows_old lows_new highs_old highs_new =
    ReadsSums column first held status lows_old lows_new highs_old highs_new

-- without room for the bytes their number is told all the same
pub record CopiesTexts (column first : ℕ) (held : Held) (status : ℤ) (ends : List ℕ) (old new : List ℕ) (length_new : ℕ) : Type 0 where
  pub bytes : List ℕ
  pub are : AreTexts held.engine.report column first bytes ends
  pub copied : Copies bytes status old new length_new

pub record ReadsTexts (column first : ℕ) (held : Held) (status : ℤ) (ends_old ends_new old new : List ℕ) (length_old length_new : ℕ) : Type 0 where
  pub as_many : length ends_new ≡ length ends_old
  pub read : CopiesTexts column first held status ends_new old new length_new
      ⊎ ((status ≡ absent) × LacksItem text_in held.engine.report column first (length ends_old) × (new ≡ old) × (length_new ≡ length_old))
      ⊎ ((status ≡ no_memory) × (new ≡ old) × (length_new ≡ length_old))

abbrev pub HasReadTexts : ℕ → ℕ → Option Held → ℤ → List ℕ → List ℕ → List ℕ → List ℕ → ℕ → ℕ → Type 0
HasReadTexts column first None status ends_old ends_new old new length_old length_new =
    (status ≡ closed) × (ends_new ≡ ends_old) × (new ≡ old) × (length_new ≡ length_old)
HasReadTexts column first (Some held) status ends_old ends_new old new length_old length_new =
    ReadsTexts column first held status ends_old ends_new old new length_old length_new

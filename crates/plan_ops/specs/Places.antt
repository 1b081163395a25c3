-- Where classes stand.
--     place_of classes class       the class's first place among the classes, or their number where it stands nowhere
--     column_of classes class      the same as a column: a valuation is a row whose columns are its classes
--     places_in count classes      for each class its first place
use Rattle.std.specs.Prelude.{◌==◌, ℕ, List, map}
use Rattle.std.specs.List.{position_or_len, range_with_len}
use Rattle.beas_core.specs.declared.schema.ColumnId.{ColumnId}

abbrev pub place_of : List ℕ → ℕ → ℕ
place_of classes class = position_or_len (λ c. c == class) classes

abbrev pub column_of : List ℕ → ℕ → ColumnId
column_of classes class = record { 0 = place_of classes class }

-- the place of each class
abbrev pub places_in : ℕ → List ℕ → List ℕ
places_in count classes = map (place_of classes) (range_with_len 0 count)

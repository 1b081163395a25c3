-- How two sets in order are merged.
--     compared_fronts xs ys      how their first rows stand to each other, where the end stands after every row
--     from_row row rows          the rows from the first on that doesn't stand before this one
--     begins_with row rows       the first of the rows is this one
use Rattle.std.specs.Prelude.{Bool, false, List, [], ◌∷◌}
use Rattle.std.specs.declared.cmp.Ordering.{Ordering}
use Rattle.std.specs.declared.cmp.Ordering.TheVariants.{Less, Equal, Greater}
use Rattle.beas_core.specs.Types.{Row}
use Rattle.beas_core.specs.Order.{row_cmp}
use Rattle.beas_core.specs.Sets.{by_order}
use Rattle.beas_core.specs.Groups.{same_row}

abbrev pub compared_fronts : List Row → List Row → Ordering
compared_fronts [] [] = Equal
compared_fronts [] (y ∷ ys) = Greater
compared_fronts (x ∷ xs) [] = Less
compared_fronts (x ∷ xs) (y ∷ ys) = row_cmp x y

abbrev pub from_row : Row → List Row → List Row
from_row row [] = []
from_row row (x ∷ xs) = by_order (row_cmp x row) (from_row row xs) (x ∷ xs) (x ∷ xs)

abbrev pub begins_with : Row → List Row → Bool
begins_with row [] = false
begins_with row (x ∷ xs) = same_row row x

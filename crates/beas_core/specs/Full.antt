-- The full answer: relational algebra over sets of rows.
--     choices rows atoms         all ways to choose one row for each atom
--     meets block choice         the choice meets every equality, constant and comparison
--     full_of_block rows block   the choices that meet all, projected to the output, as a set in order
--     full_of rows query         UNION is set union, EXCEPT is set difference
use Rattle.std.specs.Prelude.{◌&&◌, Bool, not, List, [], ◌∷◌, ◌++◌, map, filter, flat_map, slice_index_or}
use Rattle.std.specs.List.{list_any, list_all}
use Rattle.std.specs.declared.cmp.Ordering.{Ordering}
use Rattle.std.specs.Ordering.{eq_by_cmp, is_lt, is_le, is_gt, is_ge, is_eq, is_ne}
use Rattle.beas_core.specs.declared.value.Value.{Value}
use Rattle.beas_core.specs.declared.query.Atom.{Atom}
use Rattle.beas_core.specs.declared.query.Place.{Place}
use Rattle.beas_core.specs.declared.query.Sign.{Sign}
use Rattle.beas_core.specs.declared.query.Sign.TheVariants.{Equal, Differs, Less, AtMost, More, AtLeast}
use Rattle.beas_core.specs.declared.query.Operand.{Operand}
use Rattle.beas_core.specs.declared.query.Operand.TheVariants.{At, Fixed}
use Rattle.beas_core.specs.declared.query.Comparison.{Comparison}
use Rattle.beas_core.specs.declared.query.Block.{Block}
use Rattle.beas_core.specs.Types.{Row, TableRows}
use Rattle.beas_core.specs.Order.{value_cmp, row_cmp}
use Rattle.beas_core.specs.Sets.{distinct}
use Rattle.beas_core.specs.Groups.{value_at, same_row}
use Rattle.beas_core.specs.Trees.{QueryTree, Single, Either, Minus}

abbrev pub same_value : Value → Value → Bool
same_value = eq_by_cmp value_cmp

abbrev pub sign_holds : Sign → Ordering → Bool
sign_holds Equal order = is_eq order
sign_holds Differs order = is_ne order
sign_holds Less order = is_lt order
sign_holds AtMost order = is_le order
sign_holds More order = is_gt order
sign_holds AtLeast order = is_ge order

abbrev pub operand_value : (Place → Value) → Operand → Value
operand_value value (At place) = value place
operand_value value (Fixed fixed) = fixed

-- whether a comparison holds of the values that places have
abbrev pub comparison_holds : (Place → Value) → Comparison → Bool
comparison_holds value c = sign_holds c.sign (value_cmp (value c.left) (operand_value value c.right))

abbrev pub choices : TableRows → List Atom → List (List Row)
choices rows [] = [] ∷ []
choices rows (a ∷ atoms) = flat_map (λ row. map (λ others. row ∷ others) (choices rows atoms)) (rows a.table)

-- the value that a choice gives to a place
abbrev pub choice_value : List Row → Place → Value
choice_value choice place = value_at (slice_index_or choice place.atom []) place.column

abbrev pub meets : Block → List Row → Bool
meets block choice =
    list_all (λ e. same_value (choice_value choice e.0) (choice_value choice e.1)) block.equalities
    && list_all (λ c. same_value (choice_value choice c.0) c.1) block.constants
    && list_all (comparison_holds (choice_value choice)) block.comparisons

unfoldable pub full_of_block : TableRows → Block → List Row
full_of_block rows block =
    distinct row_cmp (map (λ choice. map (choice_value choice) block.output) (filter (meets block) (choices rows block.atoms)))

abbrev pub set_union : List Row → List Row → List Row
set_union left right = distinct row_cmp (left ++ right)

abbrev pub set_difference : List Row → List Row → List Row
set_difference left right = filter (λ row. not (list_any (same_row row) right)) left

abbrev pub full_of : TableRows → QueryTree → List Row
full_of rows (Single block) = full_of_block rows block
full_of rows (Either l r) = set_union (full_of rows l) (full_of rows r)
full_of rows (Minus l r) = set_difference (full_of rows l) (full_of rows r)

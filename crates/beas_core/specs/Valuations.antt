-- Valuations of the classes that are bound after some steps, by choice of rows.
--     starts normal guide                           the bindings before the first step, in each way that they can stand
--     ways rows normal accesses starts steps        the bindings of each choice of a start and of one row of its atom's table for each step
--     valued_rows normal set found                  the values of the classes of a set, ascending by class, of each of these ways that
--                                                   agrees with itself and meets the comparisons whose columns are all in the set; as a set in order
--     valuations rows normal accesses guide steps   the ways, valued on the classes that are bound after the steps
--     answers_of rows normal accesses guide steps   the valuations, projected to the output
use Rattle.std.specs.Prelude.{◌&&◌, ◌||◌, ◌==◌, if◌then◌else◌, Bool, true, not, ℕ, pos, List, [], ◌∷◌, ◌++◌, length, map, filter, flat_map, fold, zip, Some, None, is_some}
use Rattle.std.specs.List.{list_all, range_with_len}
use Rattle.beas_core.specs.declared.schema.Access.{Access}
use Rattle.beas_core.specs.declared.value.Value.{Value}
use Rattle.beas_core.specs.declared.value.Value.TheVariants.{Int}
use Rattle.beas_core.specs.declared.query.Operand.{Operand}
use Rattle.beas_core.specs.declared.query.Operand.TheVariants.{At, Fixed}
use Rattle.beas_core.specs.declared.query.Comparison.{Comparison}
use Rattle.beas_core.specs.declared.plan.DStep.{DStep}
use Rattle.beas_core.specs.declared.plan.Normal.{Normal}
use Rattle.beas_core.specs.Types.{Row, TableRows, ClassSet, Bindings, Guide}
use Rattle.beas_core.specs.Order.{row_cmp}
use Rattle.beas_core.specs.Sets.{distinct}
use Rattle.beas_core.specs.Groups.{value_at, member_columns}
use Rattle.beas_core.specs.Full.{same_value, comparison_holds}
use Rattle.beas_core.specs.Coverage.{has, class_at, place_class, start_classes, output_classes}
use Rattle.beas_core.specs.Derivations.{access_in, table_of, bound_after}

-- the value of a class, by its first binding
abbrev pub value_of : Bindings → ℕ → Value
value_of [] class = Int (pos 0)
value_of (b ∷ bindings) class = if b.0 == class then b.1 else value_of bindings class

-- no class has two values
abbrev pub agrees : Bindings → Bool
agrees bindings = list_all (λ b. same_value b.1 (value_of bindings b.0)) bindings

-- what a row of a step's atom binds
abbrev pub bindings_of : Normal → List Access → DStep → Row → Bindings
bindings_of normal accesses s row = map (λ c. (class_at normal s.atom c, value_at row c)) (member_columns (access_in accesses s.access))

abbrev pub with_row_for : TableRows → Normal → List Access → List Bindings → DStep → List Bindings
with_row_for rows normal accesses found s = flat_map (λ w. map (λ row. w ++ bindings_of normal accesses s row) (rows (table_of normal s.atom))) found

abbrev pub ways : TableRows → Normal → List Access → List Bindings → List DStep → List Bindings
ways rows normal accesses starts steps = fold (with_row_for rows normal accesses) starts steps

-- the constants of a block, and for a guided one the values that a row of the guide gives to its output
abbrev pub starts : Normal → Guide → List Bindings
starts normal None = normal.constants ∷ []
starts normal (Some answers) = map (λ row. normal.constants ++ zip (output_classes normal) row) answers

abbrev pub operand_is_bound : Normal → ClassSet → Operand → Bool
operand_is_bound normal set (At place) = has set (place_class normal place)
operand_is_bound normal set (Fixed value) = true

abbrev pub comparison_is_bound : Normal → ClassSet → Comparison → Bool
comparison_is_bound normal set c = has set (place_class normal c.left) && operand_is_bound normal set c.right

-- the comparison holds, where its columns are all bound
abbrev pub comparison_is_met : Normal → ClassSet → Bindings → Comparison → Bool
comparison_is_met normal set bindings c = not (comparison_is_bound normal set c) || comparison_holds (λ p. value_of bindings (place_class normal p)) c

abbrev pub is_consistent : Normal → ClassSet → Bindings → Bool
is_consistent normal set bindings = agrees bindings && list_all (comparison_is_met normal set bindings) normal.comparisons

-- the classes of a set, ascending
abbrev pub classes_in : ClassSet → List ℕ
classes_in set = filter (has set) (range_with_len 0 (length set))

abbrev pub valued_rows : Normal → ClassSet → List Bindings → List Row
valued_rows normal set found = distinct row_cmp (map (λ w. map (value_of w) (classes_in set)) (filter (is_consistent normal set) found))

unfoldable pub valuations : TableRows → Normal → List Access → Guide → List DStep → List Row
valuations rows normal accesses guide steps =
    valued_rows normal (bound_after normal accesses (start_classes normal (is_some guide)) steps) (ways rows normal accesses (starts normal guide) steps)

-- the values of the classes of a set, as bindings
abbrev pub as_bindings : ClassSet → Row → Bindings
as_bindings set valuation = zip (classes_in set) valuation

abbrev pub output_row : Normal → ClassSet → Row → Row
output_row normal set valuation = map (λ p. value_of (as_bindings set valuation) (place_class normal p)) normal.output

unfoldable pub answers_of : TableRows → Normal → List Access → Guide → List DStep → List Row
answers_of rows normal accesses guide steps =
    distinct row_cmp (map (output_row normal (bound_after normal accesses (start_classes normal (is_some guide)) steps))
    (valuations rows normal accesses guide steps))

-- How one step extends the valuations before it by the tuples that its probes find.
--     fits ..           a tuple gives no class another value than the valuation, or than itself
--     extended_row ..   the valuation with the tuple's values
--     extensions ..     all valuations with all tuples of their keys' groups that fit, as a set in order
--     keep_met ..       the valuations that meet every comparison whose columns are all bound
use Rattle.std.specs.Prelude.{◌++◌, Bool, List, map, filter, flat_map, zip}
use Rattle.std.specs.List.{list_all}
use Rattle.beas_core.specs.declared.schema.Access.{Access}
use Rattle.beas_core.specs.declared.plan.DStep.{DStep}
use Rattle.beas_core.specs.declared.plan.Normal.{Normal}
use Rattle.beas_core.specs.Types.{Row, TableRows, ClassSet, Bindings}
use Rattle.beas_core.specs.Order.{row_cmp}
use Rattle.beas_core.specs.Sets.{distinct}
use Rattle.beas_core.specs.Groups.{group_of}
use Rattle.beas_core.specs.Derivations.{access_in, member_classes, use_of, bound_by}
use Rattle.beas_core.specs.Valuations.{value_of, agrees, comparison_is_met, classes_in, as_bindings}
use Rattle.beas_core.specs.Reads.{key_for}

-- the bindings of a valuation of a set's classes, and then those of a tuple of the step's constraint
abbrev pub bindings_with : Normal → List Access → DStep → ClassSet → Row → Row → Bindings
bindings_with normal accesses s set valuation tuple = as_bindings set valuation ++ zip (member_classes normal (use_of accesses s)) tuple

abbrev pub fits : Normal → List Access → DStep → ClassSet → Row → Row → Bool
fits normal accesses s set valuation tuple = agrees (bindings_with normal accesses s set valuation tuple)

abbrev pub extended_row : Normal → List Access → DStep → ClassSet → Row → Row → Row
extended_row normal accesses s set valuation tuple = map (value_of (bindings_with normal accesses s set valuation tuple))
    (classes_in (bound_by normal accesses set s))

-- the group of the key that a valuation gives to the step
abbrev pub group_for : TableRows → Normal → List Access → DStep → ClassSet → Row → List Row
group_for rows normal accesses s set valuation = group_of (rows (access_in accesses s.access).table) (access_in accesses s.access)
    (key_for normal accesses s set valuation)

abbrev pub extensions_of : TableRows → Normal → List Access → DStep → ClassSet → Row → List Row
extensions_of rows normal accesses s set valuation =
    map (extended_row normal accesses s set valuation) (filter (fits normal accesses s set valuation) (group_for rows normal accesses s set valuation))

abbrev pub extensions : TableRows → Normal → List Access → DStep → ClassSet → List Row → List Row
extensions rows normal accesses s set found = distinct row_cmp (flat_map (extensions_of rows normal accesses s set) found)

abbrev pub meets_bound : Normal → ClassSet → Row → Bool
meets_bound normal set valuation = list_all (comparison_is_met normal set (as_bindings set valuation)) normal.comparisons

abbrev pub keep_met : Normal → ClassSet → List Row → List Row
keep_met normal set found = filter (meets_bound normal set) found

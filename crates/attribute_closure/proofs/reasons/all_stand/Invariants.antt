use Rattle.std.proofs.Common.{◌≡◌, ◌++◌, true, take}
use Rattle.std.specs.List.{list_all}
use Rattle.beas_core.specs.Groups.{has_column}
use Rattle.attribute_closure.proofs.reasons.all_stand.Given as goal

abbrev pub invariant-loop-column : goal.invariant-loop-column
invariant-loop-column l = list_all (has_column (l.key ++ l.fetched)) (take l.column-index l.needed) ≡ true

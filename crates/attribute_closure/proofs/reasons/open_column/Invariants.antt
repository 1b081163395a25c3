use Rattle.std.proofs.Common.{◌≡◌, None, map, take}
use Rattle.std.specs.List.{find}
use Rattle.beas_core.specs.Coverage.{is_open}
use Rattle.attribute_closure.proofs.Searches.{place_of}
use Rattle.attribute_closure.proofs.reasons.open_column.Given as goal

abbrev pub invariant-loop-column : goal.invariant-loop-column
invariant-loop-column l = find (is_open l.block l.set) (map (place_of l.atom) (take l.column-index l.columns)) ≡ None

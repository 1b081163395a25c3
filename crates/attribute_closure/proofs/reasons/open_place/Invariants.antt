use Rattle.std.proofs.Common.{◌≡◌, None, take}
use Rattle.std.specs.List.{find, flat_map, enumerate_from}
use Rattle.beas_core.specs.Coverage.{is_open}
use Rattle.attribute_closure.proofs.Searches.{places_on}
use Rattle.attribute_closure.proofs.reasons.open_place.Given as goal

abbrev pub invariant-loop-number : goal.invariant-loop-number
invariant-loop-number l = find (is_open l.block l.set) (flat_map places_on (take l.number (enumerate_from 0 l.block.needed))) ≡ None

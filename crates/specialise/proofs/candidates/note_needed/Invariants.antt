use Rattle.std.proofs.Common.{◌≡◌, map, take}
use Rattle.std.specs.List.{flat_map, enumerate_from}
use Rattle.beas_core.specs.Coverage.{with_classes, place_class}
use Rattle.specialise.proofs.Noted.{places_on}
use Rattle.specialise.proofs.candidates.note_needed.Given as goal

abbrev pub invariant-loop-number : goal.invariant-loop-number
invariant-loop-number l = l.asked ≡ with_classes l.fn.asked (map (place_class l.block) (flat_map places_on (take l.number (enumerate_from 0 l.block.needed))))

use Rattle.std.proofs.Common.{◌≡◌, map, take}
use Rattle.std.specs.List.{flat_map}
use Rattle.beas_core.specs.Coverage.{with_classes, key_classes}
use Rattle.attribute_closure.specs.Uses.{as_use}
use Rattle.specialise.proofs.candidates.note_keys.Given as goal

abbrev pub invariant-loop-use_at : goal.invariant-loop-use_at
invariant-loop-use_at l = l.asked ≡ with_classes l.fn.asked (flat_map (key_classes l.block) (map as_use (take l.use_at-index l.found)))

use Rattle.std.proofs.Common.{◌≡◌, map, take}
use Rattle.beas_core.specs.Coverage.{place_class, with_classes}
use Rattle.plan_builder.proofs.sets.add_places.Given as goal

abbrev pub invariant-loop-place : goal.invariant-loop-place
invariant-loop-place l = l.set ≡ with_classes l.initial.set (map (place_class l.block) (take l.place-index l.places))

use Rattle.std.proofs.Common.{◌≡◌, true, take}
use Rattle.std.specs.List.{list_all}
use Rattle.beas_core.specs.Coverage.{has, place_class}
use Rattle.plan_ops.specs.Over.{set_of}
use Rattle.plan_ops.proofs.places.are_bound.Given as goal

abbrev pub invariant-loop-place : goal.invariant-loop-place
invariant-loop-place l = list_all (λ p. has (set_of l.block l.classes) (place_class l.block p)) (take l.place-index l.places) ≡ true

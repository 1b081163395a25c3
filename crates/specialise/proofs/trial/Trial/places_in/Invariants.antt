use Rattle.std.proofs.Common.{◌≡◌, map, take}
use Rattle.specialise.specs.Specialised.{candidates, first_place}
use Rattle.specialise.specs.Trials.{classes_at}
use Rattle.specialise.proofs.trial.Trial.places_in.Given as goal

abbrev pub invariant-loop-position : goal.invariant-loop-position
invariant-loop-position l =
    l.places ≡ map (first_place l.self.block.now) (classes_at l.set (take l.position (candidates l.self.accesses.now l.self.block.now)))

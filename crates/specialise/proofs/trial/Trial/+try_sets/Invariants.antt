use Rattle.std.proofs.Common.{◌-◌, length}
use Rattle.specialise.proofs.trial.Trial.+try_sets.Given as goal

abbrev pub decreases-try_sets : goal.decreases-try_sets
decreases-try_sets l = length l.self.now.candidates - l.position

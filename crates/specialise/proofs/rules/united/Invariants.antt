use Rattle.specialise.specs.Trials.{United}
use Rattle.specialise.proofs.rules.united.Given as goal

abbrev pub invariant-loop-position : goal.invariant-loop-position
invariant-loop-position l = United l.table l.set l.position l.all

use Rattle.std.proofs.Common.{List}
use Rattle.specialise.specs.declared.rules.Rule.{Rule}
use Rattle.specialise.specs.Trials.{IsFilled}
use Rattle.specialise.proofs.Tables.{Spread}
use Rattle.specialise.proofs.rules.spread.Given as goal

-- the entries of the first sets are done
abbrev pub invariant-loop-set : goal.invariant-loop-set
invariant-loop-set l = (rules : List Rule) → IsFilled rules l.fn.table → Spread rules l.set l.table

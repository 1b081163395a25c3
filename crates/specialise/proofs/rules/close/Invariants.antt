use Rattle.specialise.proofs.Tables.{Closing}
use Rattle.specialise.proofs.rules.close.Given as goal

-- the entries of the last sets are done
abbrev pub invariant-loop-set : goal.invariant-loop-set
invariant-loop-set l = Closing l.fn.table l.set l.table

use Rattle.code_index.proofs.Greatest.{IsLongest}
use Rattle.code_index.proofs.keyed.KeyedIndex.greatest.Given as goal

abbrev pub invariant-loop-i : goal.invariant-loop-i
invariant-loop-i g l = IsLongest l.self-inside.groups.entries l.i l.best

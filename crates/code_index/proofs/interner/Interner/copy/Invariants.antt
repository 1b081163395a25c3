use Rattle.std.proofs.Common.{◌≡◌, [], take}
use Rattle.indexmap.specs.IndexSet.{insert_all}
use Rattle.code_index.specs.Codes.{same_value}
use Rattle.code_index.proofs.interner.Interner.copy.Given as goal

abbrev pub invariant-loop-i : goal.invariant-loop-i
invariant-loop-i l = l.values.keys ≡ insert_all same_value [] (take l.i l.self)

use Rattle.std.proofs.Common.{take}
use Rattle.plan_ops.specs.Matching.{AreIndexes}
use Rattle.plan_ops.proofs.indexing.indexes_of.Given as goal

abbrev pub invariant-loop-hits : goal.invariant-loop-hits
invariant-loop-hits g l = AreIndexes l.places (g.P.AccessPort.members l.port) (take l.hits-index l.groups) l.indexes.items

use Rattle.std.proofs.Common.{length, take}
use Rattle.plan_ops.proofs.TableFacts.{ArePlaced}
use Rattle.plan_ops.proofs.tables.first_positions.Given as goal

abbrev pub invariant-loop-at : goal.invariant-loop-at
invariant-loop-at l = ArePlaced l.count (length l.list) (take l.at l.list) l.places.items

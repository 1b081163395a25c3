use Rattle.std.proofs.Common.{◌≡◌, take}
use Rattle.aggregate.specs.Grouping.{cells_of}
use Rattle.aggregate.proofs.grouping.cells_of.Given as goal

abbrev pub invariant-loop-place : goal.invariant-loop-place
invariant-loop-place l = l.cells ≡ cells_of l.keys (take l.place l.folds) l.group

use Rattle.std.proofs.Common.{◌≡◌, take}
use Rattle.std.specs.Prelude.{map}
use Rattle.session.specs.Grouping.{fold_in}
use Rattle.session.proofs.grouping.folds_in.Given as goal

abbrev pub invariant-loop-item : goal.invariant-loop-item
invariant-loop-item l = l.folds ≡ map fold_in (take l.item-index l.items)

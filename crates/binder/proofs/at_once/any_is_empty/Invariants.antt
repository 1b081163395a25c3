use Rattle.std.proofs.Common.{◌≡◌, ◌==◌, take, false}
use Rattle.std.specs.List.{list_any}
use Rattle.binder.proofs.at_once.any_is_empty.Given as goal

abbrev pub invariant-loop-atom : goal.invariant-loop-atom
invariant-loop-atom l = list_any (λ a. a.width == 0) (take l.atom-index l.atoms) ≡ false

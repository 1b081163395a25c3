use Rattle.std.proofs.Common.{◌≡◌, ◌∷◌, [], take, true}
use Rattle.std.specs.List.{list_all}
use Rattle.beas_core.specs.Full.{same_value, choice_value}
use Rattle.update_guard.proofs.filtering.meets_constants.Given as goal

abbrev pub invariant-loop-constant : goal.invariant-loop-constant
invariant-loop-constant l = list_all (λ c. same_value (choice_value (l.row ∷ []) c.0) c.1) (take l.constant-index l.constants) ≡ true

use Rattle.std.proofs.Common.{◌≡◌, ◌∷◌, [], take, true}
use Rattle.std.specs.List.{list_all}
use Rattle.beas_core.specs.Full.{same_value, choice_value}
use Rattle.update_guard.proofs.filtering.meets_equalities.Given as goal

abbrev pub invariant-loop-equality : goal.invariant-loop-equality
invariant-loop-equality l = list_all (λ e. same_value (choice_value (l.row ∷ []) e.0) (choice_value (l.row ∷ []) e.1)) (take l.equality-index l.equalities)
    ≡ true

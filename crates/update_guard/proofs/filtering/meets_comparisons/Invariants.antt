use Rattle.std.proofs.Common.{◌≡◌, ◌∷◌, [], take, true}
use Rattle.std.specs.List.{list_all}
use Rattle.beas_core.specs.Full.{choice_value, comparison_holds}
use Rattle.update_guard.proofs.filtering.meets_comparisons.Given as goal

abbrev pub invariant-loop-comparison : goal.invariant-loop-comparison
invariant-loop-comparison l = list_all (comparison_holds (choice_value (l.row ∷ []))) (take l.comparison-index l.comparisons) ≡ true

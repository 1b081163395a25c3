use Rattle.std.proofs.Common.{◌≡◌, map, take}
use Rattle.beas_core.specs.Full.{choice_value, meets}
use Rattle.std.specs.List.{filter}
use Rattle.reference_evaluation.proofs.full.outputs.Given as goal

abbrev pub invariant-loop-choice : goal.invariant-loop-choice
invariant-loop-choice l = l.found ≡ map (λ choice. map (choice_value choice) l.block.output) (filter (meets l.block) (take l.choice-index l.all))

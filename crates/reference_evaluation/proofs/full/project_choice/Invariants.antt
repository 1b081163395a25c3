use Rattle.std.proofs.Common.{◌≡◌, map, take}
use Rattle.beas_core.specs.Full.{choice_value}
use Rattle.reference_evaluation.proofs.full.project_choice.Given as goal

abbrev pub invariant-loop-place : goal.invariant-loop-place
invariant-loop-place l = l.row ≡ map (choice_value l.choice) (take l.place-index l.output)

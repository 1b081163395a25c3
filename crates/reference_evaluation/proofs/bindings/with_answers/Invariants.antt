use Rattle.std.proofs.Common.{◌≡◌, ◌++◌, map, take}
use Rattle.std.specs.List.{zip}
use Rattle.reference_evaluation.proofs.bindings.with_answers.Given as goal

abbrev pub invariant-loop-answer : goal.invariant-loop-answer
invariant-loop-answer l = l.all ≡ map (λ row. l.normal.constants ++ zip l.classes row) (take l.answer-index l.answers)

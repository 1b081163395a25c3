use Rattle.std.proofs.Common.{◌≡◌, ◌++◌, ◌∷◌, map, take}
use Rattle.reference_evaluation.proofs.full.add_choices.Given as goal

abbrev pub invariant-loop-other : goal.invariant-loop-other
invariant-loop-other l = l.all ≡ l.initial.all ++ map (λ other. l.row ∷ other) (take l.other-index l.others)

use Rattle.std.proofs.Common.{◌≡◌, ◌∷◌, map, take}
use Rattle.std.specs.List.{flat_map}
use Rattle.reference_evaluation.proofs.full.choose.Given as goal

abbrev pub invariant-loop-row : goal.invariant-loop-row
invariant-loop-row l = l.all ≡ flat_map (λ row. map (λ other. row ∷ other) l.others) (take l.row-index l.rows)

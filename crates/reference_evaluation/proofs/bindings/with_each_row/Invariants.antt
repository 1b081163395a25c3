use Rattle.std.proofs.Common.{◌≡◌, ◌++◌, map, take}
use Rattle.std.specs.List.{flat_map}
use Rattle.reference_evaluation.proofs.bindings.with_each_row.Given as goal

abbrev pub invariant-loop-way : goal.invariant-loop-way
invariant-loop-way l = l.ways ≡ flat_map (λ way. map (λ row. way ++ row) l.fetched) (take l.way-index l.found)

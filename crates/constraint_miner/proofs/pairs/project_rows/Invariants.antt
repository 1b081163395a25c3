use Rattle.std.proofs.Common.{◌≡◌, ◌++◌, ◌∷◌, [], drop, map}
use Rattle.beas_core.specs.Groups.{project}
use Rattle.constraint_miner.specs.Cells.{pair_row}
use Rattle.constraint_miner.proofs.pairs.project_rows.Given as goal

-- the tuples so far, and those of the rows that are left
abbrev pub invariant-loop-row : goal.invariant-loop-row
invariant-loop-row l =
    map pair_row l.tuples.items ++ map (λ row. project (l.first ∷ l.second ∷ []) row.now) (drop l.row-index l.rows)
    ≡ map (λ row. project (l.first ∷ l.second ∷ []) row.now) l.rows

use Rattle.std.proofs.Common.{◌≡◌, drop}
use Rattle.beas_core.specs.Order.{row_cmp}
use Rattle.beas_core.specs.Groups.{project}
use Rattle.constraint_miner.proofs.cells.compare_in.Given as goal

-- the columns so far tie
abbrev pub invariant-loop-column : goal.invariant-loop-column
invariant-loop-column g l =
    row_cmp (project (drop l.column-index l.columns) (g.T.Tuple.values l.a)) (project (drop l.column-index l.columns) (g.T.Tuple.values l.b))
    ≡ row_cmp (project l.columns (g.T.Tuple.values l.a)) (project l.columns (g.T.Tuple.values l.b))

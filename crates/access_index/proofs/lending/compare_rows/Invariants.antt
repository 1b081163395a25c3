use Rattle.std.proofs.Common.{◌≡◌, drop}
use Rattle.beas_core.specs.Order.{row_cmp}
use Rattle.beas_core.specs.Groups.{project}
use Rattle.access_index.proofs.lending.compare_rows.Given as goal

-- the columns so far tie
abbrev pub invariant-loop-column : goal.invariant-loop-column
invariant-loop-column l =
    row_cmp (project (drop l.column-index l.columns) l.left) (project (drop l.column-index l.columns) l.right)
    ≡ row_cmp (project l.columns l.left) (project l.columns l.right)

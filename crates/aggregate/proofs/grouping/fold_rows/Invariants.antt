use Rattle.std.proofs.Common.{◌≡◌, ◌+◌, ◌++◌, length}
use Rattle.std.specs.Prelude.{All}
use Rattle.beas_core.specs.Order.{row_cmp}
use Rattle.beas_core.specs.Sets.{IsInOrder}
use Rattle.aggregate.specs.Grouping.{grouped_rows}
use Rattle.aggregate.proofs.grouping.fold_rows.Given as goal

abbrev pub invariant-loop-rest : goal.invariant-loop-rest
invariant-loop-rest l = record {
  done : l.found ++ grouped_rows l.keys l.folds l.rest ≡ grouped_rows l.keys l.folds l.rows;
  in_order : IsInOrder row_cmp l.rest;
  wide : All (λ row. length row ≡ l.keys + length l.folds) l.rest;
}

abbrev pub decreases-loop-rest : goal.decreases-loop-rest
decreases-loop-rest l = length l.rest

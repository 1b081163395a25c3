use Rattle.std.proofs.Common.{◌≡◌, drop, true}
use Rattle.beas_core.specs.Groups.{value_in, has_column}
use Rattle.access_index.proofs.index.value_of.Given as goal

abbrev pub invariant-loop-i : goal.invariant-loop-i
invariant-loop-i l = record {
  same : value_in l.columns l.tuple l.column ≡ value_in (drop l.i l.columns) (drop l.i l.tuple) l.column;
  there : has_column (drop l.i l.columns) l.column ≡ true;
}

use Rattle.std.proofs.Common.{◌≡◌, ◌≤◌, length, drop}
use Rattle.beas_core.specs.Order.{row_cmp}
use Rattle.beas_core.specs.Groups.{member_columns}
use Rattle.code_index.specs.Reading.{read, pick}
use Rattle.code_index.proofs.codes.compare_tuple.Given as goal

abbrev pub invariant-loop-i : goal.invariant-loop-i
invariant-loop-i l = record {
  within : l.i ≤ length (member_columns l.access);
  rest : row_cmp (read l.codes l.left) (read l.codes (pick (member_columns l.access) l.row_codes))
      ≡ row_cmp (read l.codes (drop l.i l.left)) (read l.codes (pick (drop l.i (member_columns l.access)) l.row_codes));
}

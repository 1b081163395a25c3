use Rattle.std.proofs.Common.{◌≡◌, ◌<◌, ℕ, length, get_or}
use Rattle.beas_core.specs.declared.schema.ColumnId.{ColumnId}
use Rattle.beas_core.specs.Groups.{member_columns}
use Rattle.code_index.specs.Spelling.{IsCodeIn}
use Rattle.code_index.proofs.spelling.known_row.Given as goal

abbrev pub invariant-loop-i : goal.invariant-loop-i
invariant-loop-i l = record {
  len : length l.row_codes ≡ 64;
  right : (j : ℕ) (d : ColumnId) → j < l.i → IsCodeIn l.codes l.row_codes l.row (get_or (member_columns l.access) j d);
}

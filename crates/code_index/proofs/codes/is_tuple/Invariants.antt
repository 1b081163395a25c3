use Rattle.std.proofs.Common.{◌≡◌, ◌≤◌, length, take}
use Rattle.beas_core.specs.Groups.{member_columns}
use Rattle.code_index.specs.Reading.{pick}
use Rattle.code_index.proofs.codes.is_tuple.Given as goal

-- the codes so far are the row's
abbrev pub invariant-loop-i : goal.invariant-loop-i
invariant-loop-i l = record {
  within : l.i ≤ length (member_columns l.access);
  same : take l.i l.tuple ≡ take l.i (pick (member_columns l.access) l.row_codes);
}

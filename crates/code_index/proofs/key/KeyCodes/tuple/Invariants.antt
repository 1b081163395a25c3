use Rattle.std.proofs.Common.{◌≡◌, length, take}
use Rattle.beas_core.specs.Groups.{member_columns}
use Rattle.code_index.specs.Reading.{pick}
use Rattle.code_index.proofs.key.KeyCodes.tuple.Given as goal

abbrev pub invariant-loop-i : goal.invariant-loop-i
invariant-loop-i g l = record {
  same : take l.i l.tuple ≡ take l.i (pick (member_columns l.access) l.row_codes);
  len : length l.tuple ≡ g.row.N;
}

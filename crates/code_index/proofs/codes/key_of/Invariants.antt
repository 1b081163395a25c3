use Rattle.std.proofs.Common.{◌≡◌, length, take}
use Rattle.code_index.specs.Reading.{pick}
use Rattle.code_index.proofs.codes.key_of.Given as goal

abbrev pub invariant-loop-i : goal.invariant-loop-i
invariant-loop-i g l = record {
  same : take l.i l.key ≡ take l.i (pick l.columns l.row_codes);
  len : length l.key ≡ length l.columns;
}

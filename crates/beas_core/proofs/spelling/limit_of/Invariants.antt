use Rattle.std.proofs.Common.{◌≡◌, ◌<◌, ◌≤◌, ◌+◌, ◌*◌, take, true}
use Rattle.std.specs.List.{list_all}
use Rattle.std.specs.Char.{is_ascii_digit}
use Rattle.std.specs.Str.Parse.{digits_value}
use Rattle.beas_core.proofs.spelling.limit_of.Given as goal

abbrev pub invariant-loop-byte : goal.invariant-loop-byte
invariant-loop-byte l = record {
  digits : list_all is_ascii_digit (take l.byte-index l.bytes) ≡ true;
  small : l.value ≤ 4294967295 * 10 + 9;
  exact : l.value ≤ 4294967295 → l.value ≡ digits_value 10 (take l.byte-index l.bytes);
  large : 4294967295 < l.value → 4294967295 < digits_value 10 (take l.byte-index l.bytes);
}

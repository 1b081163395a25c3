use Rattle.std.proofs.Common.{◌≡◌, ◌+◌, ◌-◌, ◌^◌, ◌<◌, ◌≤◌, length, min}
use Rattle.std.specs.Io.KnownBytes.{Consumes}
use Rattle.real_streams.proofs.real_files.ReadCounts.read_whole.Given as goal

abbrev pub invariant-pieces : goal.invariant-pieces
invariant-pieces g l = record {
  fits : length l.bytes.items ≤ l.limit;
  some : 0 < length l.piece;
  counted : l.self.taken ≡ min (l.fn.self.taken + length l.bytes.items) (2 ^ 64 - 1);
  range : l.fn.self.taken ≤ 2 ^ 64 - 1;
  faults : l.self.faults ≡ l.fn.self.faults;
  consumed : Consumes (g.S.Read.remaining l.fn.source) (g.S.Read.remaining l.source) l.bytes.items;
}

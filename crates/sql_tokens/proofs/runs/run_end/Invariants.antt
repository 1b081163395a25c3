use Rattle.std.proofs.Common.{◌≡◌, ◌+◌, ◌-◌, ◌≤◌, length, drop}
use Rattle.std.specs.List.{prefix_len}
use Rattle.sql_tokens.proofs.runs.run_end.Given as goal

abbrev pub invariant-loop-to : goal.invariant-loop-to
invariant-loop-to g l = record {
  within : l.to ≤ length l.bytes;
  len : l.to + prefix_len g.C.Class.test (drop l.to l.bytes) ≡ l.from + prefix_len g.C.Class.test (drop l.from l.bytes);
}

abbrev pub decreases-loop-to : goal.decreases-loop-to
decreases-loop-to g l = length l.bytes - l.to

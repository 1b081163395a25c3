use Rattle.std.proofs.Common.{◌≡◌, ◌+◌, take}
use Rattle.full_meaning.proofs.copies.copied_rows.Given as goal

abbrev pub invariant-loop-i : goal.invariant-loop-i
invariant-loop-i g l = record { copies : l.copies ≡ take l.i l.rows; cost : l.steps ≡ l.initial.steps + l.i }

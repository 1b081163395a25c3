use Rattle.std.proofs.Common.{◌≡◌, ◌+◌, length, take}
use Rattle.std.specs.List.{sum_by}
use Rattle.full_meaning.proofs.copies.copied_tables.Given as goal

abbrev pub invariant-loop-rows : goal.invariant-loop-rows
invariant-loop-rows g l = record {
  copies : l.copies ≡ take l.rows-index l.tables;
  cost : l.steps ≡ l.initial.steps + sum_by length (take l.rows-index l.tables);
}

use Rattle.std.proofs.Common.{◌≡◌, true, take, Some}
use Rattle.std.specs.List.{flat_map}
use Rattle.beas_core.specs.Coverage.{start_classes}
use Rattle.beas_core.specs.Valuations.{starts}
use Rattle.plan_ops.specs.Started.{one_row}
use Rattle.plan_ops.proofs.starting.guided_rows.Given as goal

abbrev pub invariant-loop-answer : goal.invariant-loop-answer
invariant-loop-answer l = record {
  own : take l.own l.constants.items ≡ l.block.constants;
  rows : l.rows.items ≡ flat_map (one_row (start_classes l.block true)) (starts l.block (Some (take l.answer-index l.answers)));
}

use Rattle.std.specs.Option.{option_copied}
use Rattle.std.proofs.Common.{◌≡◌, ◌+◌, take}
use Rattle.beas_core.specs.Reads.{reads_of}
use Rattle.plan_ops.proofs.FrontFacts.{Front}
use Rattle.plan_executor.proofs.answering.answer_block.Given as goal

abbrev pub invariant-loop-step : goal.invariant-loop-step
invariant-loop-step g l = record {
  front : Front (g.P.AccessPort.rows l.port) l.block (g.P.AccessPort.accesses l.port) (option_copied l.guide) (take l.step-index l.plan) l.from;
  reads : l.reads ≡ l.fn.reads
      + reads_of (g.P.AccessPort.rows l.port) l.block (g.P.AccessPort.accesses l.port) (option_copied l.guide) (take l.step-index l.plan);
  steps : l.steps ≡ l.fn.steps
      + reads_of (g.P.AccessPort.rows l.port) l.block (g.P.AccessPort.accesses l.port) (option_copied l.guide) (take l.step-index l.plan);
}

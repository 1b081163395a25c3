use Rattle.std.proofs.Common.{◌-◌, ◌++◌, length, map, take}
use Rattle.beas_core.specs.Valuations.{output_row}
use Rattle.place_chains.specs.Fitting.{IsFitting}
use Rattle.place_chains.specs.TupleOrder.{values_at}
use Rattle.plan_ops.specs.Stages.{bound_with, next_by, set_before, use_at}
use Rattle.beas_core.proofs.Sets.{SameMembers}
use Rattle.block_walk.specs.Entries.{kept_of}
use Rattle.block_walk.proofs.walking.push_outputs.Given as goal

abbrev pub invariant-tuples : goal.invariant-tuples
invariant-tuples l = record {
  fits : IsFitting l.stage.join.shared.1 (kept_of l.known l.place) (values_at l.stage.join.shared.0 l.row) l.fitting;
  through : SameMembers l.through (l.fn.through
      ++ map (output_row l.block (bound_with l.block (use_at l.stage) (set_before l.block l.stage)))
      (next_by l.block (use_at l.stage) (set_before l.block l.stage) l.row (take l.fitting.from (kept_of l.known l.place))));
}

abbrev pub decreases-tuples : goal.decreases-tuples
decreases-tuples l = length (kept_of l.known l.place) - l.fitting.from

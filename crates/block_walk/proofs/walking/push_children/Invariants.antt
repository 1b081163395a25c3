use Rattle.std.proofs.Common.{◌≡◌, ◌-◌, ◌++◌, length, take}
use Rattle.place_chains.specs.Fitting.{IsFitting}
use Rattle.place_chains.specs.TupleOrder.{values_at}
use Rattle.plan_ops.specs.Stages.{next_by, set_before, use_at}
use Rattle.block_walk.specs.Entries.{kept_of}
use Rattle.block_walk.specs.Stacks.{IsInside, IsStack, pending_in, pending_of, row_of}
use Rattle.block_walk.specs.Walks.{children}
use Rattle.block_walk.proofs.walking.push_children.Given as goal

abbrev pub invariant-tuples : goal.invariant-tuples
invariant-tuples l =
    let row = row_of l.fn.pending l.at in
    record {
      stack : IsStack l.pending;
      inside : IsInside l.pending.values.items l.at;
      same : row_of l.pending l.at ≡ row;
      fits : IsFitting l.stage.join.shared.1 (kept_of l.known l.place) (values_at l.stage.join.shared.0 row) l.fitting;
      pending : pending_in l.pending ≡ pending_in l.fn.pending
          ++ children (pending_of l.fn.pending.values.items l.at)
          (next_by l.block (use_at l.stage) (set_before l.block l.stage) row (take l.fitting.from (kept_of l.known l.place)));
    }

abbrev pub decreases-tuples : goal.decreases-tuples
decreases-tuples l = length (kept_of l.known l.place) - l.fitting.from

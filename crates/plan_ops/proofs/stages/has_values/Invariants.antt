use Rattle.std.proofs.Common.{◌≡◌, ◌↔◌, length, drop}
use Rattle.beas_core.specs.Groups.{project}
use Rattle.plan_ops.specs.Joins.{joined_by}
use Rattle.plan_ops.proofs.stages.has_values.Given as goal

abbrev pub invariant-loop-i : goal.invariant-loop-i
invariant-loop-i l =
    let joined = joined_by l.join.sources.items l.row l.tuple in record {
      same : length l.values ≡ length l.columns;
      rest : (l.values ≡ project l.columns joined) ↔ (drop l.i l.values ≡ project (drop l.i l.columns) joined);
    }

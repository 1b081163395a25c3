use Rattle.std.proofs.Common.{◌≡◌, ◌-◌, ◌++◌, length, take}
use Rattle.place_chains.specs.Fitting.{IsFitting}
use Rattle.place_chains.specs.TupleOrder.{values_at}
use Rattle.plan_ops.specs.Joins.{joins}
use Rattle.plan_ops.proofs.indexing.push_from_group.Given as goal

abbrev pub invariant-tuples : goal.invariant-tuples
invariant-tuples g l = record {
  fits : IsFitting l.join.shared.1 (g.P.AccessPort.members l.port l.hits) (values_at l.join.shared.0 l.row) l.fitting;
  found : l.found.items ≡ l.fn.found.items
      ++ joins l.join.sources.items l.join.checks.items l.row (take l.fitting.from (g.P.AccessPort.members l.port l.hits));
}

abbrev pub decreases-tuples : goal.decreases-tuples
decreases-tuples g l = length (g.P.AccessPort.members l.port l.hits) - l.fitting.from

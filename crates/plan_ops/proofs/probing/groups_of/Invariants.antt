use Rattle.std.proofs.Common.{◌≡◌, ◌≤◌, ◌+◌, ◌*◌, take, length}
use Rattle.std.specs.Prelude.{vec_len, vec_capacity}
use Rattle.std.specs.List.{sum_by, AllZip}
use Rattle.beas_core.specs.Derivations.{access_in}
use Rattle.beas_core.specs.Reads.{probe_reads}
use Rattle.plan_ops.specs.Joins.{IsGroup}
use Rattle.plan_ops.proofs.probing.groups_of.Given as goal

abbrev pub invariant-loop-key : goal.invariant-loop-key
invariant-loop-key g l = record {
  reads : l.reads ≡ l.initial.reads
      + sum_by (probe_reads (g.P.AccessPort.rows l.port) (access_in (g.P.AccessPort.accesses l.port) l.id)) (take l.key-index l.keys);
  steps : l.steps ≡ l.initial.steps
      + sum_by (probe_reads (g.P.AccessPort.rows l.port) (access_in (g.P.AccessPort.accesses l.port) l.id)) (take l.key-index l.keys);
  few : sum_by (probe_reads (g.P.AccessPort.rows l.port) (access_in (g.P.AccessPort.accesses l.port) l.id)) (take l.key-index l.keys)
      ≤ l.key-index * (access_in (g.P.AccessPort.accesses l.port) l.id).bound;
  groups : AllZip (IsGroup (g.P.AccessPort.rows l.port) (g.P.AccessPort.accesses l.port) (g.P.AccessPort.stands l.port) (g.P.AccessPort.members l.port) l.id)
      (take l.key-index l.keys) l.groups.items;
  len : vec_len l.groups ≡ l.key-index;
  room : vec_capacity l.groups ≡ length l.keys;
}

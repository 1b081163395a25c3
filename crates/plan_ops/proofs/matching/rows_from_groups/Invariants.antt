use Rattle.std.proofs.Common.{◌≡◌, flat_map, take}
use Rattle.beas_core.specs.Derivations.{access_in}
use Rattle.beas_core.specs.Groups.{group_of, project}
use Rattle.plan_ops.specs.Joins.{joins}
use Rattle.plan_ops.proofs.matching.rows_from_groups.Given as goal

abbrev pub invariant-loop-row : goal.invariant-loop-row
invariant-loop-row g l = l.found.items
    ≡ flat_map (λ row. joins l.join.sources.items l.join.checks.items row
    (group_of (g.P.AccessPort.rows l.port (access_in (g.P.AccessPort.accesses l.port) l.fn.id).table) (access_in (g.P.AccessPort.accesses l.port) l.fn.id)
    (project l.key row))) (take l.row-index l.rows)

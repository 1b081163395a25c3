use Rattle.std.proofs.lemmas.Grind.{common_steps}
use Rattle.std.proofs.Common.{◌<◌, ◌+◌, ◌++◌, ◌∙◌, List, [], ap, sym, subst, arith, length, map, get_or, take, flat_map, Contains}
use Rattle.beas_core.specs.Types.{Row}
use Rattle.beas_core.specs.Order.{row_cmp}
use Rattle.beas_core.specs.Sets.{distinct, IsInOrder}
use Rattle.beas_core.specs.Derivations.{access_in}
use Rattle.beas_core.specs.Groups.{group_of, member_columns, project}
use Rattle.plan_ops.specs.Joins.{IsGroup, IsSharing, IsWithin, joins}
use Rattle.plan_ops.specs.Matching.{IsIndexed}
use Rattle.plan_ops.proofs.ExtendFacts.{keys_in_order, key_there, flat_more}
use Rattle.plan_ops.proofs.ProbeFacts.{zip_at, length-zip}
use Rattle.plan_ops.proofs.matching.rows_from_groups.Goals as goal

pub position_of_key-at-requires-clause-order : goal.position_of_key-at-requires-clause-order
position_of_key-at-requires-clause-order g c = subst (IsInOrder row_cmp) (sym c.requires.keys) (keys_in_order c.args.key.now c.args.rows.now)

pub position_of_key-at-requires-clause-there : goal.position_of_key-at-requires-clause-there
position_of_key-at-requires-clause-there g c =
    subst (λ ks. Contains ks (project c.args.key.now c.as_slice.result.now)) (sym c.requires.keys)
    (subst (λ r. Contains (distinct row_cmp (map (project c.args.key.now) c.args.rows.now)) (project c.args.key.now r)) (sym c.as_slice.ensures)
    (key_there c.args.key.now c.args.rows.now c.loop-row.row-index c.row-item.result c.loop-row-test.true c.row-item.is))

pub bounds-groups-at : goal.bounds-groups-at
bounds-groups-at g c =
    let R = IsGroup (g.P.AccessPort.rows c.args.port.now) (g.P.AccessPort.accesses c.args.port.now) (g.P.AccessPort.stands c.args.port.now)
    (g.P.AccessPort.members c.args.port.now) c.args.id in
    let n = length-zip R c.args.keys.now c.args.groups.now c.requires.groups in
    omega (arith, n, c.position_of_key-at.ensures.within)

pub push_from_group-requires-clause-hits : goal.push_from_group-requires-clause-hits
push_from_group-requires-clause-hits g c =
    let R = IsGroup (g.P.AccessPort.rows c.args.port.now) (g.P.AccessPort.accesses c.args.port.now) (g.P.AccessPort.stands c.args.port.now)
    (g.P.AccessPort.members c.args.port.now) c.args.id in
    let at = c.position_of_key-at.result in
    let group = subst (R (get_or c.args.keys.now at [])) (sym c.index-groups-at.is)
    (zip_at R c.args.keys.now c.args.groups.now at [] c.index-groups-at.result c.requires.groups c.position_of_key-at.ensures.within) in
    group.hits_are

pub push_from_group-requires-clause-columns : goal.push_from_group-requires-clause-columns
push_from_group-requires-clause-columns g c =
    let accesses = g.P.AccessPort.accesses c.args.port.now in
    let R = IsGroup (g.P.AccessPort.rows c.args.port.now) accesses (g.P.AccessPort.stands c.args.port.now) (g.P.AccessPort.members c.args.port.now) c.args.id in
    let at = c.position_of_key-at.result in
    let group = subst (R (get_or c.args.keys.now at [])) (sym c.index-groups-at.is)
    (zip_at R c.args.keys.now c.args.groups.now at [] c.index-groups-at.result c.requires.groups c.position_of_key-at.ensures.within) in
    c.requires.columns ∙ ap (λ n. member_columns (access_in accesses n)) (sym group.access_is)

pub push_from_group-requires-clause-within : goal.push_from_group-requires-clause-within
push_from_group-requires-clause-within g c =
    subst (λ (r : Row). IsWithin (length r + length c.args.join.now.picked.0) c.args.join.now)
    (sym (c.as_slice-in-loop-row.ensures ∙ c.row-item.is))
    (c.requires.within c.loop-row.row-index c.row-item.result c.loop-row-test.true)

pub push_from_group-requires-clause-sharing : goal.push_from_group-requires-clause-sharing
push_from_group-requires-clause-sharing g c =
    subst (λ (r : Row). IsSharing (length r) c.args.join.now)
    (sym (c.as_slice-in-loop-row.ensures ∙ c.row-item.is))
    (c.requires.sharing c.loop-row.row-index c.row-item.result c.loop-row-test.true)

pub bounds-indexes-at : goal.bounds-indexes-at
bounds-indexes-at g c =
    let R = IsGroup (g.P.AccessPort.rows c.args.port.now) (g.P.AccessPort.accesses c.args.port.now) (g.P.AccessPort.stands c.args.port.now)
    (g.P.AccessPort.members c.args.port.now) c.args.id in
    let n = length-zip R c.args.keys.now c.args.groups.now c.requires.groups in
    let m = c.requires.indexes.count in
    omega (arith, n, m, c.position_of_key-at.ensures.within)

pub offset_bounds-indexes-at : goal.offset_bounds-indexes-at
offset_bounds-indexes-at g c =
    let R = IsGroup (g.P.AccessPort.rows c.args.port.now) (g.P.AccessPort.accesses c.args.port.now) (g.P.AccessPort.stands c.args.port.now)
    (g.P.AccessPort.members c.args.port.now) c.args.id in
    let n = length-zip R c.args.keys.now c.args.groups.now c.requires.groups in
    let m = c.requires.indexes.count in
    let within : c.position_of_key-at.result < length c.args.indexes.now = omega (arith, n, m, c.position_of_key-at.ensures.within) in
    grind (arith, common_steps, within)

pub push_from_group-requires-clause-index : goal.push_from_group-requires-clause-index
push_from_group-requires-clause-index g c =
    let members = g.P.AccessPort.members c.args.port.now in
    let places = c.args.join.now.shared.1 in
    let R = IsGroup (g.P.AccessPort.rows c.args.port.now) (g.P.AccessPort.accesses c.args.port.now) (g.P.AccessPort.stands c.args.port.now) members c.args.id in
    let at = c.position_of_key-at.result in
    let n = length-zip R c.args.keys.now c.args.groups.now c.requires.groups in
    subst (λ hits. IsIndexed places (members hits) c.index-indexes-at.result) (sym c.index-groups-at.is)
    (subst (IsIndexed places (members (get_or c.args.groups.now at c.index-groups-at.result))) (sym c.index-indexes-at.is)
    (c.requires.indexes.each at c.index-groups-at.result c.index-indexes-at.result (omega (arith, n, c.position_of_key-at.ensures.within))))

pub loop-row-preserved : goal.loop-row-preserved
loop-row-preserved g c =
    let rows = g.P.AccessPort.rows c.args.port.now in
    let accesses = g.P.AccessPort.accesses c.args.port.now in
    let access = access_in accesses c.args.id in
    let members = g.P.AccessPort.members c.args.port.now in
    let R = IsGroup rows accesses (g.P.AccessPort.stands c.args.port.now) members c.args.id in
    let at = c.position_of_key-at.result in
    let group = subst (R (get_or c.args.keys.now at [])) (sym c.index-groups-at.is)
    (zip_at R c.args.keys.now c.args.groups.now at [] c.index-groups-at.result c.requires.groups c.position_of_key-at.ensures.within) in
    let sources = c.args.join.now.sources.items in
    let checks = c.args.join.now.checks.items in
    let key = c.args.key.now in
    let found = group.group_is ∙ ap (group_of (rows access.table) access) (c.position_of_key-at.ensures.key ∙ ap (project key) c.as_slice.ensures) in
    let f = λ (row : Row). joins sources checks row (group_of (rows access.table) access (project key row)) in
    c.in_ok-push_from_group.ensures
    ∙ ap (λ (xs : List Row). xs ++ joins sources checks c.as_slice-in-loop-row.result.now (members c.index-groups-at.result)) c.loop-row.invariant
    ∙ ap (λ (r : Row). flat_map f (take c.loop-row.row-index c.args.rows.now) ++ joins sources checks r (members c.index-groups-at.result))
    c.as_slice-in-loop-row.ensures
    ∙ ap (λ (ts : List Row). flat_map f (take c.loop-row.row-index c.args.rows.now) ++ joins sources checks c.row-item.result ts) found
    ∙ flat_more f c.args.rows.now c.loop-row.row-index c.row-item.result c.loop-row-test.true c.row-item.is

use Rattle.std.proofs.Common.{◌≡◌, ◌∙◌, ap, sym}
use Rattle.beas_core.specs.Derivations.{access_in}
use Rattle.beas_core.specs.Found.{Found}
use Rattle.beas_core.specs.Groups.{member_columns}
use Rattle.plan_ops.specs.Joins.{HitsAre, IsGroup}
use Rattle.plan_ops.proofs.ProbeFacts.{zip_all}
use Rattle.plan_ops.proofs.matching.joined_rows.Goals as goal

pub indexes_of-requires-clause-hits : goal.indexes_of-requires-clause-hits
indexes_of-requires-clause-hits g c =
    let accesses = g.P.AccessPort.accesses c.args.port.now in
    let stands = g.P.AccessPort.stands c.args.port.now in
    let members = g.P.AccessPort.members c.args.port.now in
    let R = IsGroup (g.P.AccessPort.rows c.args.port.now) accesses stands members c.args.id in
    zip_all R (HitsAre accesses stands members) (λ k h is. is.hits_are) c.args.keys.now c.args.groups.now c.requires.groups

pub indexes_of-requires-clause-columns : goal.indexes_of-requires-clause-columns
indexes_of-requires-clause-columns g c =
    let accesses = g.P.AccessPort.accesses c.args.port.now in
    let stands = g.P.AccessPort.stands c.args.port.now in
    let members = g.P.AccessPort.members c.args.port.now in
    let R = IsGroup (g.P.AccessPort.rows c.args.port.now) accesses stands members c.args.id in
    zip_all R (λ (h : Found). c.tuple-columns.result.now ≡ member_columns (access_in accesses h.access))
    (λ k h is. c.tuple-columns.ensures ∙ c.requires.columns ∙ ap (λ n. member_columns (access_in accesses n)) (sym is.access_is))
    c.args.keys.now c.args.groups.now c.requires.groups

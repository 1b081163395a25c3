use Rattle.std.proofs.Common.{◌≡◌, ◌∙◌, All, length, subst, sym, take, ap, arith}
use Rattle.std.proofs.lemmas.List.{length-append}
use Rattle.beas_core.specs.declared.schema.Access.{Access}
use Rattle.beas_core.specs.Derivations.{access_in}
use Rattle.beas_core.specs.Groups.{member_columns}
use Rattle.plan_ops.specs.Sieves.{IsOwn}
use Rattle.plan_ops.proofs.ProbeFacts.{group_of_hits, group_takes}
use Rattle.block_walk.proofs.fetching.fetch.Goals as goal

pub push_kept-requires-clause-hits : goal.push_kept-requires-clause-hits
push_kept-requires-clause-hits g c =
    (group_of_hits (g.P.AccessPort.rows c.args.port.now) (g.P.AccessPort.accesses c.args.port.now) (g.P.AccessPort.stands c.args.port.now)
    (g.P.AccessPort.members c.args.port.now) c.args.id c.args.key.now c.probe-hits.result c.requires.live c.probe-hits.ensures.access
    c.probe-hits.ensures.stands c.probe-hits.ensures.len c.probe-hits.ensures.members).hits_are

pub push_kept-requires-clause-columns : goal.push_kept-requires-clause-columns
push_kept-requires-clause-columns g c =
    c.requires.stage.join_is.columns_are
    ∙ ap (λ (a : Access). member_columns a) (c.requires.access ∙ ap (access_in (g.P.AccessPort.accesses c.args.port.now)) (sym c.probe-hits.ensures.access))

pub push_kept-requires-clause-own : goal.push_kept-requires-clause-own
push_kept-requires-clause-own g c =
    let stage = c.args.stage.now in
    subst (λ cs. All (IsOwn c.args.block.now stage.atom cs) stage.sieve.own.items) (sym c.requires.stage.join_is.columns_are) c.requires.stage.sieve_is.own

pub push_kept-requires-clause-width : goal.push_kept-requires-clause-width
push_kept-requires-clause-width g c =
    let access = access_in (g.P.AccessPort.accesses c.args.port.now) c.args.id in
    let both = ap length c.requires.stage.join_is.columns_are ∙ ap (λ (a : Access). length (member_columns a)) c.requires.access
    ∙ length-append access.key access.fetched in
    let wide = c.requires.width in
    omega (arith, both, wide)

pub push_kept-requires-clause-begins : goal.push_kept-requires-clause-begins
push_kept-requires-clause-begins g c =
    let access = access_in (g.P.AccessPort.accesses c.args.port.now) c.args.id in
    subst (All (λ tuple. take (length c.args.key.now) tuple ≡ c.args.key.now)) (sym c.probe-hits.ensures.members)
    (group_takes (g.P.AccessPort.rows c.args.port.now access.table) access c.args.key.now c.requires.width)

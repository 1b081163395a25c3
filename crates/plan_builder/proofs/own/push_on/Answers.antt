use Rattle.std.proofs.Common.{◌∙◌, arith}
use Rattle.plan_builder.proofs.FewLists.{copied_all, copied_more, id_is_live}
use Rattle.plan_builder.proofs.PreparationFacts.{ids_once}
use Rattle.plan_builder.proofs.own.push_on.Goals as goal

pub access-access-requires : goal.access-access-requires
access-access-requires c =
    let schema = c.args.catalogue.now in
    id_is_live schema.accesses c.args.table c.loop-k.k c.ids_on-ids.result.now c.id_in.result (ids_once schema c.ids_on-ids.ensures.sound)
    c.ids_on-ids.ensures.ids (omega arith) (c.id_in.ensures c.id_in.result)

pub loop-k-preserved : goal.loop-k-preserved
loop-k-preserved c =
    let schema = c.args.catalogue.now in
    copied_more schema.accesses c.args.table c.loop-k.k c.ids_on-ids.result.now c.id_in.result (ids_once schema c.ids_on-ids.ensures.sound)
    c.ids_on-ids.ensures.ids (omega arith) (c.id_in.ensures c.id_in.result)
    c.args.found.now c.loop-k.found c.push.new.self c.in_ok-copy.field-0 c.loop-k.invariant (c.in_ok-copy.ensures ∙ c.access-access.ensures)
    c.in_ok-push.ensures.ok

pub returns : goal.returns
returns c =
    copied_all c.args.catalogue.now.accesses c.args.table c.loop-k.k c.ids_on-ids.result.now c.args.found.now c.loop-k.found c.ids_on-ids.ensures.ids
    (omega arith) c.loop-k.invariant

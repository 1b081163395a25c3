use Rattle.std.proofs.Common.{ap, arith, length}
use Rattle.std.proofs.lemmas.Result.{on_ok_weaker}
use Rattle.plan_data.proofs.NamedFacts.{blocks_counted}
use Rattle.plan_data.proofs.Tokens.{added}
use Rattle.plan_data.proofs.plan.write_plan.Goals as goal

pub write_query-requires : goal.write_query-requires
write_query-requires c =
    let below = c.recall_length.ensures in
    let same = ap length c.as_slice.ensures in
    let counted = blocks_counted c.args.catalogue.now.accesses c.args.prepared.now c.requires in
    omega (arith, below, same, counted)

pub returns : goal.returns
returns c =
    on_ok_weaker c.end_object.result
    (λ end. added c.args.out.now _ _ c.in_ok-begin_object.ensures (added c.begin_object.new.self _ _ c.in_ok-member.ensures
    (added c.member.new.self _ _ c.in_ok-digits.ensures (added c.digits.new.self _ _ c.in_ok-member-2.ensures
    (added c.member-2.new.self _ _ c.in_ok-write_list.ensures (added c.write_list.new.out _ _ c.in_ok-member-3.ensures
    (added c.member-3.new.self _ _ c.in_ok-write_query.ensures.value (added c.write_query.new.out _ _ c.in_ok-member-4.ensures
    (added c.member-4.new.self _ _ c.in_ok-write_blocks.ensures end)))))))))
    c.end_object.ensures

use Rattle.std.proofs.Common.{◌∙◌}
use Rattle.std.proofs.lemmas.Result.{on_ok_weaker}
use Rattle.plan_data.proofs.Tokens.{added, columns_same}
use Rattle.plan_data.proofs.plan.write_step.Goals as goal

pub returns : goal.returns
returns c =
    let name = rw c.table_name.ensures at c.in_ok-write_member-2.ensures in
    let columns = c.as_slice-columns.ensures ∙ c.columns.ensures.columns in
    let key = columns_same c.member.new.self _ _ _ _ columns c.as_slice.ensures c.in_ok-write_columns.ensures in
    let fetch = columns_same c.member-2.new.self _ _ _ _ columns c.as_slice-2.ensures c.in_ok-write_columns-2.ensures in
    on_ok_weaker c.end_object.result
    (λ end. added c.args.out.now _ _ c.in_ok-begin_object.ensures (added c.begin_object.new.self _ _ c.in_ok-write_member.ensures
    (added c.write_member.new.out _ _ name (added c.write_member-2.new.out _ _ c.in_ok-write_member-3.ensures
    (added c.write_member-3.new.out _ _ c.in_ok-member.ensures (added c.member.new.self _ _ key
    (added c.write_columns.new.out _ _ c.in_ok-member-2.ensures (added c.member-2.new.self _ _ fetch
    (added c.write_columns-2.new.out _ _ c.in_ok-write_member-4.ensures (added c.write_member-4.new.out _ _ c.in_ok-write_member-5.ensures end))))))))))
    c.end_object.ensures

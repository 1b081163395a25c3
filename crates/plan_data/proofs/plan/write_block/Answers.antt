use Rattle.std.proofs.lemmas.Result.{on_ok_weaker}
use Rattle.plan_data.proofs.Tokens.{added}
use Rattle.plan_data.proofs.plan.write_block.Goals as goal

pub returns : goal.returns
returns c =
    let atoms = rw c.as_slice.ensures at c.in_ok-write_atoms.ensures in
    let steps = rw c.as_slice-2.ensures at c.in_ok-write_steps.ensures in
    on_ok_weaker c.end_object.result
    (λ end. added c.args.out.now _ _ c.in_ok-begin_object.ensures (added c.begin_object.new.self _ _ c.in_ok-member.ensures
    (added c.member.new.self _ _ atoms (added c.write_atoms.new.out _ _ c.in_ok-write_member.ensures
    (added c.write_member.new.out _ _ c.in_ok-write_member-2.ensures (added c.write_member-2.new.out _ _ c.in_ok-write_member-3.ensures
    (added c.write_member-3.new.out _ _ c.in_ok-write_member-4.ensures (added c.write_member-4.new.out _ _ c.in_ok-write_member-5.ensures
    (added c.write_member-5.new.out _ _ c.in_ok-write_member-6.ensures (added c.write_member-6.new.out _ _ c.in_ok-member-2.ensures
    (added c.member-2.new.self _ _ steps end)))))))))))
    c.end_object.ensures

use Rattle.std.proofs.lemmas.Result.{on_ok_weaker}
use Rattle.plan_data.proofs.Tokens.{added}
use Rattle.plan_data.proofs.as_json.ComparisonAsJson.write.Goals as goal

pub returns : goal.returns
returns c =
    let sign = rw c.sign_text.ensures at c.in_ok-string.ensures in
    on_ok_weaker c.end_object.result
    (λ end. added c.args.out.now _ _ c.in_ok-begin_object.ensures (added c.begin_object.new.self _ _ c.in_ok-write_member.ensures
    (added c.write_member.new.out _ _ c.in_ok-member.ensures (added c.member.new.self _ _ sign
    (added c.string.new.self _ _ c.in_ok-write_member-2.ensures end)))))
    c.end_object.ensures

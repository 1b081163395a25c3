use Rattle.std.proofs.Common.{◌∙◌, sym}
use Rattle.plan_ops.specs.Over.{set_of}
use Rattle.plan_ops.proofs.SieveFacts.{all_rest}
use Rattle.plan_ops.proofs.sieving.sieve_of.Goals.{then-not-branch, else-not-branch}
use Rattle.plan_ops.proofs.sieving.sieve_of.Goals as goal

pub loop-number-preserved : goal.loop-number-preserved
loop-number-preserved c =
    let normal = c.args.block.now in
    let listed = c.in_ok-list_own.ensures in
    record {
      own = listed.own;
      plain = λ e. elim c.if-not-branch.branch [
        | then-not-branch w ↦ (let n = w.one-is in cc)
        | else-not-branch w ↦ c.loop-number.invariant.plain (sym w.one-is ∙ e)
      ];
      rest = λ e. elim c.if-not-branch.branch [
        | then-not-branch w ↦ (let n = w.one-is in cc)
        | else-not-branch w ↦ all_rest normal (set_of normal c.args.before.now) c.loop-number.own.items c.list_own.new.own.items c.loop-number.number
            listed.stay (c.loop-number.invariant.rest (sym w.one-is ∙ e)) (listed.rest w.if-not-branch.false)
      ];
    }

use Rattle.std.proofs.Common.{◌≡◌, length, subst, arith}
use Rattle.access_index.specs.Buckets.{IsBest}
use Rattle.access_index.proofs.Holding.{best_of_none}
use Rattle.access_index.proofs.index.greatest_in.Goals as goal

pub loop-i-init : goal.loop-i-init
loop-i-init c = best_of_none c.args.width c.args.bucket.now

pub returns : goal.returns
returns c =
    let end : c.loop-i.i ≡ length c.args.bucket.now = omega (arith, c.loop-i-test.false, c.loop-i.auto.i-end, c.len-i-end.ensures) in
    subst (λ n. IsBest c.args.width c.args.bucket.now n c.loop-i.best) end c.loop-i.invariant

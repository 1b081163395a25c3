use Rattle.std.proofs.Common.{◌≤◌, ap, sym, subst, refl, get_or, arith}
use Rattle.std.proofs.lemmas.List.{get_or_default}
use Rattle.blocked_list.proofs.Joined.{all_at}
use Rattle.access_index.specs.Buckets.{IsOneMore}
use Rattle.access_index.proofs.Counting.{lowered, taken_out}
use Rattle.access_index.proofs.bucket.count_down.Goals as goal

pub returns-then-count-gt1 : goal.returns-then-count-gt1
returns-then-count-gt1 c e =
    let ts = c.args.bucket.now in
    let d = c.get.result.now in
    let tuple = (get_or ts c.args.at e).tuple in
    subst (λ new. IsOneMore new ts tuple) (sym (c.recount.ensures d))
    (lowered ts c.args.at _ d tuple c.requires.ordered c.requires.counted c.requires.within
    (ap (λ t. t.tuple) (get_or_default ts c.args.at d e c.requires.within)) refl
    (omega (arith, c.if-count-gt1.true)) (omega (arith, c.if-count-gt1.true, ap (λ t. t.count) c.get.ensures)))

pub returns-else-count-gt1 : goal.returns-else-count-gt1
returns-else-count-gt1 c e =
    let ts = c.args.bucket.now in
    let d = c.get.result.now in
    let tuple = (get_or ts c.args.at e).tuple in
    subst (λ new. IsOneMore new ts tuple) (sym c.remove.ensures)
    (taken_out ts c.args.at d tuple c.requires.ordered c.requires.counted c.requires.within
    (ap (λ t. t.tuple) (get_or_default ts c.args.at d e c.requires.within))
    (omega (arith, c.if-count-gt1.false, ap (λ t. t.count) c.get.ensures, all_at (λ t. 1 ≤ t.count) ts c.args.at d c.requires.within c.requires.counted)))

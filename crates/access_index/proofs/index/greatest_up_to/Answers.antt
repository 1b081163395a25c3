use Rattle.std.proofs.Common.{take, sym, ◌∙◌, ap, subst}
use Rattle.access_index.specs.Buckets.{IsBest}
use Rattle.access_index.proofs.Holding.{best_more, found_len}
use Rattle.access_index.proofs.index.greatest_up_to.Goals as goal

pub returns : goal.returns
returns c =
    let w = c.args.width in
    let ts = c.args.bucket.now in
    let b = c.get.result.now in
    let len = found_len w ts c.front.result.now b.tuple c.group_in-group.result.from c.group_in-group.result.len
    (c.front.ensures ∙ ap (take w) c.as_slice-tuple.ensures)
    c.group_in-group.ensures.within c.group_in-group.ensures.members in
    subst (IsBest w ts _) (sym c.max.ensures)
    (best_more w ts c.args.i c.args.best c.group_in-group.result.len b c.requires.before c.requires.within c.get.ensures len.0 len.1)

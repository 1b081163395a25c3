use Rattle.std.proofs.Common.{◌≡◌, ◌<◌, ◌-◌, length, get_or, true, ap, sym, ◌∙◌, arith}
use Rattle.blocked_list.specs.Ends.{ends}
use Rattle.blocked_list.proofs.Ending.{ends_at}
use Rattle.blocked_list.proofs.leaf.LeafChunk.ends_before.Goals as goal

pub returns : goal.returns
returns g c =
    let test = g.B.Before.before c.args.wanted.now in
    let xs = c.self.inside.items.items in
    let some : 0 < length xs = omega (arith, c.if-len-eq0.false, c.len-len.ensures) in
    let last : c.len-len.result - 1 ≡ length xs - 1 = omega (arith, c.len-len.ensures) in
    c.is_before.ensures
    ∙ ap test (c.index.ensures ∙ ap (λ n. get_or xs n c.index.result.now) last)
    ∙ sym (ends_at test true xs c.index.result.now some) ∙ ap (ends test) c.self.view_is

use Rattle.std.proofs.Common.{◌≡◌, ◌<◌, ◌-◌, length, get_or, true, ap, sym, ◌∙◌, arith}
use Rattle.blocked_list.specs.Ends.{ends}
use Rattle.blocked_list.proofs.Ending.{ends_last}
use Rattle.blocked_list.proofs.level.LevelChunk.ends_before.Goals as goal

pub returns : goal.returns
returns g c =
    let test = g.B.Before.before c.args.wanted.now in
    let items = g.P.Chunk.items in
    let xs = c.self.inside.chunks.items in
    let some : 0 < length xs = omega (arith, c.if-count-eq0.false, c.len-count.ensures) in
    let last : c.len-count.result - 1 ≡ length xs - 1 = omega (arith, c.len-count.ensures) in
    c.ends_before.ensures
    ∙ ap (λ p. ends test (items p)) (c.index.ensures ∙ ap (λ n. get_or xs n c.index.result.now) last)
    ∙ sym (ends_last items test true xs c.index.result.now some c.self.invariant.1) ∙ ap (ends test) c.self.view_is

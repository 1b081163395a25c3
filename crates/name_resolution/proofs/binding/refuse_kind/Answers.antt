use Rattle.std.proofs.Common.{sym, ◌∙◌, arith, ℕ, ◌+◌}
use Rattle.std.specs.List.{enumerate_from}
use Rattle.std.proofs.lemmas.Result.{err_from_is_err_and}
use Rattle.name_resolution.specs.declared.meaning.LookedUp.{LookedUp}
use Rattle.name_resolution.specs.Refusing.{places}
use Rattle.name_resolution.proofs.FirstFacts.{from_start, next_ok, err_next, at_end, numbered_at, numbered_below, numbered_end}
use Rattle.name_resolution.proofs.binding.refuse_kind.Goals as goal

pub loop-place-init : goal.loop-place-init
loop-place-init c = from_start (places c.args.kind c.args.limits.now c.args.shape.now) (enumerate_from 1 c.args.blocks.now)

pub returns-in_err-refuse_block : goal.returns-in_err-refuse_block
returns-in_err-refuse_block c =
    let p = err_from_is_err_and c.from_residual.result c.from_residual.ensures.1 in
    let pair : ℕ × LookedUp = (c.loop-place.place + 1, c.index-blocks-place.result) in
    rw (p.1, p.2) (err_next (Unit {0}) (Unit {0}) _ (places c.args.kind c.args.limits.now c.args.shape.now)
    (enumerate_from 1 c.args.blocks.now) c.loop-place.place pair
    c.loop-place.invariant (numbered_below c.args.blocks.now c.loop-place.place c.loop-place-test.true)
    (numbered_at c.args.blocks.now c.loop-place.place c.index-blocks-place.result c.loop-place-test.true c.index-blocks-place.is)
    c.in_err-refuse_block.ensures)

pub loop-place-preserved : goal.loop-place-preserved
loop-place-preserved c =
    let pair : ℕ × LookedUp = (c.loop-place.place + 1, c.index-blocks-place.result) in
    sym (next_ok (places c.args.kind c.args.limits.now c.args.shape.now) (enumerate_from 1 c.args.blocks.now) c.loop-place.place pair
    (numbered_below c.args.blocks.now c.loop-place.place c.loop-place-test.true)
    (numbered_at c.args.blocks.now c.loop-place.place c.index-blocks-place.result c.loop-place-test.true c.index-blocks-place.is)
    c.in_ok-refuse_block.ensures)
    ∙ c.loop-place.invariant

pub returns : goal.returns
returns c = sym c.loop-place.invariant ∙ at_end (places c.args.kind c.args.limits.now c.args.shape.now)
    (enumerate_from 1 c.args.blocks.now) c.loop-place.place
    (numbered_end c.args.blocks.now c.loop-place.place (omega arith))

use Rattle.std.proofs.Common.{refl}
use Rattle.plan_builder.proofs.Turns.{from_true, from_false, greedy_whole, greedy_nothing}
use Rattle.plan_builder.proofs.derivations.greedy_among.Goals as goal

pub returns-then-not-branch : goal.returns-then-not-branch
returns-then-not-branch c =
    greedy_nothing c.args.block.now c.args.accesses.now c.args.accesses.now c.args.set.now c.args.set.now refl refl
    (from_false _ _ c.in_ok-add_best.field-0 c.in_ok-add_best.ensures c.if-not-branch.true)

pub serve_atoms-requires-clause-live : goal.serve_atoms-requires-clause-live
serve_atoms-requires-clause-live c =
    let added = from_true _ _ c.in_ok-add_best.field-0 c.in_ok-add_best.ensures c.if-not-branch.false in
    added.0.live

pub returns : goal.returns
returns c =
    let added = from_true _ _ c.in_ok-add_best.field-0 c.in_ok-add_best.ensures c.if-not-branch.false in
    greedy_whole c.args.block.now c.args.accesses.now c.args.accesses.now c.args.accesses.now c.args.set.now c.args.set.now
    c.add_best.new.set c.add_best.new.steps
    c.serve_atoms.new.steps refl refl refl added.0.bound added.1 c.in_ok-serve_atoms.ensures

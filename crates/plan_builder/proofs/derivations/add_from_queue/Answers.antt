use Rattle.std.proofs.Common.{◌∙◌, ap, map, refl, sym}
use Rattle.attribute_closure.specs.Uses.{as_use}
use Rattle.plan_builder.proofs.Turns.{from_true, from_false, greedy_whole, greedy_nothing}
use Rattle.plan_builder.proofs.derivations.add_from_queue.Goals as goal

pub returns-then-not-branch : goal.returns-then-not-branch
returns-then-not-branch c =
    let set = c.args.candidates.now.keys.set.items in
    sym (greedy_nothing c.args.block.now c.args.accesses.now c.args.accesses.now set set refl refl
    (from_false _ _ c.in_ok-add_steps.field-0 (c.in_ok-add_steps.ensures.come c.args.accesses.now c.requires.ids c.requires.uses) c.if-not-branch.true))

pub serve_atoms-requires-clause-uses : goal.serve_atoms-requires-clause-uses
serve_atoms-requires-clause-uses c = ap (map as_use) (c.as_slice.ensures ∙ c.in_ok-add_steps.ensures.uses) ∙ c.requires.uses

pub serve_atoms-requires-clause-live : goal.serve_atoms-requires-clause-live
serve_atoms-requires-clause-live c =
    (from_true _ _ c.in_ok-add_steps.field-0 (c.in_ok-add_steps.ensures.come c.args.accesses.now c.requires.ids c.requires.uses) c.if-not-branch.false).0.live

pub returns : goal.returns
returns c =
    let set = c.args.candidates.now.keys.set.items in
    let added = from_true _ _ c.in_ok-add_steps.field-0
    (c.in_ok-add_steps.ensures.come c.args.accesses.now c.requires.ids c.requires.uses) c.if-not-branch.false in
    sym (greedy_whole c.args.block.now c.args.accesses.now c.args.accesses.now c.args.accesses.now set set c.deref_mut.result.now
    c.add_steps.new.steps c.serve_atoms.new.steps refl refl refl (c.deref_mut.ensures.value ∙ added.0.bound) added.1 c.in_ok-serve_atoms.ensures)

use Rattle.std.proofs.Common.{◌≡◌, ◌-◌, ◌∙◌, List, [], suc, true, ap, arith, map, subst, sym}
use Rattle.std.proofs.lemmas.List.{length-map}
use Rattle.attribute_closure.specs.declared.uses.UseAt.{UseAt}
use Rattle.attribute_closure.specs.Uses.{as_use}
use Rattle.plan_builder.specs.Fronts.{IsFront}
use Rattle.plan_builder.specs.Trials.{keys_are_bound, uses_pruned_below}
use Rattle.plan_builder.proofs.FrontFacts.{bound_of}
use Rattle.plan_builder.proofs.pruning.prune.Goals as goal

pub loop-place-init : goal.loop-place-init
loop-place-init c =
    let block = c.args.block.now in
    let start = c.args.start.now in
    let us = map as_use c.args.uses in
    let same = c.as_slice.ensures in
    let begun = c.in_ok-front.ensures block in
    let bound : c.take_uses-bound.result ≡ true = c.take_uses-bound.ensures.keys
    ∙ ap (λ s. keys_are_bound block s (map as_use c.as_slice.result.now)) begun.set
    ∙ ap (λ (xs : List UseAt). keys_are_bound block start (map as_use xs)) same ∙ bound_of block start us c.requires.sound in
    let come : IsFront block start (map as_use c.as_slice.result.now) c.take_uses-bound.new.front =
    rw bound at c.take_uses-bound.ensures.front start [] begun in
    let there = c.len-place.ensures in
    record {
      left = ap (λ n. uses_pruned_below block start n us) (length-map c.args.uses as_use ∙ sym there);
      there = omega (arith, there);
      kept = record {
        sound = c.requires.sound;
        sizes = (subst (λ (xs : List UseAt). IsFront block start (map as_use xs) c.take_uses-bound.new.front) same come).sizes;
      };
    }

pub loop-place-preserved : goal.loop-place-preserved
loop-place-preserved c =
    let block = c.args.block.now in
    let start = c.args.start.now in
    let before = c.loop-place.invariant in
    let us = map as_use c.loop-place.kept.uses in
    let place = c.loop-place.place - 1 in
    let some = c.loop-place-test.true in
    let next : c.loop-place.place ≡ suc place = omega (arith, some) in
    let turn = c.in_ok-kept.ensures.pruned before.kept in
    record {
      left = before.left ∙ ap (λ n. uses_pruned_below block start n us) next ∙ ap (uses_pruned_below block start place) (sym turn.1);
      there = c.in_ok-kept.ensures.length;
      kept = turn.0;
    }

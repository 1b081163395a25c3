use Rattle.std.proofs.Common.{◌≡◌, ◌++◌, ◌∙◌, List, true, add-one, ap, drop, map, subst, sym, take}
use Rattle.std.specs.List.{remove}
use Rattle.beas_core.specs.Types.{Use}
use Rattle.attribute_closure.specs.declared.uses.UseAt.{UseAt}
use Rattle.attribute_closure.specs.Uses.{as_use}
use Rattle.plan_builder.specs.Fronts.{IsFront, SizesAre, reads_or_cap}
use Rattle.plan_builder.specs.Trials.{are_sound, uses_without}
use Rattle.plan_builder.proofs.Drops.{map-without}
use Rattle.plan_builder.proofs.DropTurns.{may_go, reads_are_capped}
use Rattle.plan_builder.proofs.pruning.pruned_at.Goals as goal

pub returns-clause-pruned : goal.returns-clause-pruned
returns-clause-pruned c = λ kept.
    let block = c.args.block.now in
    let start = c.args.start.now in
    let place = c.args.place in
    let us = map as_use c.args.kept.uses in
    let same = c.as_slice.ensures in
    let gone = c.from_vec.ensures ∙ c.remove.ensures.items ∙ ap (λ (xs : List UseAt). remove xs place) c.into_vec-uses.ensures
    ∙ ap (λ n. take place c.args.kept.uses ++ drop n c.args.kept.uses) (sym (add-one place)) in
    let left = ap (map as_use) gone ∙ map-without as_use place c.args.kept.uses in
    let told = c.in_ok-is_sound_without.ensures.sound
    (subst (λ (xs : List UseAt). are_sound block start (map as_use xs) ≡ true) (sym same) kept.sound)
    ∙ ap (λ (xs : List UseAt). are_sound block start (uses_without place (map as_use xs))) same in
    let sound = sym told ∙ c.if-not-branch.false in
    let others : IsFront block start (uses_without place (map as_use c.as_slice.result.now)) c.is_sound_without.new.front =
    rw c.if-not-branch.false at c.in_ok-is_sound_without.ensures.front in
    let come = subst (λ (xs : List UseAt). IsFront block start (uses_without place (map as_use xs)) c.is_sound_without.new.front) same others in
    let most = reads_are_capped block start us c.args.kept.sizes kept.sizes in
    let less = reads_are_capped block start (uses_without place us) c.is_sound_without.new.front.sizes come.sizes in (
      record {
        sound = subst (λ (vs : List Use). are_sound block start vs ≡ true) (sym left) sound;
        sizes = subst (λ (vs : List Use). SizesAre block start vs c.is_sound_without.new.front.sizes) (sym left) come.sizes;
      },
      left ∙ may_go block start us place (reads_or_cap c.args.kept.sizes) (reads_or_cap c.is_sound_without.new.front.sizes) most less sound
          (sym c.is_no_greater.ensures ∙ c.if-not-is_no_greater.false),
    )

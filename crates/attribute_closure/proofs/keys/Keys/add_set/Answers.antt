use Rattle.std.proofs.Common.{◌∙◌, ap, sym, subst, true, set, add-one, arith}
use Rattle.beas_core.specs.Coverage.{has}
use Rattle.attribute_closure.specs.Keys.{KeysAreCounted}
use Rattle.attribute_closure.proofs.Sets.{front_of, front_held, front_not_held}
use Rattle.attribute_closure.proofs.keys.Keys.add_set.Goals as goal
use Rattle.attribute_closure.proofs.keys.Keys.add_set.Goals.{then-more-from+in_ok-add, else-more-from}

pub loop-class-preserved : goal.loop-class-preserved
loop-class-preserved c = elim c.if-more-from.branch [
  | then-more-from+in_ok-add w ↦ record {
    counted = subst (KeysAreCounted c.args.block.now) (sym w.self-is) w.in_ok-add.ensures.counted;
    set = ap (λ k. k.set.items) w.self-is ∙ w.in_ok-add.ensures.set ∙ ap (λ s. set s c.loop-class.class true) c.loop-class.invariant.set
        ∙ front_held c.args.more.now c.loop-class.class (omega arith) (ap (has c.args.more.now) (sym c.from.ensures) ∙ w.if-more-from.true)
        ∙ ap (λ n. front_of n c.args.more.now) (sym (add-one c.loop-class.class));
    uses = ap (λ k. k.uses) w.self-is ∙ w.in_ok-add.ensures.uses ∙ c.loop-class.invariant.uses;
  }
  | else-more-from w ↦ record {
    counted = subst (KeysAreCounted c.args.block.now) (sym w.self-is) c.loop-class.invariant.counted;
    set = ap (λ k. k.set.items) w.self-is ∙ c.loop-class.invariant.set
        ∙ front_not_held c.args.more.now c.loop-class.class (omega arith) (ap (has c.args.more.now) (sym c.from.ensures) ∙ w.if-more-from.false)
        ∙ ap (λ n. front_of n c.args.more.now) (sym (add-one c.loop-class.class));
    uses = ap (λ k. k.uses) w.self-is ∙ c.loop-class.invariant.uses;
  }
]

use Rattle.std.proofs.Common.{◌∙◌, sym, subst}
use Rattle.update_guard.specs.Guarding.{IsGuarded}
use Rattle.update_guard.proofs.guarded.Guarded.insert.Goals as goal

pub insert-count-requires-clause-kept : goal.insert-count-requires-clause-kept
insert-count-requires-clause-kept c =
    subst (λ is. IsGuarded c.args.self.now.catalogue c.args.self.now.rows is) (sym (c.into_vec-indexes.ensures ∙ c.replace.ensures.value))
    c.args.self.now.kept

pub invariant_of-self : goal.invariant_of-self
invariant_of-self c = record {
  kept = subst (λ is. IsGuarded c.args.self.now.catalogue c.insert-count.new.rows is) (sym c.from_vec.ensures) c.insert-count.ensures.guarded;
}

use Rattle.std.proofs.Common.{◌∙◌, sym, subst}
use Rattle.update_guard.specs.Guarding.{IsGuarded}
use Rattle.update_guard.proofs.guarded.Guarded.delete.Goals as goal

pub delete-gone-requires-clause-kept : goal.delete-gone-requires-clause-kept
delete-gone-requires-clause-kept g c =
    subst (λ is. IsGuarded c.args.self.now.catalogue c.args.self.now.rows is) (sym (c.into_vec-indexes.ensures ∙ c.replace.ensures.value))
    c.args.self.now.kept

pub invariant_of-self : goal.invariant_of-self
invariant_of-self g c = record {
  kept = subst (λ is. IsGuarded c.args.self.now.catalogue c.delete-gone.new.rows is) (sym c.from_vec.ensures) c.delete-gone.ensures.guarded;
}

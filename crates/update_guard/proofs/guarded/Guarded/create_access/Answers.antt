use Rattle.std.proofs.Common.{◌∙◌, ◌+◌, ◌≤◌, ap, sym, subst}
use Rattle.catalogue.specs.Database.{with_access}
use Rattle.catalogue.specs.Refusing.{new_access}
use Rattle.beas_core.specs.Results.{IsRefusedAs}
use Rattle.catalogue.specs.Stored.{database_of}
use Rattle.update_guard.proofs.GuardFacts.{after_create_access, on_ok}
use Rattle.catalogue.proofs.StoredFacts.{refusal_of_stored, reads_of_stored, schema_of_stored}
use Rattle.update_guard.proofs.guarded.Guarded.create_access.Goals as goal

pub invariant_of-self : goal.invariant_of-self
invariant_of-self g c =
    let made = c.make_access-made.ensures in
    record {
      kept = after_create_access c.make_access-made.result c.args.self.now.catalogue c.make_access-made.new.catalogue c.args.self.now.rows
          c.args.self.now.indexes
          c.into_vec-indexes.result.items c.make_access-made.new.indexes.items c.from_vec.result (new_access c.args.self.now.catalogue c.args.spec.now)
          c.args.self.now.kept
          (c.into_vec-indexes.ensures ∙ c.replace.ensures.value) c.from_vec.ensures made.ok made.index made.err made.indexes_stay;
    }

pub returns-clause-refused : goal.returns-clause-refused
returns-clause-refused g c =
    subst (IsRefusedAs c.make_access-made.result) (sym (refusal_of_stored c.args.limits.now c.args.self.now.catalogue c.args.self.now.rows c.args.spec.now
    c.args.self.now.kept.tables))
    c.make_access-made.ensures.refused

pub returns-clause-ok : goal.returns-clause-ok
returns-clause-ok g c =
    on_ok c.make_access-made.result c.make_access-made.ensures.ok (λ e.
    ap (λ s. database_of s c.args.self.now.rows) e
    ∙ ap (λ s. with_access (database_of c.args.self.now.catalogue c.args.self.now.rows) (new_access s c.args.spec.now))
    (sym (schema_of_stored c.args.self.now.catalogue c.args.self.now.rows c.args.self.now.kept.tables)))

pub returns-clause-cost : goal.returns-clause-cost
returns-clause-cost g c n =
    c.make_access-made.ensures.cost n
    ∙ ap (λ r. c.args.steps.now + r) (sym (reads_of_stored c.args.limits.now c.args.self.now.catalogue c.args.self.now.rows c.args.spec.now
    c.args.self.now.kept.tables))

pub returns-clause-at_most : goal.returns-clause-at_most
returns-clause-at_most g c =
    subst (λ r. c.make_access-made.new.steps ≤ c.args.steps.now + r)
    (sym (reads_of_stored c.args.limits.now c.args.self.now.catalogue c.args.self.now.rows c.args.spec.now c.args.self.now.kept.tables))
    c.make_access-made.ensures.at_most

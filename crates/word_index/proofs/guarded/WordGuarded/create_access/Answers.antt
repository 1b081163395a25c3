use Rattle.std.proofs.Common.{◌∙◌, ◌+◌, ◌≤◌, ap, refl, sym, subst}
use Rattle.catalogue.specs.Database.{with_access}
use Rattle.catalogue.specs.Refusing.{new_access}
use Rattle.beas_core.specs.Results.{IsRefusedAs}
use Rattle.catalogue.specs.Stored.{database_of}
use Rattle.update_guard.proofs.GuardFacts.{after_create_access, on_ok}
use Rattle.catalogue.proofs.StoredFacts.{refusal_of_stored, reads_of_stored, schema_of_stored}
use Rattle.word_index.proofs.guarded.WordGuarded.create_access.Goals as goal

pub invariant_of-self : goal.invariant_of-self
invariant_of-self g c =
    let made = c.make_access.ensures in
    record {
      kept = after_create_access c.make_access.result c.args.self.now.catalogue c.make_access.new.catalogue c.args.self.now.rows
          c.args.self.now.indexes
          c.args.self.now.indexes c.make_access.new.indexes c.make_access.new.indexes (new_access c.args.self.now.catalogue c.args.spec.now)
          c.args.self.now.kept
          refl refl made.ok made.index made.err made.indexes_stay;
    }

pub returns-clause-refused : goal.returns-clause-refused
returns-clause-refused g c =
    subst (IsRefusedAs c.make_access.result) (sym (refusal_of_stored c.args.limits.now c.args.self.now.catalogue c.args.self.now.rows c.args.spec.now
    c.args.self.now.kept.tables))
    c.make_access.ensures.refused

pub returns-clause-ok : goal.returns-clause-ok
returns-clause-ok g c =
    on_ok c.make_access.result c.make_access.ensures.ok (λ e.
    ap (λ s. database_of s c.args.self.now.rows) e
    ∙ ap (λ s. with_access (database_of c.args.self.now.catalogue c.args.self.now.rows) (new_access s c.args.spec.now))
    (sym (schema_of_stored c.args.self.now.catalogue c.args.self.now.rows c.args.self.now.kept.tables)))

pub returns-clause-cost : goal.returns-clause-cost
returns-clause-cost g c n =
    c.make_access.ensures.cost n
    ∙ ap (λ r. c.args.steps.now + r) (sym (reads_of_stored c.args.limits.now c.args.self.now.catalogue c.args.self.now.rows c.args.spec.now
    c.args.self.now.kept.tables))

pub returns-clause-at_most : goal.returns-clause-at_most
returns-clause-at_most g c =
    subst (λ r. c.make_access.new.steps ≤ c.args.steps.now + r)
    (sym (reads_of_stored c.args.limits.now c.args.self.now.catalogue c.args.self.now.rows c.args.spec.now c.args.self.now.kept.tables))
    c.make_access.ensures.at_most

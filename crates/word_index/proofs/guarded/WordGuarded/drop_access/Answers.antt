use Rattle.std.proofs.Common.{refl, sym, subst}
use Rattle.std.specs.Prelude.{IsTrue}
use Rattle.catalogue.specs.Refusing.{drop_access_refusal}
use Rattle.catalogue.specs.Schema.{has_access}
use Rattle.beas_core.specs.Results.{IsRefusedAs}
use Rattle.update_guard.proofs.GuardFacts.{after_drop_access}
use Rattle.catalogue.proofs.StoredFacts.{schema_of_stored}
use Rattle.word_index.proofs.guarded.WordGuarded.drop_access.Goals as goal

pub invariant_of-self : goal.invariant_of-self
invariant_of-self c =
    let out = c.drop_index.ensures in
    record {
      kept = after_drop_access c.drop_index.result c.args.self.now.catalogue c.drop_index.new.catalogue c.args.self.now.rows
          c.args.self.now.indexes
          c.args.self.now.indexes c.drop_index.new.indexes c.drop_index.new.indexes c.args.name.now c.args.self.now.kept
          refl refl out.ok out.index out.err out.indexes_stay;
    }

pub returns-clause-refused : goal.returns-clause-refused
returns-clause-refused c =
    subst (λ s. IsRefusedAs c.drop_index.result (drop_access_refusal s c.args.name.now))
    (sym (schema_of_stored c.args.self.now.catalogue c.args.self.now.rows c.args.self.now.kept.tables)) c.drop_index.ensures.refused

pub returns-clause-live : goal.returns-clause-live
returns-clause-live c = λ live. c.drop_index.ensures.live
    (subst (λ s. IsTrue (has_access s c.args.name.now)) (schema_of_stored c.args.self.now.catalogue c.args.self.now.rows c.args.self.now.kept.tables) live)

use Rattle.std.proofs.Common.{subst, sym}
use Rattle.catalogue.specs.Schema.{SchemaIsSound}
use Rattle.session.specs.Applying.{database_of}
use Rattle.session.proofs.StoreFacts.{schema_is_catalogue}
use Rattle.version_store.specs.Stored.{AreKept}
use Rattle.version_store.proofs.OpeningFacts.{none_kept}
use Rattle.version_store.proofs.desk.Desk.new.Goals as goal

pub invariant_of-result : goal.invariant_of-result
invariant_of-result c =
    subst (AreKept (database_of c.args.session)) (sym c.new.ensures.items)
    (none_kept (database_of c.args.session) (subst SchemaIsSound (sym (schema_is_catalogue c.args.session.guarded)) c.recall_soundness.ensures))

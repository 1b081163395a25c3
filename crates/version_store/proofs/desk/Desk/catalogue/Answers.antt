use Rattle.std.proofs.Common.{◌∙◌, ap, sym}
use Rattle.catalogue.specs.Database.{schema_of}
use Rattle.session.proofs.StoreFacts.{schema_is_catalogue}
use Rattle.version_store.specs.Desks.{Seen}
use Rattle.version_store.proofs.desk.Desk.catalogue.Goals as goal

pub returns : goal.returns
returns c =
    sym (schema_is_catalogue c.self.inside.session.guarded) ∙ ap (λ (seen : Seen). schema_of seen.state.db) c.self.view_is

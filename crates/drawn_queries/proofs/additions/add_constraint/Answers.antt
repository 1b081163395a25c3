use Rattle.catalogue.specs.Database.{schema_of}
use Rattle.catalogue.specs.Refusing.{new_access}
use Rattle.session.specs.Stores.{database_in}
use Rattle.drawn_queries.proofs.StoreFacts.{fits_after}
use Rattle.drawn_queries.proofs.additions.add_constraint.Goals as goal

pub returns : goal.returns
returns g c =
    let old = c.args.guarded.now in
    fits_after old c.create_access-made.new.self c.args.prepared.now c.requires c.create_access-made.result
    (new_access (schema_of (database_in old)) c.args.spec.now)
    c.recall_soundness.ensures c.create_access-made.ensures.ok c.create_access-made.ensures.err

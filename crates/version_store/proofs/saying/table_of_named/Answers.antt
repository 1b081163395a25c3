use Rattle.std.proofs.Common.{◌<◌, ◌∙◌, length, Some, ap, sym, subst}
use Rattle.std.specs.Prelude.{option_map}
use Rattle.beas_core.specs.declared.schema.Access.{Access}
use Rattle.beas_core.specs.declared.schema.AccessId.{AccessId}
use Rattle.version_store.proofs.ChangedFacts.{once_in, table_named_is, table_there}
use Rattle.version_store.proofs.saying.table_of_named.Goals as goal

pub returns-clause-table : goal.returns-clause-table
returns-clause-table c =
    ap (λ (a : Access). Some a.table) c.access.ensures
    ∙ table_named_is c.args.catalogue.now.accesses c.args.name.now c.in_ok-id.id (once_in c.args.catalogue.now c.recall_soundness.ensures)
    (sym (ap (option_map (λ (x : AccessId). x.0)) c.in_ok-id.was) ∙ c.access_named.ensures.id)

pub returns-clause-there : goal.returns-clause-there
returns-clause-there c =
    subst (λ (a : Access). a.table.0 < length c.args.catalogue.now.tables) (sym c.access.ensures)
    (table_there c.args.catalogue.now c.recall_soundness.ensures c.in_ok-id.id c.in_ok-id.ensures.live)

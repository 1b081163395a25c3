use Rattle.std.proofs.Common.{◌≡◌, ◌<◌, length, subst, sym}
use Rattle.beas_core.specs.declared.query.Block.{Block}
use Rattle.beas_core.specs.Shapes.{width_of}
use Rattle.beas_core.specs.Results.{Gives}
use Rattle.name_resolution.specs.Binding.{bound_delete, delete_refusals}
use Rattle.catalogue.specs.Database.{block_table, schema_of}
use Rattle.catalogue.specs.Queries.{BlockIsOver}
use Rattle.catalogue.specs.Schema.{columns_at}
use Rattle.session.specs.Stores.{database_in}
use Rattle.session.specs.Announced.{unless_refused}
use Rattle.session.proofs.GivenFacts.{given, ok_both}
use Rattle.session.proofs.StoreFacts.{block_is_live, block_is_wide, schema_is_catalogue}
use Rattle.session.proofs.changes.filter_of.Goals as goal

pub returns-clause-bound : goal.returns-clause-bound
returns-clause-bound c =
    let g = c.args.store.now in
    let limits = c.args.limits.now in
    let table = c.args.table.now in
    let conditions = c.args.conditions.now in
    let r = c.bind_delete.result in
    subst (λ s. Gives r (unless_refused (delete_refusals limits s table conditions) (bound_delete s table conditions))) (sym (schema_is_catalogue g))
    (given r (delete_refusals limits g.catalogue table conditions) (bound_delete g.catalogue table conditions) c.bind_delete.ensures.refused
    c.bind_delete.ensures.block)

pub returns-clause-live : goal.returns-clause-live
returns-clause-live c =
    let g = c.args.store.now in
    ok_both (BlockIsOver g.catalogue) (λ (b : Block). length b.atoms ≡ 1) (λ (b : Block). (block_table b).0 < length (database_in g).tables) (block_is_live g)
    c.bind_delete.result c.bind_delete.ensures.over c.bind_delete.ensures.one

pub returns-clause-wide : goal.returns-clause-wide
returns-clause-wide c =
    let g = c.args.store.now in
    ok_both (BlockIsOver g.catalogue) (λ (b : Block). length b.atoms ≡ 1)
    (λ (b : Block). width_of b.atoms 0 ≡ length (columns_at (schema_of (database_in g)) (block_table b))) (block_is_wide g)
    c.bind_delete.result c.bind_delete.ensures.over c.bind_delete.ensures.one

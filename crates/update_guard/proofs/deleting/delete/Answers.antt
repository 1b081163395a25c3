use Rattle.std.proofs.Common.{◌≡◌, ◌∙◌, ◌+◌, List, [], length, get_or, set, ap, sym, subst, arith}
use Rattle.beas_core.specs.declared.schema.TableId.{TableId}
use Rattle.beas_core.specs.Types.{Row}
use Rattle.catalogue.specs.Schema.{columns_at}
use Rattle.catalogue.specs.Database.{with_rows, rows_at, kept_rows, block_table}
use Rattle.update_guard.specs.Guarding.{IsGuarded}
use Rattle.catalogue.specs.Stored.{database_of}
use Rattle.catalogue.proofs.StoredFacts.{length-joined, schema_of_stored, stored_with_rows, rows_at_stored}
use Rattle.update_guard.proofs.deleting.delete.Goals as goal

pub delete_from-gone-requires-clause-kept : goal.delete_from-gone-requires-clause-kept
delete_from-gone-requires-clause-kept g c =
    subst (λ rs. IsGuarded c.args.catalogue.now rs (g.I.Indexes.seen c.args.indexes.now)) (sym (c.into_vec-stores.ensures ∙ c.replace.ensures.value))
    c.requires.kept

pub returns-clause-guarded : goal.returns-clause-guarded
returns-clause-guarded g c =
    subst (λ rs. IsGuarded c.args.catalogue.now rs (g.I.Indexes.seen c.delete_from-gone.new.indexes)) (sym c.from_vec.ensures) c.delete_from-gone.ensures.kept

pub delete_from-gone-requires-clause-live : goal.delete_from-gone-requires-clause-live
delete_from-gone-requires-clause-live g c =
    let s = c.args.catalogue.now in
    let rows = c.args.rows.now in
    let tables = c.requires.kept.tables in
    let e = ap (λ (t : TableId). t.0) c.table_of-table.ensures in
    omega (arith, c.requires.live, e, length-joined s.tables rows tables)

pub delete_from-gone-requires-clause-wide : goal.delete_from-gone-requires-clause-wide
delete_from-gone-requires-clause-wide g c =
    let s = c.args.catalogue.now in
    let rows = c.args.rows.now in
    let tables = c.requires.kept.tables in
    c.requires.wide ∙ ap (λ schema. length (columns_at schema (block_table c.args.filter.now))) (schema_of_stored s rows tables)
    ∙ ap (λ t. length (columns_at s t)) (sym c.table_of-table.ensures)

pub returns-clause-kept : goal.returns-clause-kept
returns-clause-kept g c =
    let s = c.args.catalogue.now in
    let rows = c.args.rows.now in
    let tables = c.requires.kept.tables in
    let db = database_of s rows in
    let filter = c.args.filter.now in
    let table = c.table_of-table.result in
    ap (database_of s) (c.from_vec.ensures ∙ c.delete_from-gone.ensures.rows
    ∙ ap (λ ss. set ss table.0 (kept_rows filter (get_or ss table.0 []))) (c.into_vec-stores.ensures ∙ c.replace.ensures.value))
    ∙ stored_with_rows s rows table (kept_rows filter (get_or rows table.0 [])) tables
    ∙ ap (λ r. with_rows db table (kept_rows filter r)) (sym (rows_at_stored s rows table tables))
    ∙ ap (λ t. with_rows db t (kept_rows filter (rows_at db t))) c.table_of-table.ensures

pub returns-clause-count : goal.returns-clause-count
returns-clause-count g c =
    let s = c.args.catalogue.now in
    let rows = c.args.rows.now in
    let tables = c.requires.kept.tables in
    let db = database_of s rows in
    let table = c.table_of-table.result in
    let same : get_or c.into_vec-stores.result.items table.0 [] ≡ rows_at db (block_table c.args.filter.now) =
    ap (λ ss. get_or ss table.0 []) (c.into_vec-stores.ensures ∙ c.replace.ensures.value) ∙ sym (rows_at_stored s rows table tables)
    ∙ ap (rows_at db) c.table_of-table.ensures in
    subst (λ (rs : List Row). c.delete_from-gone.result + length (kept_rows c.args.filter.now rs) ≡ length rs) same c.delete_from-gone.ensures.gone

pub returns-clause-cost : goal.returns-clause-cost
returns-clause-cost g c =
    let s = c.args.catalogue.now in
    let rows = c.args.rows.now in
    let tables = c.requires.kept.tables in
    let db = database_of s rows in
    let table = c.table_of-table.result in
    let same : get_or c.into_vec-stores.result.items table.0 [] ≡ rows_at db (block_table c.args.filter.now) =
    ap (λ ss. get_or ss table.0 []) (c.into_vec-stores.ensures ∙ c.replace.ensures.value) ∙ sym (rows_at_stored s rows table tables)
    ∙ ap (rows_at db) c.table_of-table.ensures in
    c.delete_from-gone.ensures.cost ∙ ap (λ (rs : List Row). c.args.steps.now + length rs) same

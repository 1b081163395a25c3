use Rattle.std.proofs.Common.{◌≡◌, ◌∙◌, ◌++◌, ◌∷◌, [], ap, sym, subst}
use Rattle.std.specs.Prelude.{IfOk}
use Rattle.catalogue.specs.Schema.{schema_with_table}
use Rattle.catalogue.specs.Refusing.{add_table_refusal}
use Rattle.beas_core.specs.Results.{IsRefusedAs}
use Rattle.catalogue.specs.Stored.{database_of}
use Rattle.update_guard.proofs.GuardFacts.{after_create_table, on_ok_both}
use Rattle.catalogue.proofs.StoredFacts.{stored_with_table, schema_of_stored, length-joined}
use Rattle.update_guard.proofs.making.create_table.Goals as goal

pub returns-clause-guarded : goal.returns-clause-guarded
returns-clause-guarded c indexes kept =
    let made = c.make_table-made.ensures in
    after_create_table c.make_table-made.result c.args.catalogue.now c.make_table-made.new.catalogue c.args.rows.now c.into_vec-stores.result.items
    c.make_table-made.new.rows.items c.from_vec.result indexes c.args.name c.args.columns kept (c.into_vec-stores.ensures ∙ c.replace.ensures.value)
    c.from_vec.ensures made.ok made.rows made.err made.rows_stay

pub returns-clause-refused : goal.returns-clause-refused
returns-clause-refused c =
    subst (λ s. IsRefusedAs c.make_table-made.result (add_table_refusal c.args.limits.now s c.args.name c.args.columns))
    (sym (schema_of_stored c.args.catalogue.now c.args.rows.now c.requires.tables)) c.make_table-made.ensures.refused

pub returns-clause-id : goal.returns-clause-id
returns-clause-id c =
    subst (λ n. IfOk c.make_table-made.result (λ id. id.0 ≡ n))
    (sym (length-joined c.args.catalogue.now.tables c.args.rows.now c.requires.tables)) c.make_table-made.ensures.id

pub returns-clause-ok : goal.returns-clause-ok
returns-clause-ok c =
    let made = c.make_table-made.ensures in
    on_ok_both c.make_table-made.result made.ok made.rows (λ e f.
    ap (λ s. database_of s c.from_vec.result) e
    ∙ ap (database_of (schema_with_table c.args.catalogue.now c.args.name c.args.columns))
    (c.from_vec.ensures ∙ f ∙ ap (λ rs. rs ++ [] ∷ []) (c.into_vec-stores.ensures ∙ c.replace.ensures.value))
    ∙ stored_with_table c.args.catalogue.now c.args.rows.now c.args.name c.args.columns c.requires.tables)

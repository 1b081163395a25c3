use Rattle.std.proofs.Common.{◌≡◌, ◌∙◌, true, refl, ap, sym, subst, arith}
use Rattle.std.specs.Prelude.{All}
use Rattle.beas_core.specs.declared.schema.TableId.{TableId}
use Rattle.catalogue.specs.Database.{schema_of}
use Rattle.catalogue.specs.Schema.{SchemaIsSound}
use Rattle.desk_model.specs.Changes.{changes}
use Rattle.version_store.specs.Held.{HasPart}
use Rattle.session.specs.Applying.{database_of}
use Rattle.session.proofs.StoreFacts.{as_many_tables, schema_is_catalogue}
use Rattle.version_store.specs.Events.{changed_table}
use Rattle.version_store.specs.Stored.{table_in}
use Rattle.version_store.proofs.ChangedFacts.{frozen_all, none_changed}
use Rattle.version_store.proofs.SayingFacts.{on_ok}
use Rattle.version_store.proofs.saying.keep_changed.Goals as goal

pub keep-requires-clause-table : goal.keep-requires-clause-table
keep-requires-clause-table c = let many = as_many_tables c.args.session.now.guarded in let below = c.in-Some.ensures.there in omega (arith, many, below)

pub returns-in-Some-clause-frozen : goal.returns-in-Some-clause-frozen
returns-in-Some-clause-frozen c =
    let store = c.args.session.now.guarded in
    let db = database_of c.args.session.now in
    let st = c.args.statement.now in
    let same = schema_is_catalogue store in
    let sound = subst SchemaIsSound (sym same) c.recall_soundness.ensures in
    let is = ap (λ schema. changed_table schema st) same ∙ sym c.in-Some.ensures.table in
    on_ok c.keep.result (All (HasPart table_in c.in-Some.table) c.keep.new.queries.items)
    ((t : TableId) → changes (schema_of db) st t ≡ true → All (HasPart table_in t) c.keep.new.queries.items)
    (λ kept. frozen_all (schema_of db) sound st (λ t. All (HasPart table_in t) c.keep.new.queries.items) c.in-Some.table is kept)
    c.keep.ensures.frozen

pub returns-in-None-clause-frozen : goal.returns-in-None-clause-frozen
returns-in-None-clause-frozen c =
    let same = schema_is_catalogue c.args.session.now.guarded in
    λ t changed. absurd (none_changed (schema_of (database_of c.args.session.now)) (subst SchemaIsSound (sym same) c.recall_soundness.ensures)
    c.args.statement.now t (ap (λ schema. changed_table schema c.args.statement.now) same ∙ sym c.in-None.ensures.table) changed)

pub keep-requires-clause-kept : goal.keep-requires-clause-kept
keep-requires-clause-kept c = c.requires.kept

pub returns-in-Some-clause-kept : goal.returns-in-Some-clause-kept
returns-in-Some-clause-kept c = c.keep.ensures.kept

pub returns-in-Some-clause-held : goal.returns-in-Some-clause-held
returns-in-Some-clause-held c = c.keep.ensures.held

pub returns-in-Some-clause-cursors : goal.returns-in-Some-clause-cursors
returns-in-Some-clause-cursors c = c.keep.ensures.cursors

pub returns-in-None-clause-kept : goal.returns-in-None-clause-kept
returns-in-None-clause-kept c = c.requires.kept

pub returns-in-None-clause-held : goal.returns-in-None-clause-held
returns-in-None-clause-held c = refl

pub returns-in-None-clause-cursors : goal.returns-in-None-clause-cursors
returns-in-None-clause-cursors c = refl

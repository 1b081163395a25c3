use Rattle.std.proofs.Common.{◌∙◌, ◌+◌, ◌++◌, ℕ, List, [], length, get_or, set, ap, sym, subst, arith, Option}
use Rattle.std.specs.Prelude.{Err, nat_lt}
use Rattle.std.specs.Option.{option_or}
use Rattle.beas_core.specs.declared.refusal.Refusal.{Refusal}
use Rattle.beas_core.specs.declared.refusal.Refusal.TheVariants.{TooMany}
use Rattle.beas_core.specs.declared.refusal.Counted.TheVariants.{Rows}
use Rattle.beas_core.specs.Types.{Row}
use Rattle.catalogue.specs.Schema.{accesses_on, columns_at}
use Rattle.catalogue.specs.Database.{with_rows}
use Rattle.catalogue.specs.Refusing.{wrong_width, wrong_type, broken_bound}
use Rattle.beas_core.specs.Results.{IsRefusedAs, refused_if}
use Rattle.update_guard.specs.Guarding.{IsGuarded}
use Rattle.catalogue.specs.Stored.{database_of}
use Rattle.update_guard.proofs.InsertFacts.{refused_alike}
use Rattle.catalogue.proofs.StoredFacts.{length-joined, insert_refusal_of_stored, stored_with_rows, rows_at_stored}
use Rattle.update_guard.proofs.inserting.insert.Goals as goal

pub insert_into-outcome-requires-clause-live : goal.insert_into-outcome-requires-clause-live
insert_into-outcome-requires-clause-live g c =
    omega (arith, c.requires.live, length-joined c.args.catalogue.now.tables c.args.rows.now c.requires.kept.tables)

pub insert_into-outcome-requires-clause-kept : goal.insert_into-outcome-requires-clause-kept
insert_into-outcome-requires-clause-kept g c =
    subst (λ rs. IsGuarded c.args.catalogue.now rs (g.I.Indexes.seen c.args.indexes.now)) (sym (c.into_vec-stores.ensures ∙ c.replace.ensures.value))
    c.requires.kept

pub returns-in-Ok-clause-guarded : goal.returns-in-Ok-clause-guarded
returns-in-Ok-clause-guarded g c =
    subst (λ rs. IsGuarded c.args.catalogue.now rs (g.I.Indexes.seen c.insert_into-outcome.new.indexes)) (sym c.from_vec.ensures) c.insert_into-outcome.ensures.kept

pub returns-in-Err-clause-guarded : goal.returns-in-Err-clause-guarded
returns-in-Err-clause-guarded g c =
    subst (λ rs. IsGuarded c.args.catalogue.now rs (g.I.Indexes.seen c.insert_into-outcome.new.indexes)) (sym c.from_vec.ensures) c.insert_into-outcome.ensures.kept

pub returns-in-Ok-clause-refused : goal.returns-in-Ok-clause-refused
returns-in-Ok-clause-refused g c =
    let s = c.args.catalogue.now in
    let rows = c.args.rows.now in
    let tables = c.requires.kept.tables in
    let cs = columns_at s c.args.table in
    let X = λ (own : List Row). option_or (wrong_width cs c.args.added) (option_or (wrong_type cs c.args.added)
    (option_or (refused_if (nat_lt c.args.limits.now.rows (length own + length c.args.added)) (TooMany Rows c.args.limits.now.rows))
    (broken_bound (accesses_on s.accesses c.args.table) own c.args.added))) in
    insert_refusal_of_stored c.args.limits.now s rows c.args.table c.args.added tables
    ∙ ap (λ ss. X (get_or ss c.args.table.0 [])) (sym (c.into_vec-stores.ensures ∙ c.replace.ensures.value)) ∙ c.in-Ok.ensures.refused

pub returns-in-Err-clause-refused : goal.returns-in-Err-clause-refused
returns-in-Err-clause-refused g c =
    let s = c.args.catalogue.now in
    let rows = c.args.rows.now in
    let tables = c.requires.kept.tables in
    let cs = columns_at s c.args.table in
    let X = λ (own : List Row). option_or (wrong_width cs c.args.added) (option_or (wrong_type cs c.args.added)
    (option_or (refused_if (nat_lt c.args.limits.now.rows (length own + length c.args.added)) (TooMany Rows c.args.limits.now.rows))
    (broken_bound (accesses_on s.accesses c.args.table) own c.args.added))) in
    let e = insert_refusal_of_stored c.args.limits.now s rows c.args.table c.args.added tables
    ∙ ap (λ ss. X (get_or ss c.args.table.0 [])) (sym (c.into_vec-stores.ensures ∙ c.replace.ensures.value)) in
    let R : Option Refusal → Type 0 = λ r. IsRefusedAs {A = ℕ} (Err c.in-Err.why) r in
    subst R (sym e) (refused_alike (Unit {0}) ℕ c.in-Err.why (X (get_or c.into_vec-stores.result.items c.args.table.0 [])) c.in-Err.ensures.refused)

pub returns-in-Ok-clause-ok : goal.returns-in-Ok-clause-ok
returns-in-Ok-clause-ok g c =
    let s = c.args.catalogue.now in
    let rows = c.args.rows.now in
    let tables = c.requires.kept.tables in
    let t = c.args.table.0 in
    let db = database_of s rows in
    ap (database_of s) (c.from_vec.ensures ∙ c.in-Ok.ensures.ok
    ∙ ap (λ ss. set ss t (get_or ss t [] ++ c.args.added)) (c.into_vec-stores.ensures ∙ c.replace.ensures.value))
    ∙ stored_with_rows s rows c.args.table (get_or rows t [] ++ c.args.added) tables
    ∙ ap (λ r. with_rows db c.args.table (r ++ c.args.added)) (sym (rows_at_stored s rows c.args.table tables))

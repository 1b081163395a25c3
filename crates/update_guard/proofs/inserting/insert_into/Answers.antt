use Rattle.std.proofs.Common.{◌≡◌, ◌∙◌, ◌<◌, ◌+◌, ◌++◌, [], List, length, get_or, set, ap, sym, subst, arith, None}
use Rattle.std.specs.Prelude.{All, nat_lt}
use Rattle.std.specs.Option.{option_or}
use Rattle.std.proofs.lemmas.List.{get_or_default, set-get_or}
use Rattle.beas_core.specs.declared.refusal.Refusal.TheVariants.{TooMany}
use Rattle.beas_core.specs.declared.refusal.Counted.TheVariants.{Rows}
use Rattle.beas_core.specs.declared.schema.Column.{Column}
use Rattle.beas_core.specs.Types.{Row}
use Rattle.catalogue.specs.Schema.{accesses_on, columns_at}
use Rattle.catalogue.specs.Database.{RowFits}
use Rattle.catalogue.specs.Refusing.{wrong_width, wrong_type, broken_bound}
use Rattle.beas_core.specs.Results.{IsRefusedAs, refused_if}
use Rattle.update_guard.specs.Guarding.{IndexesOf}
use Rattle.catalogue.specs.Stored.{HoldOver}
use Rattle.update_guard.proofs.GuardFacts.{few_at, on_ok, on_err}
use Rattle.update_guard.proofs.UpdateFacts.{after_insert}
use Rattle.update_guard.proofs.inserting.insert_into.Goals as goal

pub refuse_widths-requires-clause-columns : goal.refuse_widths-requires-clause-columns
refuse_widths-requires-clause-columns g c =
    let e = ap length (c.as_slice-columns.ensures ∙ c.columns.ensures.columns) in
    omega (arith, c.columns.ensures.sound.few_columns, e)

pub refuse_types-requires-clause-wide : goal.refuse_types-requires-clause-wide
refuse_types-requires-clause-wide g c =
    subst (λ (rs : List Row). All (λ row. length row ≡ length c.as_slice-columns.result.now) rs) (c.as_slice.ensures ∙ sym c.as_slice-2.ensures)
    c.in_ok-refuse_widths.ensures.wide

pub index_mut-store-requires : goal.index_mut-store-requires
index_mut-store-requires g c = omega (arith, c.requires.live, c.requires.kept.tables, c.args.stores.now.ok.0)

pub insert_rows-requires-clause-count : goal.insert_rows-requires-clause-count
insert_rows-requires-clause-count g c = c.requires.kept.indexed.count

pub insert_rows-requires-clause-wide : goal.insert_rows-requires-clause-wide
insert_rows-requires-clause-wide g c =
    let columns = c.as_slice-columns.ensures ∙ c.columns.ensures.columns in
    subst (λ (cs : List Column). All (λ row. length row ≡ length cs) c.args.rows) columns
    (subst (λ (rs : List Row). All (λ row. length row ≡ length c.as_slice-columns.result.now) rs) c.as_slice.ensures c.in_ok-refuse_widths.ensures.wide)

pub insert_rows-requires-clause-known : goal.insert_rows-requires-clause-known
insert_rows-requires-clause-known g c =
    let stores = c.args.stores.now.items in
    let live : c.args.table.0 < length stores = omega (arith, c.requires.live, c.requires.kept.tables) in
    record {
      rows = stores;
      live = live;
      own_is = sym (c.index_mut-store.ensures.value ∙ get_or_default stores c.args.table.0 c.index_mut-store.result.now [] live);
      is = c.requires.kept.indexed;
      few = few_at c.args.catalogue.now stores (g.I.Indexes.seen c.args.indexes.now) c.requires.kept;
    }

pub returns-clause-refused : goal.returns-clause-refused
returns-clause-refused g c =
    let stores = c.args.stores.now.items in
    let live : c.args.table.0 < length stores = omega (arith, c.requires.live, c.requires.kept.tables) in
    let own : c.index_mut-store.result.now ≡ get_or stores c.args.table.0 [] = c.index_mut-store.ensures.value
    ∙ get_or_default stores c.args.table.0 c.index_mut-store.result.now [] live in
    let cs = columns_at c.args.catalogue.now c.args.table in
    let columns : c.as_slice-columns.result.now ≡ cs = c.as_slice-columns.ensures ∙ c.columns.ensures.columns in
    let width : wrong_width cs c.args.rows ≡ None =
    ap (λ x. wrong_width x c.args.rows) (sym columns) ∙ ap (wrong_width c.as_slice-columns.result.now) (sym c.as_slice.ensures)
    ∙ c.in_ok-refuse_widths.ensures.refused in
    let kind : wrong_type cs c.args.rows ≡ None =
    ap (λ x. wrong_type x c.args.rows) (sym columns) ∙ ap (wrong_type c.as_slice-columns.result.now) (sym c.as_slice-2.ensures)
    ∙ c.in_ok-refuse_types.ensures.refused in
    let rest = λ (store : List Row). option_or (refused_if (nat_lt c.args.limits.now.rows (length store + length c.args.rows))
    (TooMany Rows c.args.limits.now.rows))
    (broken_bound (accesses_on c.args.catalogue.now.accesses c.args.table) store c.args.rows) in
    let told = c.insert_rows.ensures.refused stores live (sym own) c.requires.kept.indexed c.requires.kept.hold in
    subst (IsRefusedAs c.insert_rows.result) (sym (
    ap (λ w. option_or w (option_or (wrong_type cs c.args.rows) (rest (get_or stores c.args.table.0 [])))) width
    ∙ ap (λ t. option_or t (rest (get_or stores c.args.table.0 []))) kind))
    (subst (λ (store : List Row). IsRefusedAs c.insert_rows.result (rest store)) own told)

pub returns-clause-ok : goal.returns-clause-ok
returns-clause-ok g c =
    let stores = c.args.stores.now.items in
    let live : c.args.table.0 < length stores = omega (arith, c.requires.live, c.requires.kept.tables) in
    let own : c.index_mut-store.result.now ≡ get_or stores c.args.table.0 [] = c.index_mut-store.ensures.value
    ∙ get_or_default stores c.args.table.0 c.index_mut-store.result.now [] live in
    on_ok c.insert_rows.result c.insert_rows.ensures.rows (λ e. ap (set stores c.args.table.0) (e ∙ ap (λ store. store ++ c.args.rows) own))

pub returns-clause-err : goal.returns-clause-err
returns-clause-err g c =
    let stores = c.args.stores.now.items in
    let live : c.args.table.0 < length stores = omega (arith, c.requires.live, c.requires.kept.tables) in
    let own : c.index_mut-store.result.now ≡ get_or stores c.args.table.0 [] = c.index_mut-store.ensures.value
    ∙ get_or_default stores c.args.table.0 c.index_mut-store.result.now [] live in
    on_err c.insert_rows.result c.insert_rows.ensures.err (λ e. ap (set stores c.args.table.0) (e ∙ own) ∙ set-get_or stores c.args.table.0 [])

pub returns-clause-kept : goal.returns-clause-kept
returns-clause-kept g c =
    let stores = c.args.stores.now.items in
    let schema = c.args.catalogue.now in
    let accesses = schema.accesses in
    let table = c.args.table.0 in
    let rows = c.args.rows in
    let new = (g.I.Indexes.seen c.insert_rows.new.indexes) in
    let live : table < length stores = omega (arith, c.requires.live, c.requires.kept.tables) in
    let own : c.index_mut-store.result.now ≡ get_or stores table [] = c.index_mut-store.ensures.value
    ∙ get_or_default stores table c.index_mut-store.result.now [] live in
    let columns : c.as_slice-columns.result.now ≡ columns_at schema c.args.table = c.as_slice-columns.ensures ∙ c.columns.ensures.columns in
    let fit : All (RowFits (columns_at schema c.args.table)) rows =
    subst (λ (cs : List Column). All (RowFits cs) rows) columns
    (subst (λ (rs : List Row). All (RowFits c.as_slice-columns.result.now) rs) c.as_slice-2.ensures c.in_ok-refuse_types.ensures.fit) in
    let before : IndexesOf accesses (set stores table c.index_mut-store.result.now) (g.I.Indexes.seen c.args.indexes.now) =
    subst (λ ss. IndexesOf accesses ss (g.I.Indexes.seen c.args.indexes.now)) (sym (ap (set stores table) own ∙ set-get_or stores table [])) c.requires.kept.indexed in
    after_insert c.insert_rows.result schema stores (g.I.Indexes.seen c.args.indexes.now) new c.args.table rows c.insert_rows.new.store c.requires.kept live fit
    (on_ok c.insert_rows.result c.insert_rows.ensures.rows (λ e. e ∙ ap (λ store. store ++ rows) own))
    (on_ok c.insert_rows.result c.insert_rows.ensures.within (λ w. let same = ap length own in omega (arith, w, c.args.limits.now.rows_in_range.1, same)))
    (on_ok c.insert_rows.result c.insert_rows.ensures.added (λ f. subst (λ store. IndexesOf accesses (set stores table (store ++ rows)) new) own
    (f stores live before)))
    (on_ok c.insert_rows.result c.insert_rows.ensures.hold (λ f. subst (λ store. HoldOver accesses (set stores table (store ++ rows))) own
    (f stores live (sym own) c.requires.kept.indexed c.requires.kept.hold)))
    (on_err c.insert_rows.result c.insert_rows.ensures.err (λ e. e ∙ own))
    (on_err c.insert_rows.result c.insert_rows.ensures.indexes
    (λ f. subst (λ store. IndexesOf accesses (set stores table store) new) own (f stores live before)))

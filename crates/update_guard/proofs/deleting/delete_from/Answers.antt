use Rattle.std.proofs.Common.{◌≡◌, ◌∙◌, ◌<◌, ◌+◌, ◌∷◌, [], not, List, Bool, length, get_or, set, ap, sym, subst, arith}
use Rattle.std.specs.Prelude.{All}
use Rattle.std.proofs.lemmas.List.{get_or_default, set-get_or}
use Rattle.beas_core.specs.Full.{meets}
use Rattle.beas_core.specs.Types.{Row}
use Rattle.catalogue.specs.Schema.{columns_at}
use Rattle.catalogue.specs.Database.{RowFits, kept_rows}
use Rattle.update_guard.specs.Guarding.{IndexesOf, IsGuarded}
use Rattle.update_guard.proofs.UpdateFacts.{after_filter}
use Rattle.update_guard.proofs.FilterFacts.{block_fits}
use Rattle.update_guard.proofs.deleting.delete_from.Goals as goal

pub index_mut-store-requires : goal.index_mut-store-requires
index_mut-store-requires g c = omega (arith, c.requires.live, c.requires.kept.tables, c.args.stores.now.ok.0)

pub sweep-requires-clause-count : goal.sweep-requires-clause-count
sweep-requires-clause-count g c = c.requires.kept.indexed.count

pub sweep-requires-clause-fits : goal.sweep-requires-clause-fits
sweep-requires-clause-fits g c k d l =
    let stores = c.args.stores.now.items in
    let live : c.args.table.0 < length stores = omega (arith, c.requires.live, c.requires.kept.tables) in
    let own : c.index_mut-store.result.now ≡ get_or stores c.args.table.0 [] = c.index_mut-store.ensures.value
    ∙ get_or_default stores c.args.table.0 c.index_mut-store.result.now [] live in
    let fit = subst (λ (rs : List Row). All (RowFits (columns_at c.args.catalogue.now c.args.table)) rs) (sym own) (c.requires.kept.fits c.args.table.0 live) in
    block_fits c.args.filter.now (get_or c.index_mut-store.result.now k d) c.requires.form c.requires.one (c.requires.wide ∙ sym (fit k d l).width)

pub returns-clause-rows : goal.returns-clause-rows
returns-clause-rows g c =
    let stores = c.args.stores.now.items in
    let live : c.args.table.0 < length stores = omega (arith, c.requires.live, c.requires.kept.tables) in
    let own : c.index_mut-store.result.now ≡ get_or stores c.args.table.0 [] = c.index_mut-store.ensures.value
    ∙ get_or_default stores c.args.table.0 c.index_mut-store.result.now [] live in
    ap (set stores c.args.table.0) (c.sweep.ensures.rows ∙ ap (kept_rows c.args.filter.now) own)

pub returns-clause-gone : goal.returns-clause-gone
returns-clause-gone g c =
    let stores = c.args.stores.now.items in
    let live : c.args.table.0 < length stores = omega (arith, c.requires.live, c.requires.kept.tables) in
    let own : c.index_mut-store.result.now ≡ get_or stores c.args.table.0 [] = c.index_mut-store.ensures.value
    ∙ get_or_default stores c.args.table.0 c.index_mut-store.result.now [] live in
    ap (λ rs. c.sweep.result + length rs) (sym (c.sweep.ensures.rows ∙ ap (kept_rows c.args.filter.now) own)) ∙ c.sweep.ensures.gone ∙ ap length own

pub returns-clause-cost : goal.returns-clause-cost
returns-clause-cost g c =
    let stores = c.args.stores.now.items in
    let live : c.args.table.0 < length stores = omega (arith, c.requires.live, c.requires.kept.tables) in
    let own : c.index_mut-store.result.now ≡ get_or stores c.args.table.0 [] = c.index_mut-store.ensures.value
    ∙ get_or_default stores c.args.table.0 c.index_mut-store.result.now [] live in
    c.sweep.ensures.cost ∙ ap (λ (rs : List Row). c.args.steps.now + length rs) own

pub returns-clause-kept : goal.returns-clause-kept
returns-clause-kept g c =
    let stores = c.args.stores.now.items in
    let schema = c.args.catalogue.now in
    let p : Row → Bool = λ row. not (meets c.args.filter.now (row ∷ [])) in
    let live : c.args.table.0 < length stores = omega (arith, c.requires.live, c.requires.kept.tables) in
    let own : c.index_mut-store.result.now ≡ get_or stores c.args.table.0 [] = c.index_mut-store.ensures.value
    ∙ get_or_default stores c.args.table.0 c.index_mut-store.result.now [] live in
    let after : c.sweep.new.rows ≡ kept_rows c.args.filter.now (get_or stores c.args.table.0 []) = c.sweep.ensures.rows
    ∙ ap (kept_rows c.args.filter.now) own in
    let before : IndexesOf schema.accesses (set stores c.args.table.0 c.index_mut-store.result.now) (g.I.Indexes.seen c.args.indexes.now) =
    subst (λ ss. IndexesOf schema.accesses ss (g.I.Indexes.seen c.args.indexes.now)) (sym (ap (set stores c.args.table.0) own ∙ set-get_or stores c.args.table.0 []))
    c.requires.kept.indexed in
    let indexed = subst (λ rs. IndexesOf schema.accesses (set stores c.args.table.0 rs) (g.I.Indexes.seen c.sweep.new.indexes)) after
    (c.sweep.ensures.indexes stores live before) in
    subst (λ rs. IsGuarded schema (set stores c.args.table.0 rs) (g.I.Indexes.seen c.sweep.new.indexes)) (sym after)
    (after_filter schema stores (g.I.Indexes.seen c.args.indexes.now) (g.I.Indexes.seen c.sweep.new.indexes) c.args.table p c.requires.kept live indexed)

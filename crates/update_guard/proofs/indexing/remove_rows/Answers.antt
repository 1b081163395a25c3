use Rattle.std.proofs.Common.{◌≡◌, ◌++◌, ap, sym, subst, take, length, arith}
use Rattle.std.proofs.lemmas.List.{take_all}
use Rattle.catalogue.specs.Kept.{ids_on}
use Rattle.update_guard.specs.Indexing.{AreIndexed}
use Rattle.update_guard.proofs.IndexFacts.{all_done}
use Rattle.update_guard.proofs.indexing.remove_rows.Goals as goal

pub returns-clause-taken : goal.returns-clause-taken
returns-clause-taken g c rows front live is =
    let accesses = c.args.catalogue.now.accesses in
    let ids = ids_on accesses c.args.table.0 in
    let after = front ++ c.args.added.now in
    let count : length ids ≡ length c.ids_on-n.result.now = ap length (sym c.ids_on-n.ensures.ids) in
    let all : take (length c.ids_on-n.result.now) ids ≡ ids = take_all (length c.ids_on-n.result.now) ids (omega (arith, count)) in
    c.remove_rows_from.ensures.taken rows front live
    (subst (λ d. AreIndexed accesses rows c.args.table.0 front after d (g.I.Indexes.seen c.args.indexes.now)) (sym all)
    (all_done accesses rows c.args.table.0 front after (g.I.Indexes.seen c.args.indexes.now) c.ids_on-n.ensures.sound.ids_rise live is))

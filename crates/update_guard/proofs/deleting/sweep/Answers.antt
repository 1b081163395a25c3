use Rattle.std.proofs.Common.{◌≡◌, ◌∙◌, ◌<◌, ◌+◌, ◌∷◌, [], Bool, true, false, not, take, drop, length, get_or, set, ap, sym, subst, arith}
use Rattle.std.specs.Prelude.{filter}
use Rattle.std.proofs.lemmas.List.{get_or_default}
use Rattle.std.proofs.lemmas.List.Filters.{FiltersInPlace-more_no, FiltersInPlace-more_swap}
use Rattle.beas_core.specs.Types.{Row}
use Rattle.beas_core.specs.Full.{meets}
use Rattle.update_guard.specs.Filtering.{BlockFits}
use Rattle.update_guard.specs.Guarding.{IndexesOf}
use Rattle.update_guard.proofs.SweepFacts.{still, before_gone, after_gone, after_kept}
use Rattle.update_guard.proofs.deleting.sweep.Goals as goal
use Rattle.update_guard.proofs.deleting.sweep.Goals.{then-meets, else-meets}

pub meets-requires : goal.meets-requires
meets-requires g c =
    let xs = c.args.rows.now in
    let p : Row → Bool = λ row. not (meets c.args.filter.now (row ∷ [])) in
    let is : c.row-row.result.now ≡ get_or xs c.loop-i.i [] = c.row-row.ensures.row ∙ still p xs c.loop-i.rows c.loop-i.i [] c.loop-i.invariant.in_place.rest in
    subst (λ (row : Row). BlockFits row c.args.filter.now) (sym is) (c.requires.fits c.loop-i.i [] (omega (arith, c.loop-i-test.true, c.loop-i.invariant.all)))

pub loop-i-preserved : goal.loop-i-preserved
loop-i-preserved g c =
    let xs = c.args.rows.now in
    let i = c.loop-i.i in
    let row = c.row-row.result.now in
    let accesses = c.args.catalogue.now.accesses in
    let table = c.args.table.0 in
    let p : Row → Bool = λ r. not (meets c.args.filter.now (r ∷ [])) in
    let within : i < length xs = omega (arith, c.loop-i-test.true, c.loop-i.invariant.all) in
    let there : i < length c.loop-i.rows = omega (arith, within, c.loop-i.invariant.in_place.long) in
    let is : row ≡ get_or xs i row =
    c.row-row.ensures.row ∙ still p xs c.loop-i.rows i [] c.loop-i.invariant.in_place.rest ∙ get_or_default xs i [] row within in
    let at : row ≡ get_or c.loop-i.rows i row = c.row-row.ensures.row ∙ get_or_default c.loop-i.rows i [] row there in
    let cost : c.row-row.new.steps ≡ c.args.steps.now + (i + 1) = omega (arith, c.row-row.ensures.cost, c.loop-i.invariant.cost) in
    elim c.if-meets.branch [
      | then-meets w ↦
          let gone : p row ≡ false = ap not (sym c.meets.ensures ∙ w.if-meets.true) in
          rw (w.rows-is, w.kept-is, w.indexes-is) (record {
            in_place = FiltersInPlace-more_no c.loop-i.invariant.in_place there gone at;
            all = c.loop-i.invariant.all;
            cost = cost;
            long = omega (arith, w.remove_row.ensures.len, c.loop-i.invariant.long);
            indexed = λ all live first.
                subst (λ own. IndexesOf accesses (set all table own) (g.I.Indexes.seen w.remove_row.new.indexes)) (after_gone p xs i row within is gone)
                (w.remove_row.ensures.taken all (filter p (take i xs)) (drop (i + 1) xs) live
                (subst (λ own. IndexesOf accesses (set all table own) (g.I.Indexes.seen c.loop-i.indexes)) (before_gone p xs i row within is)
                (c.loop-i.invariant.indexed all live first)));
          })
      | else-meets w ↦
          let stays : p row ≡ true = ap not (sym c.meets.ensures ∙ w.if-meets.false) in
          rw (w.rows-is, w.kept-is, w.indexes-is) (record {
            in_place = FiltersInPlace-more_swap c.loop-i.invariant.in_place there stays at w.swap.ensures.by_index;
            all = c.loop-i.invariant.all;
            cost = cost;
            long = c.loop-i.invariant.long;
            indexed = λ all live first.
                subst (λ own. IndexesOf accesses (set all table own) (g.I.Indexes.seen c.loop-i.indexes)) (after_kept p xs i row within is stays)
                (c.loop-i.invariant.indexed all live first);
          })
    ]

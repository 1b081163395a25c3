use Rattle.std.proofs.Common.{◌≡◌, ◌++◌, [], take, drop, subst, arith, length-take}
use Rattle.std.proofs.Math.ListN.{drop_of_length-le}
use Rattle.catalogue.specs.Kept.{ids_on}
use Rattle.update_guard.specs.Indexing.{AreIndexed}
use Rattle.update_guard.proofs.IndexFacts.{moved_long, move_out, from_none_done}
use Rattle.update_guard.proofs.indexing.remove_rows_from.Goals as goal

pub remove_rows-requires : goal.remove_rows-requires
remove_rows-requires g c = omega (arith, c.place_on-place.ensures.within, c.loop-k.invariant.long)

pub loop-k-preserved : goal.loop-k-preserved
loop-k-preserved g c = record {
  long = moved_long c.args.catalogue.now.accesses c.remove_rows.ensures.moved c.loop-k.invariant.long;
  moved = λ rows front live was.
      move_out c.args.n rows front (front ++ c.args.added.now) c.place_on-place.ensures (omega arith) c.requires.within
      c.loop-k.invariant.long live c.remove_rows.ensures.moved (c.remove_rows.ensures.rest front) (c.loop-k.invariant.moved rows front live was);
}

pub returns-clause-taken : goal.returns-clause-taken
returns-clause-taken g c rows front live was =
    let accesses = c.args.catalogue.now.accesses in
    let ids = ids_on accesses c.args.table.0 in
    let now = g.I.Indexes.seen c.loop-k.indexes in
    let done = c.loop-k.invariant.moved rows front live was in
    let none : drop c.loop-k.k (take c.args.n ids) ≡ [] = drop_of_length-le (take c.args.n ids) (omega (arith, length-take c.args.n ids)) in
    from_none_done accesses rows c.args.table.0 front (front ++ c.args.added.now) now
    (subst (λ d. AreIndexed accesses rows c.args.table.0 front (front ++ c.args.added.now) d now) none done)

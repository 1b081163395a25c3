use Rattle.std.proofs.Common.{arith}
use Rattle.catalogue.proofs.StoredFacts.{length-joined}
use Rattle.drawn_stores.proofs.stores.insert.Goals as goal

pub insert-requires-clause-live : goal.insert-requires-clause-live
insert-requires-clause-live c =
    let store = c.args.store.now in
    omega (arith, length-joined store.catalogue.tables store.rows store.kept.tables, c.in-Some.ensures.live)

use Rattle.std.proofs.Common.{◌≡◌}
use Rattle.block_walk.specs.Worlds.{world}
use Rattle.catalogue.specs.Database.{rows_at}
use Rattle.session.specs.Stores.{database_in}
use Rattle.session.proofs.CursorFacts.{OnTheWay, probes_left}
use Rattle.session.proofs.queries.answer_by_cursor.Given as goal

abbrev pub invariant-probes : goal.invariant-probes
invariant-probes g l =
    OnTheWay (world (rows_at (database_in l.store)) l.store.catalogue.accesses) l.fn.prepared l.cursor l.fn.steps l.steps

abbrev pub decreases-probes : goal.decreases-probes
decreases-probes g l = probes_left (world (rows_at (database_in l.store)) l.store.catalogue.accesses) l.fn.prepared l.cursor

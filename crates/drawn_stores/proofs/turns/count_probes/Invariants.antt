use Rattle.std.proofs.Common.{◌≡◌, ◌-◌, false, length}
use Rattle.block_walk.specs.Worlds.{world}
use Rattle.cursor_executor.specs.Fetching.{AllAgree, probes_due}
use Rattle.drawn_stores.proofs.turns.count_probes.Given as goal

abbrev pub invariant-turns : goal.invariant-turns
invariant-turns g l = record {
  prepared : l.cursor.prepared ≡ l.initial.cursor.prepared;
  going : l.cursor.failed ≡ false;
  agrees : AllAgree (world (g.P.AccessPort.rows l.port) (g.P.AccessPort.accesses l.port)) l.cursor.prepared l.cursor.fetched;
}

-- the probes that are still due
abbrev pub decreases-turns : goal.decreases-turns
decreases-turns g l = length (probes_due (world (g.P.AccessPort.rows l.port) (g.P.AccessPort.accesses l.port)) l.cursor.prepared) - length l.cursor.fetched

-- What the queries have read that a script leaves open. They are no part of its cost.
--     probes_made query            how many of its probes were made
--     IsShare query share          what they may have read: each at least one, and all together no more than the query's reads, which are at
--                                  most the number that was announced
--     AreShares queries shares     each of these queries has its share
--     open_reads state             the reads of the open queries
--     greatest_cost state turns    the cost of these turns, and the reads of the queries that are open after them
use Rattle.std.specs.Prelude.{◌≤◌, ◌+◌, ℕ, List, sum_by, unwrap_or}
use Rattle.std.specs.List.{AllZip}
use Rattle.desk_model.specs.OpenQueries.{OpenQuery, reads_of}
use Rattle.session.specs.Turns.{cost_of}
use Rattle.desk_model.specs.Pieces.{DeskTurn, seen_turns}
use Rattle.beas_run.specs.States.{State, state_after}

abbrev pub probes_made : OpenQuery → ℕ
probes_made query = unwrap_or query.made 0

pub record IsShare (query : OpenQuery) (share : ℕ) : Type 0 where
  pub least : probes_made query ≤ share
  pub most : share ≤ reads_of query
  pub announced : reads_of query ≤ query.prepared.bound

abbrev pub AreShares : List OpenQuery → List ℕ → Type 0
AreShares queries shares = AllZip IsShare queries shares

abbrev pub open_reads : State → ℕ
open_reads state = sum_by reads_of state.queries

abbrev pub greatest_cost : State → List DeskTurn → ℕ
greatest_cost state turns = cost_of (seen_turns turns) + open_reads (state_after state turns)

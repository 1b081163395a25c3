-- A query that is announced and not answered yet.
--     OpenQuery                   it, with what it saw where it was opened and goes on seeing: the rows of the tables that it names, and
--                                 the constraints of its derivations; `plan` are the plan lines that its answer shows, and `made` counts
--                                 the probes that were made for it, none after memory ran out in one of them
--     probes_of, reads_of, answer_of query      its probes, its reads and its answer, all over what it saw where it was opened
--     share_of query probe        what one of its probes counts: the greater of 1 and the number of tuples of its group
use Rattle.std.specs.Prelude.{ℕ, List, Option}
use Rattle.beas_core.specs.declared.plan.Prepared.{Prepared}
use Rattle.beas_core.specs.declared.schema.Access.{Access}
use Rattle.beas_core.specs.Full.{full_of}
use Rattle.beas_core.specs.Queries.{BlockProbe, query_probes, query_reads, reads_at}
use Rattle.beas_core.specs.Types.{Row}
use Rattle.desk_model.specs.Keeping.{KeptTable, rows_in}

pub record OpenQuery : Type 0 where
  pub session : ℕ
  pub prepared : Prepared
  pub plan : List ℕ
  pub tables : List KeptTable
  pub accesses : List Access
  pub made : Option ℕ

abbrev pub probes_of : OpenQuery → List BlockProbe
probes_of query = query_probes (rows_in query.tables) query.accesses query.prepared.guided query.prepared.derivations query.prepared.query

abbrev pub reads_of : OpenQuery → ℕ
reads_of query = query_reads (rows_in query.tables) query.accesses query.prepared.guided query.prepared.derivations query.prepared.query

-- its reads are the sum of its probes' shares
abbrev pub share_of : OpenQuery → BlockProbe → ℕ
share_of query probe = reads_at (rows_in query.tables) query.accesses query.prepared.derivations probe

abbrev pub answer_of : OpenQuery → List Row
answer_of query = full_of (rows_in query.tables) query.prepared.query

-- What stays of a prepared query over other constraints and rows: it fits them, and answers, probes and reads what it did.
use Rattle.std.specs.Prelude.{◌≡◌, List}
use Rattle.beas_core.specs.declared.schema.Access.{Access}
use Rattle.beas_core.specs.declared.plan.Prepared.{Prepared}
use Rattle.beas_core.specs.Types.{TableRows}
use Rattle.beas_core.specs.Queries.{query_answers, query_probes, query_reads}
use Rattle.beas_core.specs.Fits.{Fits}

pub record IsUnchanged (accesses other : List Access) (rows other_rows : TableRows) (prepared : Prepared) : Type 0 where
  pub fits : Fits other other_rows prepared
  pub answers : query_answers other_rows prepared.guided prepared.query ≡ query_answers rows prepared.guided prepared.query
  pub probes : query_probes other_rows other prepared.guided prepared.derivations prepared.query
      ≡ query_probes rows accesses prepared.guided prepared.derivations prepared.query
  pub reads : query_reads other_rows other prepared.guided prepared.derivations prepared.query
      ≡ query_reads rows accesses prepared.guided prepared.derivations prepared.query

use Rattle.desk_model.specs.Keeping.{kept_accesses, kept_tables, rows_in}
use Rattle.desk_model.proofs.KeepingFacts.{keeps_its_constraints, keeps_its_rows}
use Rattle.desk_model.proofs.QueryFacts.{query_stays}
use Rattle.desk_model.proofs.queries.law_kept_query.Goals as goal

pub returns-clause-kept : goal.returns-clause-kept
returns-clause-kept c = λ accesses rows prepared. (keeps_its_constraints accesses prepared.derivations, keeps_its_rows rows prepared.query)

pub returns-clause-same : goal.returns-clause-same
returns-clause-same c = λ accesses rows prepared fits.
    query_stays accesses (kept_accesses accesses prepared.derivations) rows (rows_in (kept_tables rows prepared.query)) prepared fits
    (keeps_its_constraints accesses prepared.derivations) (keeps_its_rows rows prepared.query)

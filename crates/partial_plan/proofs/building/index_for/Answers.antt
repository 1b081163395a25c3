use Rattle.std.proofs.Common.{sym, subst}
use Rattle.access_index.specs.Index.{IsIndexOf}
use Rattle.partial_plan.specs.Scans.{rows_of_tables}
use Rattle.partial_plan.proofs.SharedFacts.{shared_is}
use Rattle.partial_plan.proofs.building.index_for.Goals as goal

pub returns-clause-index : goal.returns-clause-index
returns-clause-index g c =
    let tables = c.args.tables.now in
    let scan = c.args.scan.now in
    let shared = shared_is tables c.args.indexes.now scan c.in-Some.alike.now c.in-Some.ensures c.requires.indexes in
    subst (λ index. IsIndexOf index (rows_of_tables tables scan.table)) (sym c.in_ok-index.ensures) shared

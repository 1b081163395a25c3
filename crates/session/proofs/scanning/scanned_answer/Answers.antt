use Rattle.session.specs.Effects.{scan_reads_in}
use Rattle.session.specs.Stores.{database_in}
use Rattle.session.proofs.ScanFacts.{read_at_most, read_in_all}
use Rattle.session.proofs.StoreFacts.{rows_are}
use Rattle.session.proofs.scanning.scanned_answer.Goals as goal

pub scan_execute-requires-clause-rows : goal.scan_execute-requires-clause-rows
scan_execute-requires-clause-rows g c = rows_are c.args.store.now

pub returns-clause-cost : goal.returns-clause-cost
returns-clause-cost g c =
    read_in_all c.scan_execute.result _ _ (scan_reads_in (database_in c.args.store.now) c.args.plan.now) c.scan_execute.ensures.reads c.scan_execute.ensures.cost

pub returns-clause-at_most : goal.returns-clause-at_most
returns-clause-at_most g c =
    read_at_most c.scan_execute.result _ _ (scan_reads_in (database_in c.args.store.now) c.args.plan.now) c.scan_execute.ensures.reads
    c.scan_execute.ensures.cost c.scan_execute.ensures.spent

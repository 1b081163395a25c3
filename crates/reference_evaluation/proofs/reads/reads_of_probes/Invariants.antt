use Rattle.std.proofs.Common.{◌≡◌, ◌≤◌, ◌*◌, take}
use Rattle.beas_core.specs.Queries.{reads_at}
use Rattle.reference_evaluation.specs.Tables.{rows_in}
use Rattle.std.specs.List.{sum_by}
use Rattle.reference_evaluation.proofs.reads.reads_of_probes.Given as goal

abbrev pub invariant-loop-probe : goal.invariant-loop-probe
invariant-loop-probe l = record {
  total : l.reads ≡ sum_by (reads_at (rows_in l.over.tables.now) l.over.plans.accesses.now l.over.plans.derivations.now) (take l.probe-index l.found);
  fits : l.reads ≤ l.probe-index * 18446744073709551615;
}

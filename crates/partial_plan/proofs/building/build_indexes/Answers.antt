use Rattle.std.proofs.Common.{◌+◌, arith, subst, sym, take}
use Rattle.partial_plan.specs.Scans.{AreBuilt, sizes_of_tables}
use Rattle.partial_plan.proofs.ScanFacts.{built_more, read_more, read_within}
use Rattle.partial_plan.proofs.building.build_indexes.Goals as goal

pub returns-in_err-push-clause-at_most : goal.returns-in_err-push-clause-at_most
returns-in_err-push-clause-at_most g c =
    let within = read_within c.args.scans.now c.loop-scan.scan-index c.scan-item.result c.loop-scan-test.true c.scan-item.is
    (sizes_of_tables c.args.tables.now) in
    omega (arith, c.in_ok-index_for.ensures.cost, c.loop-scan.invariant.cost, within)

pub loop-scan-preserved : goal.loop-scan-preserved
loop-scan-preserved g c =
    let more = read_more c.args.scans.now c.loop-scan.scan-index c.scan-item.result c.loop-scan-test.true c.scan-item.is
    (sizes_of_tables c.args.tables.now) in
    record {
      built = subst (AreBuilt c.args.tables.now (take (c.loop-scan.scan-index + 1) c.args.scans.now)) (sym c.in_ok-push.ensures.ok)
          (built_more c.args.scans.now c.loop-scan.scan-index c.scan-item.result c.loop-scan-test.true c.scan-item.is c.args.tables.now
          c.loop-scan.indexes c.in_ok-index_for.field-0 c.loop-scan.invariant.built c.in_ok-index_for.ensures.access
          c.in_ok-index_for.ensures.index);
      cost = omega (arith, c.in_ok-index_for.ensures.cost, c.loop-scan.invariant.cost, more);
    }

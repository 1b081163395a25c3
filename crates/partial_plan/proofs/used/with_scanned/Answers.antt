use Rattle.std.proofs.Common.{rules, refl}
use Rattle.partial_plan.proofs.PlanFacts.{passes}
use Rattle.partial_plan.proofs.used.with_scanned.Goals as goal

pub returns-in-None : goal.returns-in-None
returns-in-None c = (
  refl,
  passes c.args.tables.now c.args.scans.now c.loop-scan.scan-index c.scan-item.result c.index-tables-scan.result c.args.number c.loop-scan.whole
      c.from.result c.requires c.loop-scan-test.true c.scan-item.is c.index-tables-scan.is (search rules) c.loop-scan.invariant (search rules),
)

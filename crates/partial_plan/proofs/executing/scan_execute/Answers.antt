use Rattle.std.proofs.Common.{◌∙◌, ap, arith, subst, sym}
use Rattle.partial_plan.specs.Scans.{AreBuilt, IndexesStand, scanned_rows, sizes_of_tables}
use Rattle.partial_plan.proofs.PlanFacts.{indexes_stand, same_read}
use Rattle.partial_plan.proofs.executing.scan_execute.Goals as goal

pub invariant_of-scanned : goal.invariant_of-scanned
invariant_of-scanned g c =
    let accesses = g.P.AccessPort.accesses c.args.port.now in
    let rows = g.P.AccessPort.rows c.args.port.now in
    let built = subst (λ scans. AreBuilt c.args.rows.now scans c.in_ok-indexes.indexes) c.as_slice-2.ensures
    (subst (λ tables. AreBuilt tables c.as_slice-2.result.now c.in_ok-indexes.indexes) c.as_slice.ensures c.in_ok-indexes.ensures.built) in
    record {
      stand = subst (IndexesStand accesses rows) (sym c.as_slice-3.ensures)
          (indexes_stand accesses rows c.args.rows.now c.args.plan.now c.in_ok-indexes.indexes c.requires.fits c.requires.rows built);
    }

pub returns-clause-cost : goal.returns-clause-cost
returns-clause-cost g c =
    let rows = g.P.AccessPort.rows c.args.port.now in
    let same = same_read rows c.args.rows.now c.args.plan.now.scans c.requires.rows in
    let first = ap (λ tables. scanned_rows (sizes_of_tables tables) c.as_slice-2.result.now) c.as_slice.ensures
    ∙ ap (scanned_rows (sizes_of_tables c.args.rows.now)) c.as_slice-2.ensures in
    omega (arith, c.in_ok-indexes.ensures.cost, c.in_ok-answer.ensures.cost, c.requires.fits.bound, first, same)

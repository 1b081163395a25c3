use Rattle.std.proofs.Common.{◌≡◌, ◌∙◌, true, All, sym, subst, arith}
use Rattle.beas_core.specs.declared.plan.Derivation.{Derivation}
use Rattle.beas_core.specs.Derivations.{is_live}
use Rattle.beas_core.proofs.GuidedLaw.{guided_answers_are_full}
use Rattle.beas_core.proofs.QueryBounds.{prepared_is_live, prepared_few}
use Rattle.plan_ops.specs.Held.{PlanHolds}
use Rattle.plan_ops.proofs.HeldFacts.{plans_hold}
use Rattle.plan_ops.proofs.TreeFacts.{all_hold, whole_fits}
use Rattle.plan_executor.proofs.executing.execute.Goals as goal

pub ask_for_all-requires : goal.ask_for_all-requires
ask_for_all-requires g c =
    let accesses = g.P.AccessPort.accesses c.args.port.now in
    subst (All (λ (plan : Derivation). All (λ s. is_live accesses s.access ≡ true) plan.steps)) (sym c.as_slice.ensures)
    (prepared_is_live accesses c.args.prepared.now c.requires.plan)

pub answer_tree-requires-clause-fits : goal.answer_tree-requires-clause-fits
answer_tree-requires-clause-fits g c =
    whole_fits (g.P.AccessPort.rows c.args.port.now) (g.P.AccessPort.accesses c.args.port.now) c.args.prepared.now c.requires c.recall_bound.ensures

pub answer_tree-requires-clause-holds : goal.answer_tree-requires-clause-holds
answer_tree-requires-clause-holds g c =
    let rows = g.P.AccessPort.rows c.args.port.now in
    let accesses = g.P.AccessPort.accesses c.args.port.now in
    all_hold rows accesses c.args.prepared.now.derivations (subst (All (PlanHolds rows accesses)) c.as_slice.ensures c.ask_for_all.ensures)

pub returns-clause-rows : goal.returns-clause-rows
returns-clause-rows g c =
    c.in_ok-rows.ensures.rows
    ∙ guided_answers_are_full (g.P.AccessPort.rows c.args.port.now) c.args.prepared.now.guided c.args.prepared.now.query

pub returns-clause-bound : goal.returns-clause-bound
returns-clause-bound g c =
    let rows = g.P.AccessPort.rows c.args.port.now in
    let accesses = g.P.AccessPort.accesses c.args.port.now in
    let plans = c.args.prepared.now.derivations in
    let held = subst (All (PlanHolds rows accesses)) c.as_slice.ensures c.ask_for_all.ensures in
    let both = prepared_few rows accesses c.args.prepared.now c.requires.plan (plans_hold rows accesses plans held) in
    let reads = c.in_ok-rows.ensures.reads in
    omega (arith, reads, both.1)

use Rattle.std.proofs.Common.{◌≡◌, true, All, sym, subst}
use Rattle.beas_core.specs.declared.plan.Derivation.{Derivation}
use Rattle.beas_core.specs.Derivations.{is_live}
use Rattle.beas_core.proofs.QueryBounds.{prepared_is_live, prepared_few}
use Rattle.plan_ops.specs.Held.{PlanHolds}
use Rattle.plan_ops.proofs.HeldFacts.{plans_hold}
use Rattle.beas_laws.proofs.bounds.law_bound.Goals as goal

pub ask_for_all-requires : goal.ask_for_all-requires
ask_for_all-requires g c =
    let accesses = g.P.AccessPort.accesses c.args.port.now in
    subst (All (λ (plan : Derivation). All (λ s. is_live accesses s.access ≡ true) plan.steps)) (sym c.as_slice.ensures)
    (prepared_is_live accesses c.args.prepared.now c.requires.plan)

pub returns : goal.returns
returns g c =
    let rows = g.P.AccessPort.rows c.args.port.now in
    let accesses = g.P.AccessPort.accesses c.args.port.now in
    let plans = c.args.prepared.now.derivations in
    let held = subst (All (PlanHolds rows accesses)) c.as_slice.ensures c.ask_for_all.ensures in
    let both = prepared_few rows accesses c.args.prepared.now c.requires.plan (plans_hold rows accesses plans held) in
    record { answers = both.0; reads = both.1 }

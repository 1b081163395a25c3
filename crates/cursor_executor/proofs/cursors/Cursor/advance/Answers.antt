use Rattle.std.proofs.Common.{◌≡◌, ◌≤◌, All, false, true, arith, refl, subst, sym}
use Rattle.beas_core.specs.declared.plan.Derivation.{Derivation}
use Rattle.beas_core.specs.Derivations.{is_live}
use Rattle.beas_core.specs.Fits.{Fits}
use Rattle.beas_core.proofs.QueryBounds.{prepared_is_live}
use Rattle.plan_ops.specs.Held.{PlanHolds}
use Rattle.block_walk.specs.Worlds.{world}
use Rattle.cursor_executor.specs.declared.cursors.Turn.TheVariants.{Done}
use Rattle.cursor_executor.specs.contracts.cursors.Cursor.{the_view}
use Rattle.cursor_executor.specs.Fetching.{AllAgree}
use Rattle.cursor_executor.specs.Turns.{HasGone, TurnIs}
use Rattle.cursor_executor.proofs.CursorFacts.{done_again, done_reads, done_turn, kept_done, reads_few, world_of}
use Rattle.cursor_executor.proofs.cursors.Cursor.advance.Goals as goal

pub ask_for_all-requires : goal.ask_for_all-requires
ask_for_all-requires g c =
    let rows = g.P.AccessPort.rows c.args.port.now in
    let accesses = g.P.AccessPort.accesses c.args.port.now in
    let s = c.self.inside in
    let fits = subst (λ seen. Fits accesses rows seen.prepared) (sym c.self.view_is) c.requires.fits in
    subst (All (λ (plan : Derivation). All (λ s. is_live accesses s.access ≡ true) plan.steps)) (sym c.as_slice.ensures)
    (prepared_is_live accesses s.prepared fits.plan)

pub returns-then-self-2-clause-turn : goal.returns-then-self-2-clause-turn
returns-then-self-2-clause-turn g c =
    let rows = g.P.AccessPort.rows c.args.port.now in
    let accesses = g.P.AccessPort.accesses c.args.port.now in
    let w = world rows accesses in
    let s = c.self.inside in
    let fits = subst (λ seen. Fits accesses rows seen.prepared) (sym c.self.view_is) c.requires.fits in
    let is_world = world_of rows accesses s.prepared fits (subst (All (PlanHolds rows accesses)) c.as_slice.ensures c.ask_for_all.ensures) in
    let agree = subst (λ seen. seen.failed ≡ false → AllAgree w seen.prepared seen.fetched) (sym c.self.view_is) c.requires.agrees c.if-self.false in
    subst (λ seen. TurnIs w Done seen seen c.args.steps.now c.args.steps.now) c.self.view_is
    (done_again w s.prepared is_world s.course s.reads s.failed s.whole c.self.invariant c.if-self.false c.if-self-2.true agree c.args.steps.now)

pub probe_next-requires-clause-fits : goal.probe_next-requires-clause-fits
probe_next-requires-clause-fits g c =
    let rows = g.P.AccessPort.rows c.args.port.now in
    let accesses = g.P.AccessPort.accesses c.args.port.now in
    let w = world rows accesses in
    let s = c.self.inside in
    let fits = subst (λ seen. Fits accesses rows seen.prepared) (sym c.self.view_is) c.requires.fits in
    let is_world = world_of rows accesses s.prepared fits (subst (All (PlanHolds rows accesses)) c.as_slice.ensures c.ask_for_all.ensures) in
    is_world

pub probe_next-requires-clause-agrees : goal.probe_next-requires-clause-agrees
probe_next-requires-clause-agrees g c =
    let rows = g.P.AccessPort.rows c.args.port.now in
    let accesses = g.P.AccessPort.accesses c.args.port.now in
    let w = world rows accesses in
    let agree = subst (λ seen. seen.failed ≡ false → AllAgree w seen.prepared seen.fetched) (sym c.self.view_is) c.requires.agrees c.if-self.false in
    agree

pub invariant_of-self-2 : goal.invariant_of-self-2
invariant_of-self-2 g c =
    let rows = g.P.AccessPort.rows c.args.port.now in
    let accesses = g.P.AccessPort.accesses c.args.port.now in
    let w = world rows accesses in
    let s = c.self.inside in
    let fits = subst (λ seen. Fits accesses rows seen.prepared) (sym c.self.view_is) c.requires.fits in
    let is_world = world_of rows accesses s.prepared fits (subst (All (PlanHolds rows accesses)) c.as_slice.ensures c.ask_for_all.ensures) in
    let agree = subst (λ seen. seen.failed ≡ false → AllAgree w seen.prepared seen.fetched) (sym c.self.view_is) c.requires.agrees c.if-self.false in
    let ended = subst (λ b. HasGone w s.prepared b s.course c.probe_next.new.course c.args.steps.now c.probe_next.new.steps) c.if-probed.false
    c.in_ok-probed.ensures.went in
    kept_done w s.prepared is_world s.course c.probe_next.new.course c.in_ok-probed.ensures.course agree ended.same ended.left
    c.probe_next.new.reads c.in_ok-probed.ensures.reads

pub returns-clause-turn : goal.returns-clause-turn
returns-clause-turn g c =
    let rows = g.P.AccessPort.rows c.args.port.now in
    let accesses = g.P.AccessPort.accesses c.args.port.now in
    let w = world rows accesses in
    let s = c.self.inside in
    let fits = subst (λ seen. Fits accesses rows seen.prepared) (sym c.self.view_is) c.requires.fits in
    let is_world = world_of rows accesses s.prepared fits (subst (All (PlanHolds rows accesses)) c.as_slice.ensures c.ask_for_all.ensures) in
    let agree = subst (λ seen. seen.failed ≡ false → AllAgree w seen.prepared seen.fetched) (sym c.self.view_is) c.requires.agrees c.if-self.false in
    let ended = subst (λ b. HasGone w s.prepared b s.course c.probe_next.new.course c.args.steps.now c.probe_next.new.steps) c.if-probed.false
    c.in_ok-probed.ensures.went in
    subst (λ seen. TurnIs w Done seen
    (the_view (record { prepared = s.prepared; course = c.probe_next.new.course; reads = c.probe_next.new.reads; failed = false; whole = true }))
    c.args.steps.now c.probe_next.new.steps) c.self.view_is
    (done_turn w s.prepared is_world s.course c.probe_next.new.course c.in_ok-probed.ensures.course agree ended.same ended.left
    c.probe_next.new.reads c.in_ok-probed.ensures.reads s.reads (c.self.invariant.counts c.if-self.false) s.failed s.whole
    c.args.steps.now c.probe_next.new.steps ended.cost)

pub returns-then-self-2-clause-bound : goal.returns-then-self-2-clause-bound
returns-then-self-2-clause-bound g c =
    let rows = g.P.AccessPort.rows c.args.port.now in
    let accesses = g.P.AccessPort.accesses c.args.port.now in
    let w = world rows accesses in
    let s = c.self.inside in
    let fits = subst (λ seen. Fits accesses rows seen.prepared) (sym c.self.view_is) c.requires.fits in
    let is_world = world_of rows accesses s.prepared fits (subst (All (PlanHolds rows accesses)) c.as_slice.ensures c.ask_for_all.ensures) in
    let few = reads_few w s.prepared is_world in
    let agree = subst (λ seen. seen.failed ≡ false → AllAgree w seen.prepared seen.fetched) (sym c.self.view_is) c.requires.agrees c.if-self.false in
    let reads = done_reads w s.prepared is_world s.course s.course (c.self.invariant.stands c.if-self.false) agree refl
    (c.self.invariant.ended c.if-self-2.true) s.reads (c.self.invariant.counts c.if-self.false) in
    subst (λ seen. seen.reads ≤ seen.prepared.bound) c.self.view_is (omega (arith, few, reads))

pub returns-then-probed-clause-bound : goal.returns-then-probed-clause-bound
returns-then-probed-clause-bound g c =
    let rows = g.P.AccessPort.rows c.args.port.now in
    let accesses = g.P.AccessPort.accesses c.args.port.now in
    let w = world rows accesses in
    let s = c.self.inside in
    let fits = subst (λ seen. Fits accesses rows seen.prepared) (sym c.self.view_is) c.requires.fits in
    let is_world = world_of rows accesses s.prepared fits (subst (All (PlanHolds rows accesses)) c.as_slice.ensures c.ask_for_all.ensures) in
    let few = reads_few w s.prepared is_world in
    let made = (subst (λ b. HasGone w s.prepared b s.course c.probe_next.new.course c.args.steps.now c.probe_next.new.steps) c.if-probed.true
    c.in_ok-probed.ensures.went).1 in
    let within = made.within in
    let all = made.all_reads in
    let counts = c.in_ok-probed.ensures.reads in
    subst (λ seen. c.probe_next.new.reads ≤ seen.prepared.bound) c.self.view_is (omega (arith, few, within, all, counts))

pub returns-clause-bound : goal.returns-clause-bound
returns-clause-bound g c =
    let rows = g.P.AccessPort.rows c.args.port.now in
    let accesses = g.P.AccessPort.accesses c.args.port.now in
    let w = world rows accesses in
    let s = c.self.inside in
    let fits = subst (λ seen. Fits accesses rows seen.prepared) (sym c.self.view_is) c.requires.fits in
    let is_world = world_of rows accesses s.prepared fits (subst (All (PlanHolds rows accesses)) c.as_slice.ensures c.ask_for_all.ensures) in
    let few = reads_few w s.prepared is_world in
    let agree = subst (λ seen. seen.failed ≡ false → AllAgree w seen.prepared seen.fetched) (sym c.self.view_is) c.requires.agrees c.if-self.false in
    let ended = subst (λ b. HasGone w s.prepared b s.course c.probe_next.new.course c.args.steps.now c.probe_next.new.steps) c.if-probed.false
    c.in_ok-probed.ensures.went in
    let reads = done_reads w s.prepared is_world s.course c.probe_next.new.course c.in_ok-probed.ensures.course agree ended.same ended.left
    c.probe_next.new.reads c.in_ok-probed.ensures.reads in
    subst (λ seen. c.probe_next.new.reads ≤ seen.prepared.bound) c.self.view_is (omega (arith, few, reads))

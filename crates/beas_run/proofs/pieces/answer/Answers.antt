use Rattle.std.proofs.Common.{◌≤◌, ◌∙◌, arith, refl, subst, sym}
use Rattle.version_store.specs.Desks.{EventIsWellFormed, session_in}
use Rattle.beas_run.proofs.AnswerFacts.{answered_by, closed_by, fewer_by, lost_db_by, lost_others_by, lost_own_by, lost_reads_by, none_waits, on_by, on_the_way}
use Rattle.beas_run.proofs.pieces.answer.Goals as goal

pub probes-init : goal.probes-init
probes-init g c = record { way = on_the_way c.args.desk.now c.args.steps.now c.requires; unread = refl; is = refl }

pub event-report-requires-clause-session : goal.event-report-requires-clause-session
event-report-requires-clause-session g c = subst (λ event. session_in event ≤ 64) (sym c.probes.invariant.is) (omega arith)

pub event-report-requires-clause-well_formed : goal.event-report-requires-clause-well_formed
event-report-requires-clause-well_formed g c = subst EventIsWellFormed (sym c.probes.invariant.is) tt

pub probes-preserved : goal.probes-preserved
probes-preserved g c =
    let i = c.probes.invariant in
    let e = c.event-report.ensures.taken in
    record {
      way = on_by _ i.is _ _ _ _ _ _ _ _ i.way c.event-report.result (sym c.has_probed.ensures ∙ c.if-not-has_probed.false) e.did
          e.goes_on e.settings e.no_fewer;
      is = i.is;
      unread = c.event-report.ensures.unread (none_waits _ i.is c.probes.desk.settings c.probes.desk.state) ∙ i.unread;
    }

pub probes-smaller : goal.probes-smaller
probes-smaller g c =
    let i = c.probes.invariant in
    fewer_by _ i.is _ _ _ _ _ _ _ _ i.way c.event-report.result (sym c.has_probed.ensures ∙ c.if-not-has_probed.false) c.event-report.ensures.taken.did

pub returns-then-not-has_probed-clause-answered : goal.returns-then-not-has_probed-clause-answered
returns-then-not-has_probed-clause-answered g c =
    let i = c.probes.invariant in
    let e = c.event-report.ensures.taken in
    answered_by _ i.is _ _ _ _ _ _ _ _ i.way c.event-report.result (sym c.has_probed.ensures ∙ c.if-not-has_probed.true) c.requires e.told.1 e.did

pub returns-then-not-has_probed-clause-closed : goal.returns-then-not-has_probed-clause-closed
returns-then-not-has_probed-clause-closed g c =
    let i = c.probes.invariant in
    let e = c.event-report.ensures.taken in
    closed_by _ i.is _ _ _ _ _ _ _ _ i.way c.event-report.result (sym c.has_probed.ensures ∙ c.if-not-has_probed.true) e.did e.goes_on e.settings

pub returns-then-not-has_probed-clause-db : goal.returns-then-not-has_probed-clause-db
returns-then-not-has_probed-clause-db g c =
    let i = c.probes.invariant in
    lost_db_by _ i.is _ _ _ _ i.way _ c.event-report.result c.event-report.ensures.taken.err

pub returns-then-not-has_probed-clause-others : goal.returns-then-not-has_probed-clause-others
returns-then-not-has_probed-clause-others g c =
    let i = c.probes.invariant in
    lost_others_by _ i.is _ _ _ _ i.way _ c.event-report.result c.event-report.ensures.taken.err

pub returns-then-not-has_probed-clause-at_most : goal.returns-then-not-has_probed-clause-at_most
returns-then-not-has_probed-clause-at_most g c =
    let i = c.probes.invariant in
    let e = c.event-report.ensures.taken in
    lost_reads_by _ i.is _ _ _ _ i.way _ c.event-report.result e.told.0 e.at_most

pub returns-then-not-has_probed-clause-own_reads : goal.returns-then-not-has_probed-clause-own_reads
returns-then-not-has_probed-clause-own_reads g c =
    let i = c.probes.invariant in
    let e = c.event-report.ensures.taken in
    lost_own_by _ i.is _ _ _ _ i.way _ c.event-report.result e.told.0 e.at_most

pub returns-then-not-has_probed-clause-unread : goal.returns-then-not-has_probed-clause-unread
returns-then-not-has_probed-clause-unread g c =
    let i = c.probes.invariant in
    c.event-report.ensures.unread (none_waits _ i.is c.probes.desk.settings c.probes.desk.state) ∙ i.unread

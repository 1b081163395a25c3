use Rattle.std.proofs.Common.{◌≡◌, IfOk, OnErr, Result, subst, sym}
use Rattle.beas_core.specs.declared.errors.NoMemory.{NoMemory}
use Rattle.report.specs.declared.reports.Report.{Report}
use Rattle.session.specs.Applying.{IsApplied, database_of, settings_of}
use Rattle.session.specs.Effects.{action_of}
use Rattle.session.specs.Turns.{IsWithin}
use Rattle.session.proofs.AppliedFacts.{did, may_load, within_reported}
use Rattle.session.proofs.session.Session.apply.Goals as goal

pub returns-clause-applied : goal.returns-clause-applied
returns-clause-applied g c =
    let s = c.args.self.now in
    let db = database_of s in
    let action = action_of (settings_of s) db c.args.statement.now in
    let x = g.F.Files.seen c.args.files.now in
    let y = g.F.Files.seen c.carry_out.new.files in
    let now = database_of c.carry_out.new.self in
    let e = c.carry_out.ensures in
    let loaded = may_load g.F.Files.seen action c.args.files.now c.carry_out.new.files e.unread e.counted in
    subst (λ (r : Result Report NoMemory). IfOk r (λ report. IsApplied s.limits.file action report now c.args.steps.now c.carry_out.new.steps x y))
    (sym c.report_of.ensures)
    (did s.limits.file action db c.carry_out.result now c.args.steps.now c.carry_out.new.steps x y e.performed e.later loaded).applied

pub returns-clause-within : goal.returns-clause-within
returns-clause-within g c =
    subst (λ (r : Result Report NoMemory). IfOk r IsWithin) (sym c.report_of.ensures) (within_reported c.carry_out.result c.carry_out.ensures.within)

pub returns-clause-unchanged : goal.returns-clause-unchanged
returns-clause-unchanged g c =
    let s = c.args.self.now in
    let db = database_of s in
    let now = database_of c.carry_out.new.self in
    let e = c.carry_out.ensures in
    let action = action_of (settings_of s) db c.args.statement.now in
    let loaded = may_load g.F.Files.seen action c.args.files.now c.carry_out.new.files e.unread e.counted in
    subst (λ (r : Result Report NoMemory). OnErr r (now ≡ db)) (sym c.report_of.ensures)
    (did s.limits.file action db c.carry_out.result now c.args.steps.now c.carry_out.new.steps
    (g.F.Files.seen c.args.files.now) (g.F.Files.seen c.carry_out.new.files) e.performed e.later loaded).unchanged

pub returns-clause-loaded : goal.returns-clause-loaded
returns-clause-loaded g c =
    let s = c.args.self.now in
    let e = c.carry_out.ensures in
    may_load g.F.Files.seen (action_of (settings_of s) (database_of s) c.args.statement.now) c.args.files.now c.carry_out.new.files e.unread e.counted

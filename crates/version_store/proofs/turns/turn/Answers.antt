use Rattle.std.proofs.Common.{◌∙◌, ap, subst, sym}
use Rattle.std.specs.Prelude.{IfOk, OnErr}
use Rattle.beas_core.specs.declared.plan.Prepared.{Prepared}
use Rattle.cursor_executor.specs.Turns.{QuerySpent, TurnIs}
use Rattle.version_store.specs.Held.{world_of}
use Rattle.version_store.proofs.TurnFacts.{goes_after, kept_after, lost_after, was_going}
use Rattle.version_store.proofs.turns.turn.Goals as goal

pub returns-clause-turn : goal.returns-clause-turn
returns-clause-turn g c =
    let see = world_of g.P.Part.table_of g.P.AccessPort.rows g.P.AccessPort.accesses (g.G.AccessPort.rows c.args.guard.now) (g.G.AccessPort.accesses c.args.guard.now) in
    subst (λ parts. IfOk c.advance.result (λ turn. TurnIs (see parts) turn c.args.query.now.cursor c.advance.new.self c.args.steps.now c.advance.new.steps))
    c.deref.ensures.value c.advance.ensures.turn

pub returns-clause-spent : goal.returns-clause-spent
returns-clause-spent g c =
    let see = world_of g.P.Part.table_of g.P.AccessPort.rows g.P.AccessPort.accesses (g.G.AccessPort.rows c.args.guard.now) (g.G.AccessPort.accesses c.args.guard.now) in
    subst (λ parts. OnErr c.advance.result (QuerySpent (see parts) c.args.query.now.cursor.prepared c.args.query.now.cursor.fetched c.args.steps.now c.advance.new.steps))
    c.deref.ensures.value c.advance.ensures.spent

pub returns-clause-kept : goal.returns-clause-kept
returns-clause-kept g c =
    let see = world_of g.P.Part.table_of g.P.AccessPort.rows g.P.AccessPort.accesses (g.G.AccessPort.rows c.args.guard.now) (g.G.AccessPort.accesses c.args.guard.now) in
    record {
      header = c.requires.kept.header ∙ ap (λ (p : Prepared). p.header) (sym c.advance.ensures.prepared);
      apart = c.requires.kept.apart;
      kept = kept_after (see c.args.query.now.parts.items) c.args.query.now.cursor c.advance.new.self c.requires.kept.kept c.advance.ensures.prepared
          c.advance.result c.args.steps.now c.advance.new.steps
          (was_going c.advance.result c.args.query.now.cursor.failed (λ e. (c.advance.ensures.failed_before e).0))
          (returns-clause-turn g c) c.advance.ensures.failed;
    }

pub returns-clause-went : goal.returns-clause-went
returns-clause-went g c =
    let see = world_of g.P.Part.table_of g.P.AccessPort.rows g.P.AccessPort.accesses (g.G.AccessPort.rows c.args.guard.now) (g.G.AccessPort.accesses c.args.guard.now) in
    goes_after (see c.args.query.now.parts.items) c.args.query.now.cursor c.advance.new.self c.requires.kept.kept c.advance.ensures.prepared
    c.args.query.now.session c.args.query.now.plan c.advance.result
    c.args.steps.now c.advance.new.steps (was_going c.advance.result c.args.query.now.cursor.failed (λ e. (c.advance.ensures.failed_before e).0))
    (returns-clause-turn g c)

pub returns-clause-lost : goal.returns-clause-lost
returns-clause-lost g c =
    let see = world_of g.P.Part.table_of g.P.AccessPort.rows g.P.AccessPort.accesses (g.G.AccessPort.rows c.args.guard.now) (g.G.AccessPort.accesses c.args.guard.now) in
    lost_after (see c.args.query.now.parts.items) c.args.query.now.cursor c.advance.new.self c.requires.kept.kept c.advance.ensures.prepared
    c.args.query.now.session c.args.query.now.plan c.advance.result c.advance.ensures.failed

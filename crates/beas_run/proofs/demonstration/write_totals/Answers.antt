use Rattle.std.proofs.Common.{ap, refl, subst, sym, Err}
use Rattle.catalogue.specs.Schema.{SchemaIsSound}
use Rattle.outside.specs.Seen.{Sent}
use Rattle.session.proofs.StoreFacts.{schema_is_catalogue}
use Rattle.session.specs.Applying.{settings_of}
use Rattle.beas_run.specs.Demonstrations.{without_outside}
use Rattle.beas_run.specs.Walks.{moment}
use Rattle.beas_run.proofs.NoSessionFacts.{reads_alone}
use Rattle.beas_run.proofs.WalkFacts.{IsPut, demonstrated, unfinished}
use Rattle.beas_run.proofs.demonstration.write_totals.Goals as goal

pub returns-in-Ok-clause-demonstrated : goal.returns-in-Ok-clause-demonstrated
returns-in-Ok-clause-demonstrated g c = λ files.
    let e = c.put_summary.ensures in
    let session = c.args.session.now in
    let before = moment session c.args.steps.now (g.O.Sink.seen c.args.out.now) files in
    let sound = subst SchemaIsSound (sym (schema_is_catalogue session.guarded)) c.recall_soundness.ensures in
    let put : IsPut c.put_summary.result c.walk.new.audience.summary (g.O.Sink.seen c.walk.new.out) (g.O.Sink.seen c.put_summary.new.out) =
    record { whole = e.whole; part = e.part; unsent = e.unsent; puts = e.puts } in
    demonstrated _ _ _ before _
    (reads_alone (settings_of session) (without_outside before) c.args.script.now sound refl c.requires.short c.requires.plain)
    c.in-Ok.refused _ c.in-Ok.ensures.walked e.statuses
    (subst (λ (m : Sent). IsPut c.put_summary.result c.walk.new.audience.summary m (g.O.Sink.seen c.put_summary.new.out))
    (ap g.O.Sink.seen (c.walk.ensures.unused (λ _. refl))) put)

pub returns-in-Err-clause-demonstrated : goal.returns-in-Err-clause-demonstrated
returns-in-Err-clause-demonstrated g c = λ files.
    let session = c.args.session.now in
    let before = moment session c.args.steps.now (g.O.Sink.seen c.args.out.now) files in
    let sound = subst SchemaIsSound (sym (schema_is_catalogue session.guarded)) c.recall_soundness.ensures in
    let same = ap g.O.Sink.seen (c.walk.ensures.unused (λ _. refl)) in
    unfinished _ _ c.walk.new.audience.summary before _
    (reads_alone (settings_of session) (without_outside before) c.args.script.now sound refl c.requires.short c.requires.plain)
    _ c.in-Err.ensures.walked (λ e. c.in-Err.ensures.out.fault (ap Err e)) (λ _. ap (λ (m : Sent). m.bytes) same)
    (ap (λ (m : Sent). m.puts) same)

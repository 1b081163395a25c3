use Rattle.std.proofs.Common.{Ok, set, subst, sym, refl, arith}
use Rattle.std.proofs.lemmas.Result.{err_from_is_err_and}
use Rattle.beas_core.specs.declared.refusal.Refusal.TheVariants.{SessionIdle}
use Rattle.cursor_executor.specs.Turns.{TurnIs}
use Rattle.piece_reader.specs.declared.event.Event.TheVariants.{Stepped}
use Rattle.report.specs.declared.reports.Report.TheVariants.{Probed, Refused}
use Rattle.desk_model.specs.Desks.{query_of, stepped_effect}
use Rattle.session.specs.Applying.{database_of}
use Rattle.version_store.specs.Desks.{Finishes, GoesOn}
use Rattle.version_store.specs.Events.{HappensSome}
use Rattle.version_store.specs.Stored.{held_at, seen_in, state_in, world_at}
use Rattle.version_store.proofs.GoingFacts as fact
use Rattle.version_store.proofs.TakenFacts.{lost_taken, stepped_taken}
use Rattle.version_store.proofs.going.step.Goals as goal

-- ---- a session without an open query

pub returns-in_default-clause-taken : goal.returns-in_default-clause-taken
returns-in_default-clause-taken g c files =
    let none = fact.where_found c.args.queries.now.items c.as_slice.result.now c.args.number c.position_of.result _ c.as_slice.ensures.value c.position_of.ensures
    c.in_default.is in
    let s = c.args.session.now in
    let queries = c.args.queries.now.items in
    let n = c.args.steps.now in
    stepped_taken s queries queries c.args.number (Ok (Refused (SessionIdle c.args.number))) n n c.requires.kept c.requires.kept
    (fact.idle_happens s queries c.args.number none (SessionIdle c.args.number) n refl) (record { probes = refl; shares = refl }, refl)
    tt tt tt (omega arith) files

-- ---- out of memory

pub turn_over-requires : goal.turn_over-requires
turn_over-requires g c =
    let found = fact.where_found c.args.queries.now.items c.as_slice.result.now c.args.number c.position_of.result _ c.as_slice.ensures.value c.position_of.ensures
    c.in-Some.is in
    record {
      kept = fact.open_there c.args.session.now c.args.queries.now.items c.args.number c.in-Some.place c.index_mut.result.now c.index_mut.result.now found
          c.index_mut.ensures.value c.requires.kept;
    }

pub returns-in_err-turn_over-clause-kept : goal.returns-in_err-turn_over-clause-kept
returns-in_err-turn_over-clause-kept g c =
    let found = fact.where_found c.args.queries.now.items c.as_slice.result.now c.args.number c.position_of.result _ c.as_slice.ensures.value c.position_of.ensures
    c.in-Some.is in
    fact.kept_lost c.args.session.now c.args.queries.now.items c.args.number c.in-Some.place c.index_mut.result.now c.turn_over.new.query found
    c.index_mut.ensures.value c.requires.kept c.turn_over.ensures.kept c.turn_over.ensures.session c.in_err-turn_over.ensures.lost

pub returns-in_err-turn_over-clause-taken : goal.returns-in_err-turn_over-clause-taken
returns-in_err-turn_over-clause-taken g c files =
    let found = fact.where_found c.args.queries.now.items c.as_slice.result.now c.args.number c.position_of.result _ c.as_slice.ensures.value c.position_of.ensures
    c.in-Some.is in
    let s = c.args.session.now in
    let queries = c.args.queries.now.items in
    let k = c.args.number in
    let i = c.in-Some.place in
    let old = c.index_mut.result.now in
    let new = c.turn_over.new.query in
    let n = c.args.steps.now in
    let m = c.turn_over.new.steps in
    let e = c.in_err-turn_over.ensures in
    let p = err_from_is_err_and c.from_residual.result c.from_residual.ensures.1 in
    rw (p.1)
    (lost_taken s queries (set queries i new) k _ n m c.requires.kept
    (fact.kept_lost s queries k i old new found c.index_mut.ensures.value c.requires.kept c.turn_over.ensures.kept c.turn_over.ensures.session e.lost)
    (fact.lost_there s queries k i old new found c.index_mut.ensures.value e.lost)
    (fact.lost_may s queries k i old new found c.index_mut.ensures.value
    (fact.open_there s queries k i old old found c.index_mut.ensures.value c.requires.kept)
    (fact.counted_there s queries k i old old found c.index_mut.ensures.value c.requires.kept)
    n m e.spent (λ failed. (c.turn_over.ensures.failed_before failed).1))
    (fact.no_fewer_spent _ _ _ _ _ e.spent) files)

-- ---- a probe was made

pub returns-in-Probed-clause-kept : goal.returns-in-Probed-clause-kept
returns-in-Probed-clause-kept g c =
    let found = fact.where_found c.args.queries.now.items c.as_slice.result.now c.args.number c.position_of.result _ c.as_slice.ensures.value c.position_of.ensures
    c.in-Some.is in
    let s = c.args.session.now in
    let db = database_of s in
    let old = c.index_mut.result.now in
    let new = c.turn_over.new.query in
    fact.kept_probed s c.args.queries.now.items c.args.number c.in-Some.place old new found c.index_mut.ensures.value c.requires.kept c.turn_over.ensures.kept
    c.turn_over.ensures.session c.args.steps.now c.turn_over.new.steps
    (fact.made_there c.in_ok-turn_over.field-0 (held_at db old) (held_at db new) old.cursor new.cursor c.args.steps.now c.turn_over.new.steps c.in-Probed.is
    c.in_ok-turn_over.ensures.went)
    (subst (λ turn. TurnIs (world_at db old) turn old.cursor new.cursor c.args.steps.now c.turn_over.new.steps) c.in-Probed.is c.in_ok-turn_over.ensures.turn)

pub returns-in-Probed-clause-taken : goal.returns-in-Probed-clause-taken
returns-in-Probed-clause-taken g c files =
    let found = fact.where_found c.args.queries.now.items c.as_slice.result.now c.args.number c.position_of.result _ c.as_slice.ensures.value c.position_of.ensures
    c.in-Some.is in
    let s = c.args.session.now in
    let db = database_of s in
    let queries = c.args.queries.now.items in
    let k = c.args.number in
    let i = c.in-Some.place in
    let old = c.index_mut.result.now in
    let new = c.turn_over.new.query in
    let n = c.args.steps.now in
    let m = c.turn_over.new.steps in
    let h = fact.made_there c.in_ok-turn_over.field-0 (held_at db old) (held_at db new) old.cursor new.cursor n m c.in-Probed.is
    c.in_ok-turn_over.ensures.went in
    let cost = h.steps in
    stepped_taken s queries (set queries i new) k (Ok (Probed k)) n m c.requires.kept
    (fact.kept_probed s queries k i old new found c.index_mut.ensures.value c.requires.kept c.turn_over.ensures.kept c.turn_over.ensures.session n m h
    (subst (λ turn. TurnIs (world_at db old) turn old.cursor new.cursor n m) c.in-Probed.is c.in_ok-turn_over.ensures.turn))
    (fact.probed_happens s queries k i old new found c.index_mut.ensures.value n m h)
    (fact.probed_once s queries k i old new found c.index_mut.ensures.value n m h)
    tt tt tt (omega (arith, cost)) files

-- ---- all were made

pub close-requires-clause-there : goal.close-requires-clause-there
close-requires-clause-there g c =
    let found = fact.where_found c.args.queries.now.items c.as_slice.result.now c.args.number c.position_of.result _ c.as_slice.ensures.value c.position_of.ensures
    c.in-Some.is in
    fact.in_range_still c.args.session.now c.args.queries.now.items c.args.number c.in-Some.place c.index_mut.result.now c.turn_over.new.query found
    c.index_mut.ensures.value

pub close-requires-clause-answered : goal.close-requires-clause-answered
close-requires-clause-answered g c query is =
    let found = fact.where_found c.args.queries.now.items c.as_slice.result.now c.args.number c.position_of.result _ c.as_slice.ensures.value c.position_of.ensures
    c.in-Some.is in
    let s = c.args.session.now in
    let db = database_of s in
    let old = c.index_mut.result.now in
    let new = c.turn_over.new.query in
    let h = fact.answered_there c.in_ok-turn_over.field-0 (held_at db old) (held_at db new) old.cursor new.cursor c.args.steps.now c.turn_over.new.steps
    c.in-Done.is c.in_ok-turn_over.ensures.went in
    fact.has_answer s c.args.queries.now.items c.args.number c.in-Some.place old new found c.index_mut.ensures.value c.args.steps.now c.turn_over.new.steps h
    query is

pub returns-in-Done-clause-kept : goal.returns-in-Done-clause-kept
returns-in-Done-clause-kept g c =
    let found = fact.where_found c.args.queries.now.items c.as_slice.result.now c.args.number c.position_of.result _ c.as_slice.ensures.value c.position_of.ensures
    c.in-Some.is in
    fact.kept_answered c.args.session.now c.args.queries.now.items c.args.number c.in-Some.place c.index_mut.result.now c.turn_over.new.query found
    c.index_mut.ensures.value c.requires.kept c.close.new.queries.items c.close.ensures.left

pub returns-in-Done-clause-taken : goal.returns-in-Done-clause-taken
returns-in-Done-clause-taken g c files =
    let found = fact.where_found c.args.queries.now.items c.as_slice.result.now c.args.number c.position_of.result _ c.as_slice.ensures.value c.position_of.ensures
    c.in-Some.is in
    let s = c.args.session.now in
    let db = database_of s in
    let queries = c.args.queries.now.items in
    let left = c.close.new.queries.items in
    let k = c.args.number in
    let i = c.in-Some.place in
    let old = c.index_mut.result.now in
    let new = c.turn_over.new.query in
    let same = c.index_mut.ensures.value in
    let n = c.args.steps.now in
    let m = c.turn_over.new.steps in
    let h = fact.answered_there c.in_ok-turn_over.field-0 (held_at db old) (held_at db new) old.cursor new.cursor n m c.in-Done.is
    c.in_ok-turn_over.ensures.went in
    let none = h.steps in
    let given = fact.answered_report s queries k i old new found same n m h c.close.result c.turn_over.ensures.kept.header
    (c.close.ensures.report new (fact.stands_there s queries k i old new found same)) in
    let shorter = sym (fact.left_is s queries k i old new found same left c.close.ensures.left) in
    stepped_taken s queries left k (Ok c.close.result) n m c.requires.kept
    (fact.kept_answered s queries k i old new found same c.requires.kept left c.close.ensures.left)
    (subst (λ seen. HappensSome (stepped_effect (state_in s queries) k (query_of k (state_in s queries))) c.close.result (seen_in s queries) seen n m) shorter
    (fact.answered_happens s queries k i old new found same n m h c.close.result given))
    (subst (λ report. GoesOn (Stepped k) report (seen_in s queries) (seen_in s left) n m) (sym given)
    (subst (λ seen. Finishes k (seen_in s queries) seen n m) shorter
    (fact.answered_finishes s queries k i old new found same n m h
    (fact.open_there s queries k i old new found same c.requires.kept)
    (subst (λ turn. TurnIs (world_at db old) turn old.cursor new.cursor n m) c.in-Done.is c.in_ok-turn_over.ensures.turn))))
    (fact.answer_within s queries k i old new found same c.requires.kept c.close.result given) tt tt (omega (arith, none)) files

use Rattle.std.proofs.Common.{◌∙◌, refl, sym}
use Rattle.version_store.proofs.EventFacts.{none_is, open_is}
use Rattle.version_store.proofs.TakenFacts.{busy_taken}
use Rattle.version_store.specs.Stored.{state_in}
use Rattle.version_store.proofs.saying.say.Goals as goal

-- ---- a session whose query is open

pub returns-then-is_some-clause-kept : goal.returns-then-is_some-clause-kept
returns-then-is_some-clause-kept g c = c.requires.kept

pub returns-then-is_some-clause-taken : goal.returns-then-is_some-clause-taken
returns-then-is_some-clause-taken g c =
    let s = c.args.session.now in
    let k = c.args.number in
    let queries = c.args.queries.now.items in
    busy_taken s queries k c.args.statement.now
    (open_is s queries c.as_slice.result.now k c.position_of.result c.as_slice.ensures.value c.position_of.ensures
    ∙ sym c.is_some.ensures ∙ c.if-is_some.true)
    c.requires.kept c.args.steps.now (g.F.Files.seen c.args.files.now)

pub returns-then-is_some-clause-unread : goal.returns-then-is_some-clause-unread
returns-then-is_some-clause-unread g c = λ none. refl

-- ---- one that has none

pub say_idle-requires-clause-well_formed : goal.say_idle-requires-clause-well_formed
say_idle-requires-clause-well_formed g c = c.requires.well_formed

pub say_idle-requires-clause-kept : goal.say_idle-requires-clause-kept
say_idle-requires-clause-kept g c = c.requires.kept

pub say_idle-requires-clause-idle : goal.say_idle-requires-clause-idle
say_idle-requires-clause-idle g c =
    let s = c.args.session.now in
    let queries = c.args.queries.now.items in
    none_is c.args.number (state_in s queries)
    (open_is s queries c.as_slice.result.now c.args.number c.position_of.result c.as_slice.ensures.value c.position_of.ensures
    ∙ sym c.is_some.ensures ∙ c.if-is_some.false)

pub returns-clause-kept : goal.returns-clause-kept
returns-clause-kept g c = c.say_idle.ensures.kept

pub returns-clause-taken : goal.returns-clause-taken
returns-clause-taken g c = c.say_idle.ensures.taken

pub returns-clause-unread : goal.returns-clause-unread
returns-clause-unread g c = c.say_idle.ensures.unread

use Rattle.std.proofs.Common.{◌≡◌, ◌∙◌, Some, refl, ap, subst, sym}
use Rattle.piece_reader.specs.declared.event.Event.TheVariants.{Said}
use Rattle.desk_model.specs.Desks.{DeskAction}
use Rattle.session.specs.Applying.{database_of, settings_of}
use Rattle.session.specs.Effects.{action_of}
use Rattle.sql_text.specs.declared.tree.Statement.{Statement}
use Rattle.version_store.specs.Desks.{IsTaken, waits_for_file}
use Rattle.version_store.specs.Stored.{seen_in, state_in}
use Rattle.version_store.proofs.EventFacts.{may_read}
use Rattle.version_store.proofs.TakenFacts.{opened_taken, said_is}
use Rattle.version_store.proofs.saying.say_idle.Goals as goal

-- ---- a query is opened

pub returns-in-Select-clause-kept : goal.returns-in-Select-clause-kept
returns-in-Select-clause-kept g c = c.open.ensures.kept

pub returns-in-Select-clause-taken : goal.returns-in-Select-clause-taken
returns-in-Select-clause-taken g c =
    let s = c.args.session.now in
    let k = c.args.number in
    let queries = c.args.queries.now.items in
    let left = c.open.new.queries.items in
    let n = c.args.steps.now in
    let x = g.F.Files.seen c.args.files.now in
    let e = c.open.ensures in
    subst (λ (st : Statement). IsTaken (Said k st) c.open.result (seen_in s queries) (seen_in s left) n n x x) (sym c.in-Select.is)
    (opened_taken s queries left k c.in-Select.tree c.open.result c.requires.idle c.requires.kept e.kept e.did e.goes_on e.within e.err n x)

pub returns-in-Select-clause-unread : goal.returns-in-Select-clause-unread
returns-in-Select-clause-unread g c = λ none. refl

-- ---- all else

pub carry_out-requires-clause-well_formed : goal.carry_out-requires-clause-well_formed
carry_out-requires-clause-well_formed g c = c.requires.well_formed

pub carry_out-requires-clause-other : goal.carry_out-requires-clause-other
carry_out-requires-clause-other g c = c.in_default.not-Select

pub carry_out-requires-clause-kept : goal.carry_out-requires-clause-kept
carry_out-requires-clause-kept g c = c.requires.kept

pub returns-in_default-clause-kept : goal.returns-in_default-clause-kept
returns-in_default-clause-kept g c = c.carry_out.ensures.kept

pub returns-in_default-clause-taken : goal.returns-in_default-clause-taken
returns-in_default-clause-taken g c = c.carry_out.ensures.taken c.args.number c.requires.idle

pub returns-in_default-clause-unread : goal.returns-in_default-clause-unread
returns-in_default-clause-unread g c =
    let s = c.args.session.now in
    let state = state_in s c.args.queries.now.items in
    let st = c.args.statement.now in
    λ none. may_read state (action_of (settings_of s) (database_of s) st) (c.carry_out.new.files ≡ c.args.files.now) c.carry_out.ensures.unread
    (ap (λ (a : DeskAction). waits_for_file (Some a)) (sym (said_is (settings_of s) state c.args.number st c.in_default.not-Select c.requires.idle)) ∙ none)

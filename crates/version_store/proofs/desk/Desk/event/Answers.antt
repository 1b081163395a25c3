use Rattle.std.proofs.Common.{◌≡◌, false, refl, subst, sym}
use Rattle.piece_reader.specs.declared.event.Event.{Event}
use Rattle.desk_model.specs.Desks.{action_of_event}
use Rattle.version_store.specs.Desks.{EventIsWellFormed, IsTaken, Seen, waits_for_file}
use Rattle.version_store.specs.Stored.{seen_in}
use Rattle.version_store.proofs.desk.Desk.event.Goals as goal

pub say-requires-clause-well_formed : goal.say-requires-clause-well_formed
say-requires-clause-well_formed g c = subst EventIsWellFormed c.in-Said.is c.requires.well_formed

pub say-requires-clause-kept : goal.say-requires-clause-kept
say-requires-clause-kept g c = c.self.invariant

pub step-requires : goal.step-requires
step-requires g c = record { kept = c.self.invariant }

pub invariant_of-self : goal.invariant_of-self
invariant_of-self g c = c.say.ensures.kept

pub invariant_of-self-in-Stepped : goal.invariant_of-self-in-Stepped
invariant_of-self-in-Stepped g c = c.step.ensures.kept

-- ---- what a session says

pub returns-in-Said-clause-taken : goal.returns-in-Said-clause-taken
returns-in-Said-clause-taken g c =
    let before = seen_in c.self.inside.session c.self.inside.queries.items in
    let after = seen_in c.say.new.session c.say.new.queries.items in
    let n = c.args.steps.now in
    let m = c.say.new.steps in
    let x = g.F.Files.seen c.args.files.now in
    let y = g.F.Files.seen c.say.new.files in
    subst (λ (a : Seen). IsTaken c.args.event.now c.say.result a after n m x y) c.self.view_is
    (subst (λ (e : Event). IsTaken e c.say.result before after n m x y) (sym c.in-Said.is) c.say.ensures.taken)

pub returns-in-Said-clause-unread : goal.returns-in-Said-clause-unread
returns-in-Said-clause-unread g c =
    let before = seen_in c.self.inside.session c.self.inside.queries.items in
    subst (λ (a : Seen). waits_for_file (action_of_event a.settings a.state c.args.event.now) ≡ false → c.say.new.files ≡ c.args.files.now)
    c.self.view_is
    (subst (λ (e : Event). waits_for_file (action_of_event before.settings before.state e) ≡ false → c.say.new.files ≡ c.args.files.now)
    (sym c.in-Said.is) c.say.ensures.unread)

-- ---- a turn

pub returns-in-Stepped-clause-taken : goal.returns-in-Stepped-clause-taken
returns-in-Stepped-clause-taken g c =
    let before = seen_in c.self.inside.session c.self.inside.queries.items in
    let after = seen_in c.self.inside.session c.step.new.queries.items in
    let n = c.args.steps.now in
    let m = c.step.new.steps in
    let x = g.F.Files.seen c.args.files.now in
    subst (λ (a : Seen). IsTaken c.args.event.now c.step.result a after n m x x) c.self.view_is
    (subst (λ (e : Event). IsTaken e c.step.result before after n m x x) (sym c.in-Stepped.is) (c.step.ensures.taken x))

pub returns-in-Stepped-clause-unread : goal.returns-in-Stepped-clause-unread
returns-in-Stepped-clause-unread g c = λ none. refl

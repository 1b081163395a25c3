-- The turns of a script name as unreadable the files whose loads failed in them, and no others.
use Rattle.std.proofs.Common.{◌≡◌, ℕ, zero, suc, ◌+◌, Bool, true, false, if◌then◌else◌, All, List, [], ◌∷◌, length, nat_lt, Option, Some, None, Result, Ok, Err, refl}
use Rattle.std.specs.Prelude.{IfErr, IfSome}
use Rattle.std.specs.List.{AllZip}
use Rattle.std.specs.Option.{option_map, option_map_or}
use Rattle.std.proofs.lemmas.List.Elements.{All-cons, All-nil}
use Rattle.beas_core.specs.declared.plan.Prepared.{Prepared}
use Rattle.beas_core.specs.declared.refusal.Refusal.{Refusal}
use Rattle.name_resolution.proofs.Ranges.{Each}
use Rattle.catalogue.specs.Database.{schema_of}
use Rattle.sql_tokens.specs.declared.token.Token.{Token}
use Rattle.sql_text.specs.declared.tree.Statement.{Statement}
use Rattle.sql_text.specs.declared.tree.Statement.TheVariants.{Select}
use Rattle.piece_reader.specs.Sayings.{IsReadAs, Reading}
use Rattle.session.specs.declared.loading.LoadOutcome.{LoadOutcome}
use Rattle.session.specs.declared.loading.LoadOutcome.TheVariants.{Failed}
use Rattle.session.specs.Announced.{announcement}
use Rattle.session.specs.Effects.{Action, Does, Loads, Settings, action_of}
use Rattle.session.specs.Turns.{turn_of}
use Rattle.desk_model.specs.OpenQueries.{OpenQuery, probes_of}
use Rattle.piece_reader.specs.declared.event.Event.{Event}
use Rattle.piece_reader.specs.declared.event.Event.TheVariants.{Said, Stepped}
use Rattle.desk_model.specs.Desks.{AtOnce, ByLoad, DeskAction, DeskEffect, State, action_of_event, answered_effect, at_desk, opened_effect, probed_effect, query_effect, query_of, said_action, statement_action, stepped_effect}
use Rattle.desk_model.specs.Pieces.{DeskTurn, Next, after_cost, and_step, and_steps, next, opens, piece_action, probes_due, seen_turn, seen_turns, turns, with_answer}
use Rattle.beas_laws.specs.Unreadable.{TellsFailures, failed_file, unreadable_in}
use Rattle.beas_laws.proofs.BinderFacts.{readings_other}
use Rattle.beas_laws.proofs.ListFacts.{Other}
use Rattle.beas_laws.proofs.StatementFacts.{announcement_err, statement_tells}

-- ---- effects and actions

abbrev EffectNamesNone : DeskEffect → Type 0
EffectNamesNone effect = unreadable_in effect.report ≡ None

abbrev ActionTells : DeskAction → Type 0
ActionTells (AtOnce effect) = EffectNamesNone effect
ActionTells (ByLoad name effect) =
    (outcome : LoadOutcome) → unreadable_in (effect outcome).report ≡ failed_file (Some (record { name = name; outcome = outcome }))

desk_tells : (state : State) (action : Action) → ((outcome : LoadOutcome) → TellsFailures (turn_of action outcome))
    → ActionTells (at_desk state action)
desk_tells state (Does effect) h = h Failed
desk_tells state (Loads name effect) h = h

-- ---- a statement

opened_none : (explain : Bool) (state : State) (session : ℕ) (r : Result Prepared Refusal) → IfErr r Other
    → EffectNamesNone (opened_effect explain state session r)
opened_none explain state session (Err why) h = h
opened_none explain state session (Ok prepared) h = refl

action_tells : (s : Settings) (state : State) (session : ℕ) (statement : Statement) → ActionTells (statement_action s state session statement)
action_tells s state session (Select tree) =
    opened_none s.explain state session (announcement s.limits s.budget (schema_of state.db) tree)
    (announcement_err s.limits s.budget (schema_of state.db) tree)
action_tells s state session statement = desk_tells state (action_of s state.db statement) (statement_tells s state.db statement)

said_tells : (s : Settings) (state : State) (session : ℕ) (o : Option OpenQuery) (statement : Statement)
    → ActionTells (said_action s state session o statement)
said_tells s state session None statement = action_tells s state session statement
said_tells s state session (Some query) statement = refl

-- ---- going on with a query

going_none : (state : State) (session : ℕ) (query : OpenQuery) (made : ℕ) (b : Bool)
    → EffectNamesNone (if b then probed_effect state session query made else answered_effect state session query)
going_none state session query made true = refl
going_none state session query made false = refl

query_none : (state : State) (session : ℕ) (query : OpenQuery) (made : Option ℕ) → IfSome (query_effect state session query made) EffectNamesNone
query_none state session query None = tt
query_none state session query (Some made) = going_none state session query made (nat_lt made (length (probes_of query)))

stepped_none : (state : State) (session : ℕ) (o : Option OpenQuery) → IfSome (stepped_effect state session o) EffectNamesNone
stepped_none state session None = refl
stepped_none state session (Some query) = query_none state session query query.made

after_none : (cost : ℕ) (o : Option DeskEffect) (effect : DeskEffect) → IfSome o EffectNamesNone → EffectNamesNone effect
    → EffectNamesNone (option_map_or (after_cost cost) o effect)
after_none cost None effect h k = k
after_none cost (Some later) effect h k = h

step_none : (session : ℕ) (effect : DeskEffect) → EffectNamesNone effect → EffectNamesNone (and_step session effect)
step_none session effect h =
    let o = query_of session effect.state in
    after_none effect.cost (stepped_effect effect.state session o) effect (stepped_none effect.state session o) h

steps_none : (session n : ℕ) (effect : DeskEffect) → EffectNamesNone effect → EffectNamesNone (and_steps session n effect)
steps_none session zero effect h = h
steps_none session (suc n) effect h = steps_none session n (and_step session effect) (step_none session effect h)

if_none : (b : Bool) (n : ℕ) (effect : DeskEffect) → EffectNamesNone effect → EffectNamesNone (if b then and_steps 0 n effect else effect)
if_none true n effect h = steps_none 0 n effect h
if_none false n effect h = h

answer_tells : (before : State) (action : DeskAction) → ActionTells action → ActionTells (with_answer before action)
answer_tells before (AtOnce effect) h = if_none (opens 0 before effect.state) (probes_due 0 effect.state + 1) effect h
answer_tells before (ByLoad name effect) h = h

-- ---- each piece

at_once_tells : (o : Option DeskEffect) → IfSome o EffectNamesNone → IfSome (option_map AtOnce o) ActionTells
at_once_tells None h = tt
at_once_tells (Some effect) h = h

event_tells : (s : Settings) (state : State) (event : Event) → IfSome (action_of_event s state event) ActionTells
event_tells s state (Said session statement) = said_tells s state session (query_of session state) statement
event_tells s state (Stepped session) =
    at_once_tells (stepped_effect state session (query_of session state)) (stepped_none state session (query_of session state))

piece_tells : (s : Settings) (state : State) (reading : Reading) → IfErr reading Other → IfSome (piece_action s state reading) ActionTells
piece_tells s state (Err why) h = h
piece_tells s state (Ok (Said zero statement)) h =
    answer_tells state (said_action s state 0 (query_of 0 state) statement) (said_tells s state 0 (query_of 0 state) statement)
piece_tells s state (Ok (Said (suc session) statement)) h = event_tells s state (Said (suc session) statement)
piece_tells s state (Ok (Stepped session)) h = event_tells s state (Stepped session)

-- ---- turns

abbrev NextTells : Next → Type 0
NextTells n = TellsFailures (seen_turn n.turn)

next_tells : (o : Option DeskAction) (outcomes : List LoadOutcome) → IfSome o ActionTells → IfSome (next o outcomes) NextTells
next_tells None outcomes h = tt
next_tells (Some (AtOnce effect)) outcomes h = h
next_tells (Some (ByLoad name effect)) [] h = tt
next_tells (Some (ByLoad name effect)) (outcome ∷ outcomes) h = h outcome

turn_first : (o : Option Next) (later : Next → List DeskTurn) → IfSome o NextTells → ((n : Next) → All TellsFailures (seen_turns (later n)))
    → All TellsFailures (seen_turns (option_map_or (λ n. n.turn ∷ later n) o []))
turn_first None later h k = All-nil TellsFailures
turn_first (Some n) later h k = All-cons TellsFailures (seen_turn n.turn) (seen_turns (later n)) h (k n)

turns_tell : (s : Settings) (state : State) (readings : List Reading) (outcomes : List LoadOutcome) → Each (λ r. IfErr r Other) readings
    → All TellsFailures (seen_turns (turns s state readings outcomes))
turns_tell s state [] outcomes h = All-nil TellsFailures
turns_tell s state (reading ∷ readings) outcomes h =
    turn_first (next (piece_action s state reading) outcomes) (λ n. turns s n.turn.effect.state readings n.left)
    (next_tells (piece_action s state reading) outcomes (piece_tells s state reading h.0))
    (λ n. turns_tell s n.turn.effect.state readings n.left h.1)

pub script_tells : (s : Settings) (state : State) (pieces : List (List Token)) (readings : List Reading) (outcomes : List LoadOutcome)
    → AllZip IsReadAs pieces readings → All TellsFailures (seen_turns (turns s state readings outcomes))
script_tells s state pieces readings outcomes h = turns_tell s state readings outcomes (readings_other pieces readings h)

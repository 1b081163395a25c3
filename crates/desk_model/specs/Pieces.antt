-- What the pieces of a script do at a desk.
--     opens session before after               the session has an open query after, and had none before
--     after_cost cost effect                   an effect after one that cost so much, as one effect
--     and_step session effect                  an effect after which the session's query goes on by one event; and_steps by more
--     probes_due session state                 how many probes the session's query asks for
--     answered_if_opened, with_answer          a query that was opened goes on until it is answered
--     piece_action settings state reading      what a piece does: what session 0 says is what pieces say that name no session, and where it opens
--                                              a query, the query's probes follow until it is answered
--     DeskTurn                                 what was done in a turn, and the load that it took
--     Next, next action outcomes               the turn that an action makes, and the outcomes of the loads after it
--     turns settings state readings outcomes   what the pieces do one after another, where loads give these outcomes
--     seen_turn turn, seen_turns turns         the same turns, with the database that each leaves: what is written for them is the `out_of`
--                                              these turns, and what they cost is the `cost_of` these. So a query that isn't answered costs
--                                              nothing: what its probes read stands beside the cost
use Rattle.std.specs.Prelude.{◌+◌, ◌&&◌, not, if◌then◌else◌, ℕ, zero, suc, Bool, List, [], ◌∷◌, length, map, Option, Some, None, is_some, option_map, Ok, Err}
use Rattle.std.specs.Option.{option_map_or}
use Rattle.piece_reader.specs.Sayings.{Reading}
use Rattle.session.specs.declared.loading.LoadOutcome.{LoadOutcome}
use Rattle.session.specs.Effects.{Settings}
use Rattle.session.specs.Turns.{FileLoad, Turn}
use Rattle.piece_reader.specs.declared.event.Event.TheVariants.{Said, Stepped}
use Rattle.desk_model.specs.OpenQueries.{probes_of}
use Rattle.desk_model.specs.Desks.{DeskAction, AtOnce, ByLoad, DeskEffect, State, action_of_event, query_of, refused, stepped_effect}

-- ---- a statement that names no session

-- the session has an open query, and had none
abbrev pub opens : ℕ → State → State → Bool
opens session before after = is_some (query_of session after) && not (is_some (query_of session before))

-- an effect after one that cost so much; what was reported before isn't reported
abbrev pub after_cost : ℕ → DeskEffect → DeskEffect
after_cost cost effect = record effect { cost = cost + effect.cost }

-- the session's query goes on by one more event
abbrev pub and_step : ℕ → DeskEffect → DeskEffect
and_step session effect = option_map_or (after_cost effect.cost) (stepped_effect effect.state session (query_of session effect.state)) effect

abbrev pub and_steps : ℕ → ℕ → DeskEffect → DeskEffect
and_steps session zero effect = effect
and_steps session (suc n) effect = and_steps session n (and_step session effect)

abbrev pub probes_due : ℕ → State → ℕ
probes_due session state = option_map_or (λ query. length (probes_of query)) (query_of session state) 0

-- a query that was opened is probed as often as probes are due, and then answered
abbrev pub answered_if_opened : State → DeskEffect → DeskEffect
answered_if_opened before effect =
    if opens 0 before effect.state then and_steps 0 (probes_due 0 effect.state + 1) effect else effect

-- no LOAD opens a query
abbrev pub with_answer : State → DeskAction → DeskAction
with_answer before (AtOnce effect) = AtOnce (answered_if_opened before effect)
with_answer before (ByLoad name effect) = ByLoad name effect

-- ---- each piece

abbrev pub piece_action : Settings → State → Reading → Option DeskAction
piece_action settings state (Err why) = Some (AtOnce (refused state why))
piece_action settings state (Ok (Said zero statement)) = option_map (with_answer state) (action_of_event settings state (Said 0 statement))
piece_action settings state (Ok (Said (suc session) statement)) = action_of_event settings state (Said (suc session) statement)
piece_action settings state (Ok (Stepped session)) = action_of_event settings state (Stepped session)

pub record DeskTurn : Type 0 where
  pub effect : DeskEffect
  pub load : Option FileLoad

-- a turn, and the outcomes of the loads after it
pub record Next : Type 0 where
  pub turn : DeskTurn
  pub left : List LoadOutcome

-- a load takes the next outcome; where there is none, there is no turn
abbrev pub next : Option DeskAction → List LoadOutcome → Option Next
next None outcomes = None
next (Some (AtOnce effect)) outcomes = Some (record { turn = record { effect = effect; load = None }; left = outcomes })
next (Some (ByLoad name effect)) [] = None
next (Some (ByLoad name effect)) (outcome ∷ outcomes) =
    Some (record { turn = record { effect = effect outcome; load = Some (record { name = name; outcome = outcome }) }; left = outcomes })

-- up to the first load without an outcome: more outcomes only make the list longer
abbrev pub turns : Settings → State → List Reading → List LoadOutcome → List DeskTurn
turns settings state [] outcomes = []
turns settings state (reading ∷ readings) outcomes =
    option_map_or (λ n. n.turn ∷ turns settings n.turn.effect.state readings n.left) (next (piece_action settings state reading) outcomes) []

abbrev pub seen_turn : DeskTurn → Turn
seen_turn turn = record {
  effect = record { report = turn.effect.report; cost = turn.effect.cost; db = turn.effect.state.db };
  load = turn.load;
}

abbrev pub seen_turns : List DeskTurn → List Turn
seen_turns turns = map seen_turn turns

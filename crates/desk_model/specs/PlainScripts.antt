-- What a script does that names no session.
--     reading_action settings db reading                what one reading does to the database: a refusal does nothing
--     NextTurn, next_turn action outcomes               the turn that an action makes, and the outcomes of the loads after it
--     statement_turns settings db readings outcomes     what its statements do to the database one after another
--     beside queries turn                               the same turn at a desk, where these queries are open before it and after
use Rattle.std.specs.Prelude.{List, [], ◌∷◌, Option, Some, None, Result, Ok, Err}
use Rattle.std.specs.Option.{option_map_or}
use Rattle.beas_core.specs.declared.refusal.Refusal.{Refusal}
use Rattle.catalogue.specs.Database.{Database}
use Rattle.sql_text.specs.declared.tree.Statement.{Statement}
use Rattle.session.specs.declared.loading.LoadOutcome.{LoadOutcome}
use Rattle.session.specs.Effects.{Action, Does, Loads, Settings, action_of, refusal_effect}
use Rattle.session.specs.Turns.{Turn, turn_of}
use Rattle.desk_model.specs.OpenQueries.{OpenQuery}
use Rattle.desk_model.specs.Pieces.{DeskTurn}

abbrev pub reading_action : Settings → Database → Result Statement Refusal → Action
reading_action settings db (Ok statement) = action_of settings db statement
reading_action settings db (Err why) = Does (refusal_effect db why)

-- a turn, and the outcomes of the loads after it
pub record NextTurn : Type 0 where
  pub turn : Turn
  pub left : List LoadOutcome

-- a load takes the next outcome; where there is none, there is no turn
abbrev pub next_turn : Action → List LoadOutcome → Option NextTurn
next_turn (Does effect) outcomes = Some (record { turn = record { effect = effect; load = None }; left = outcomes })
next_turn (Loads name effect) [] = None
next_turn (Loads name effect) (outcome ∷ outcomes) = Some (record { turn = turn_of (Loads name effect) outcome; left = outcomes })

abbrev pub statement_turns : Settings → Database → List (Result Statement Refusal) → List LoadOutcome → List Turn
statement_turns settings db [] outcomes = []
statement_turns settings db (reading ∷ readings) outcomes =
    option_map_or (λ n. n.turn ∷ statement_turns settings n.turn.effect.db readings n.left) (next_turn (reading_action settings db reading) outcomes) []

-- a turn, where these queries are open before it and after
abbrev pub beside : List OpenQuery → Turn → DeskTurn
beside queries turn = record {
  effect = record { report = turn.effect.report; cost = turn.effect.cost; state = record { db = turn.effect.db; queries = queries } };
  load = turn.load;
}

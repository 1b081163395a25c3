-- Scripts that name no session.
--     NamesNoSession script                  no piece of the script begins with `@`
--     statement_readings script              the statements that its pieces spell, each with why it spells none
--     MeansStatements turns statements before      the turns of a script are those of its statements, one after another: no query is open
--                                            after one of them, so nothing is read but what they cost
use Rattle.std.specs.Prelude.{◌≡◌, ◌+◌, ℕ, List, [], All, map, take}
use Rattle.sql_parser.specs.Outcome.{Reading, found_reading}
use Rattle.sql_text.specs.Symbols.{symbols}
use Rattle.session.specs.Turns.{Turn, cost_of, database_after}
use Rattle.desk_model.specs.Pieces.{DeskTurn, seen_turns}
use Rattle.desk_model.specs.PlainScripts.{beside}
use Rattle.piece_reader.specs.Sayings.{BeginsWithAt}
use Rattle.beas_run.specs.Readings.{pieces}
use Rattle.beas_run.specs.Shares.{greatest_cost}
use Rattle.beas_run.specs.States.{state_after}
use Rattle.beas_run.specs.Walks.{Did, Moment}

abbrev pub NamesNoSession : List ℕ → Type 0
NamesNoSession script = All (λ tokens. BeginsWithAt (symbols tokens) → ⊥) (pieces script)

abbrev pub statement_readings : List ℕ → List Reading
statement_readings script = map (λ tokens. found_reading (symbols tokens)) (pieces script)

pub record MeansStatements (turns : List DeskTurn) (statements : List Turn) (before : Moment) : Type 0 where
  pub turns_are : turns ≡ map (beside []) statements
  pub seen : seen_turns turns ≡ statements
  -- after so many of them
  pub state : (n : ℕ) → state_after before.state (take n turns) ≡ record { db = database_after before.state.db (take n statements); queries = [] }
  pub at_most : (n : ℕ) → greatest_cost before.state (take n turns) ≡ cost_of (take n statements)
  -- after all of them
  pub steps : (after : Moment) → Did turns before after → after.steps ≡ before.steps + cost_of statements

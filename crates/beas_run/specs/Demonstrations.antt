-- What the run of a demonstration does: it writes no reports, and at its end one line of their totals.
--     summary_of turns         the line of the totals
--     empty_files              files that are all empty, which a demonstration has in the place of any other
--     without_outside moment   a moment with these files, and with no word on what the output was sent
--     Demonstrated ..          all pieces were carried out and the line was written, or as far as that went
use Rattle.std.specs.Prelude.{◌≡◌, ◌≢◌, ◌<◌, ◌≤◌, ◌+◌, ◌-◌, ◌^◌, ◌++◌, ◌⊎◌, ℕ, true, List, [], Some}
use Rattle.outside.specs.Counts.{raised}
use Rattle.outside.specs.Parts.{SentPart}
use Rattle.outside.specs.Seen.{Seen}
use Rattle.demo_gen.specs.Summaries.{summary_text}
use Rattle.session.specs.Effects.{Settings}
use Rattle.session.specs.Turns.{cost_of}
use Rattle.desk_model.specs.Pieces.{DeskTurn, seen_turns, turns}
use Rattle.beas_run.specs.Audiences.{totals_in, unshown}
use Rattle.piece_reader.specs.Sayings.{Reading}
use Rattle.beas_run.specs.Walks.{Moment, Walked}

abbrev pub summary_of : List DeskTurn → List ℕ
summary_of turns = summary_text (totals_in turns)

-- no load of them fails; their count of loads stands at its last value, which tells nothing of them
abbrev pub empty_files : Seen
empty_files = record { told = true; content = λ _. Some []; faults = λ _. 0; taken = 0; loads = 2 ^ 64 - 1 }

abbrev pub without_outside : Moment → Moment
without_outside moment = record moment { out = unshown; files = empty_files }

pub record Demonstrated (settings : Settings) (readings : List Reading) (status : ℕ) (before after : Moment)
    : Type 0 where
  -- how the pieces ended: by memory, or in the status that their reports make
  pub ended : ℕ
  pub walked : Walked settings readings ended (without_outside before) (without_outside after)
  pub whole : status < 2 → (status ≡ ended)
      × (before.out.told ≡ true
      → after.out.bytes ≡ before.out.bytes ++ summary_of (turns settings before.state readings walked.outcomes))
  -- however it ended
  pub part : before.out.told ≡ true
      → SentPart before.out.bytes after.out.bytes (summary_of (turns settings before.state readings walked.outcomes))
  -- a run that isn't whole sent nothing, unless the output failed
  pub unsent : 2 ≤ status → status ≢ 4 → before.out.told ≡ true → after.out.bytes ≡ before.out.bytes
  -- the line was put once, or out of memory perhaps not at all
  pub puts : (after.out.puts ≡ raised 1 before.out.puts) ⊎ ((status ≡ 5) × (after.out.puts ≡ before.out.puts))
  pub early : 2 ≤ ended → (ended ≡ 5) × (status ≡ 5)
  -- it names no session, so no query is dropped: it reads what its turns cost, and no more
  pub steps : ended < 2 → after.steps ≡ before.steps + cost_of (seen_turns (turns settings before.state readings walked.outcomes))
  pub at_most : after.steps ≤ before.steps + cost_of (seen_turns (turns settings before.state readings walked.outcomes))

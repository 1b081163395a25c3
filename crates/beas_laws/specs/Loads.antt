-- Runs over files that never fail.
--     steady files           what is known of them
--     steady_out out         what is known of an output that never fails
--     turns_of .. run        the turns of a run's script
--     NoneFailed ..          a run in which no load of a file failed, and no report says of a file that it can't be read
use Rattle.std.specs.Prelude.{◌≡◌, ℕ, true, All, List, [], Some, unwrap_or}
use Rattle.outside.specs.declared.memory_files.SteadyFiles.{SteadyFiles}
use Rattle.outside.specs.Contents.{content_of}
use Rattle.outside.specs.declared.memory_sink.SteadySink.{SteadySink}
use Rattle.outside.specs.Seen.{Seen, Sent}
use Rattle.session.specs.Effects.{Settings}
use Rattle.session.specs.Ties.{failures}
use Rattle.session.specs.Turns.{Turn, loads_of}
use Rattle.command_line.specs.Arguments.{args_of}
use Rattle.desk_model.specs.Pieces.{seen_turns, turns}
use Rattle.beas_laws.specs.Unreadable.{NamesNone}
use Rattle.beas_run.specs.Runs.{HasRun, Standing, outcomes_in, settings_of_arguments, with_files}
use Rattle.beas_run.specs.Walks.{Moment}

abbrev pub steady : SteadyFiles → Seen
steady files = record {
  told = true;
  content = λ name. Some (unwrap_or (content_of files.shelf name) []);
  faults = λ _. 0;
  taken = 0;
  loads = files.loads;
}

abbrev pub steady_out : SteadySink → Sent
steady_out out = record { told = true; bytes = out.sent.items; faults = 0; puts = out.puts }

abbrev pub turns_of : (arguments : List (List ℕ)) (status : ℕ) (before after : Standing) → HasRun arguments status before after → List Turn
turns_of arguments status before after run =
    let settings = settings_of_arguments before.settings.limits arguments in
    seen_turns (turns settings before.moment.state run.readings
    (outcomes_in (args_of arguments) settings run.readings status (with_files before.moment run.begun) after.moment run.walked))

pub record NoneFailed (arguments : List (List ℕ)) (status : ℕ) (settings_before settings_after : Settings) (before after : Moment) : Type 0 where
  -- what an output for errors was sent before the run and after it
  pub said_before : Sent
  pub said_after : Sent
  pub run : HasRun arguments status (record { settings = settings_before; moment = before; said = said_before })
      (record { settings = settings_after; moment = after; said = said_after })
  pub none : (name : List ℕ) → failures name (loads_of (turns_of arguments status _ _ run)) ≡ 0
  -- a report of some other refusal may stand there, but none of a file that can't be read
  pub readable : All NamesNone (turns_of arguments status _ _ run)

-- What is said where a run has no script, and its status.
--     status_of why         the status of the program, unless memory runs out
--     line_of why           the line that is said on `err`
--     IsSaid why status ..  the line was put, or memory ran out and nothing was said
use Rattle.std.specs.Prelude.{◌≡◌, ◌≢◌, ◌⊎◌, ℕ, List, []}
use Rattle.command_line.specs.Arguments.{usage_line}
use Rattle.outside.specs.Seen.{Sent}
use Rattle.beas_run.specs.declared.no_script.NoScript.{NoScript}
use Rattle.beas_run.specs.declared.no_script.NoScript.TheVariants.{Arguments, Unread, TooLong, NotText, NoMemory}
use Rattle.beas_run.specs.Runs.{no_text_line, too_long_line, unread_line, Says, SaysNothing}

abbrev pub status_of : NoScript → ℕ
status_of Arguments = 2
status_of Unread = 3
status_of NoMemory = 5
status_of TooLong = 6
status_of NotText = 7

abbrev pub line_of : NoScript → List ℕ
line_of Arguments = usage_line
line_of Unread = unread_line
line_of NoMemory = []
line_of TooLong = too_long_line
line_of NotText = no_text_line

-- the line of this reason was put, and its status is the run's
pub record IsSaidWhole (why : NoScript) (status : ℕ) (before after : Sent) : Type 0 where
  pub in_memory : why ≢ NoMemory
  pub status_is : status ≡ status_of why
  pub says : Says (line_of why) before after

-- the put may run out of memory too: then nothing is said, and the status is 5
abbrev pub IsSaid : NoScript → ℕ → Sent → Sent → Type 0
IsSaid why status before after = IsSaidWhole why status before after ⊎ ((status ≡ 5) × SaysNothing before after)

-- How a run ends where its output doesn't take a report.
--     status_of ended               the status of a run over a script
--     TellsFault ended before after the output is a later one, and its faults rose exactly where it failed
use Rattle.std.specs.Prelude.{◌≡◌, ℕ, Bool, true, false, Result, Ok, Err, OnOk, IsErrOf}
use Rattle.outside.specs.Counts.{Rose}
use Rattle.outside.specs.Seen.{IsLaterSink, Sent}
use Rattle.outside.specs.declared.sink.SinkError.{SinkError}
use Rattle.outside.specs.declared.sink.SinkError.TheVariants.{Failed, NoMemory}
use Rattle.beas_run.specs.declared.ending.Ending.{Ending}
use Rattle.beas_run.specs.declared.ending.Ending.TheVariants.{Fault, NoMemory as Want}

abbrev pub ending_of : SinkError → Ending
ending_of Failed = Fault
ending_of NoMemory = Want

abbrev pub status_of : Result Bool Ending → ℕ
status_of (Ok false) = 0
status_of (Ok true) = 1
status_of (Err Fault) = 4
status_of (Err Want) = 5

pub record TellsFault {A : Type 0} (ended : Result A Ending) (before after : Sent) : Type 0 where
  pub later : IsLaterSink before after
  pub no_fault : OnOk ended (after.faults ≡ before.faults)
  pub no_memory : IsErrOf ended Want → after.faults ≡ before.faults
  pub fault : IsErrOf ended Fault → Rose before.faults after.faults

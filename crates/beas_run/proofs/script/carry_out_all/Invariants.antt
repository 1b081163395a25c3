use Rattle.std.proofs.Common.{◌≡◌, ◌≤◌, ◌-◌, length}
use Rattle.std.specs.Prelude.{IsCharBoundary}
use Rattle.outside.specs.Seen.{IsLater, IsLaterSink, Sent}
use Rattle.beas_run.specs.Audiences.{unshown}
use Rattle.beas_run.specs.Readings.{readings_of, readings_past}
use Rattle.beas_run.specs.Pieces.{moment_of, scene}
use Rattle.beas_run.proofs.WalkFacts.{Walking}
use Rattle.beas_run.proofs.script.carry_out_all.Given as goal

abbrev pub invariant-pieces : goal.invariant-pieces
invariant-pieces g l =
    let shown = g.A.Audience.shown in
    let sent_then = shown (g.O.Sink.seen l.fn.out) in
    let sent_now = shown (g.O.Sink.seen l.out) in
    let files_then = g.F.Files.seen l.fn.files in
    let files_now = g.F.Files.seen l.files in
    record {
      walking : Walking (g.A.Audience.took l.audience) l.fn.desk.settings (readings_of l.script)
          (readings_past l.at l.script) l.number l.refused
          (moment_of (scene l.fn.desk l.fn.steps sent_then files_then)) (scene l.desk l.steps sent_now files_now);
      within : l.at ≤ length l.script;
      cut : IsCharBoundary l.script l.at;
      -- each piece that was carried out takes a byte
      counted : l.number ≤ l.at;
      settings : l.desk.settings ≡ l.fn.desk.settings;
      files : IsLater files_then files_now;
      out : IsLaterSink sent_then sent_now;
      faults : sent_now.faults ≡ sent_then.faults;
      unused : ((sent : Sent) → shown sent ≡ unshown) → l.out ≡ l.fn.out;
    }

abbrev pub decreases-pieces : goal.decreases-pieces
decreases-pieces g l = length l.script - l.at

use Rattle.std.proofs.Common.{◌≡◌}
use Rattle.piece_reader.specs.declared.event.Event.TheVariants.{Stepped}
use Rattle.beas_run.proofs.AnswerFacts.{OnTheWay, probes_left}
use Rattle.beas_run.proofs.pieces.answer.Given as goal

abbrev pub invariant-probes : goal.invariant-probes
invariant-probes g l = record {
  way : OnTheWay l.fn.desk l.desk l.fn.steps l.steps;
  unread : l.files ≡ l.fn.files;
  is : l.turn ≡ Stepped 0;
}

abbrev pub decreases-probes : goal.decreases-probes
decreases-probes g l = probes_left l.desk.state

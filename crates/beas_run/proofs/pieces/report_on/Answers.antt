use Rattle.beas_run.proofs.DoneFacts.{refused_done}
use Rattle.beas_run.proofs.LeftFacts.{desk_left_alone, goes_on_refused, left_alone}
use Rattle.beas_run.proofs.SayingFacts.{event_fits, session_of_piece}
use Rattle.beas_run.proofs.pieces.report_on.Goals as goal

pub carry_out_event-requires-clause-session : goal.carry_out_event-requires-clause-session
carry_out_event-requires-clause-session g c = session_of_piece _ _ c.in-Ok.ensures.said

pub carry_out_event-requires-clause-well_formed : goal.carry_out_event-requires-clause-well_formed
carry_out_event-requires-clause-well_formed g c = event_fits _ _ c.in-Ok.ensures.said c.requires

pub returns-in-Err-Refused-clause-done : goal.returns-in-Err-Refused-clause-done
returns-in-Err-Refused-clause-done g c =
    rw c.in-Err-Refused.field-0-is (refused_done _ _ _ _ _ _ (rw c.in-Err-Refused.field-0-is at c.in-Err-Refused.ensures.found))

pub returns-in-Err-NoMemory-clause-left : goal.returns-in-Err-NoMemory-clause-left
returns-in-Err-NoMemory-clause-left g c = left_alone _ _ _ _ _

pub returns-in-Err-Refused-clause-goes_on : goal.returns-in-Err-Refused-clause-goes_on
returns-in-Err-Refused-clause-goes_on g c =
    rw c.in-Err-Refused.field-0-is (goes_on_refused _ _ _ _ _ (rw c.in-Err-Refused.field-0-is at c.in-Err-Refused.ensures.found))

pub returns-in-Err-NoMemory-clause-desk : goal.returns-in-Err-NoMemory-clause-desk
returns-in-Err-NoMemory-clause-desk g c = desk_left_alone _ _ _

use Rattle.std.proofs.Common.{refl}
use Rattle.beas_run.proofs.DoneFacts.{event_done}
use Rattle.beas_run.proofs.LeftFacts.{desk_left_said, desk_left_step, event_left_said, event_left_step, goes_on_said, named_piece}
use Rattle.beas_run.proofs.pieces.carry_out_event.Goals as goal

pub returns-else-session-eq-UNNAMED-clause-done : goal.returns-else-session-eq-UNNAMED-clause-done
returns-else-session-eq-UNNAMED-clause-done g c =
    let e = c.say.ensures in
    rw c.in-Said.is (event_done _ _ _ c.say.result _ _ _ _ _ _ (named_piece c.args.desk.now.settings c.args.desk.now.state c.in-Said.session c.in-Said.statement c.if-session-eq-UNNAMED.false) e.told.1 e.within e.did)

pub returns-else-session-eq-UNNAMED-clause-left : goal.returns-else-session-eq-UNNAMED-clause-left
returns-else-session-eq-UNNAMED-clause-left g c =
    let e = c.say.ensures in
    rw c.in-Said.is (event_left_said _ _ _ c.say.result _ _ _ _ _ _ c.if-session-eq-UNNAMED.false refl e.told.0 e.err e.at_most e.no_fewer e.loaded)

pub returns-in-Stepped-clause-done : goal.returns-in-Stepped-clause-done
returns-in-Stepped-clause-done g c =
    let e = c.step.ensures.taken in rw c.in-Stepped.is (event_done _ _ _ c.step.result _ _ _ _ _ _ refl e.told.1 e.within e.did)

pub returns-in-Stepped-clause-left : goal.returns-in-Stepped-clause-left
returns-in-Stepped-clause-left g c =
    let e = c.step.ensures.taken in
    rw c.in-Stepped.is (event_left_step _ _ c.step.result _ _ _ _ _ _ e.told.0 e.err e.at_most e.no_fewer e.loaded)

pub returns-else-session-eq-UNNAMED-clause-desk : goal.returns-else-session-eq-UNNAMED-clause-desk
returns-else-session-eq-UNNAMED-clause-desk g c =
    let e = c.say.ensures in
    rw c.in-Said.is
    (desk_left_said c.in-Said.session c.in-Said.statement c.say.result c.args.desk.now c.say.new.desk c.args.steps.now c.say.new.steps
    c.if-session-eq-UNNAMED.false e.err e.at_most)

pub returns-in-Stepped-clause-desk : goal.returns-in-Stepped-clause-desk
returns-in-Stepped-clause-desk g c =
    let e = c.step.ensures.taken in
    rw c.in-Stepped.is (desk_left_step c.in-Stepped.session c.step.result c.args.desk.now c.step.new.desk c.args.steps.now c.step.new.steps e.err e.at_most)

pub returns-else-session-eq-UNNAMED-clause-goes_on : goal.returns-else-session-eq-UNNAMED-clause-goes_on
returns-else-session-eq-UNNAMED-clause-goes_on g c =
    rw c.in-Said.is
    (goes_on_said c.in-Said.session c.in-Said.statement c.say.result c.args.desk.now c.say.new.desk c.args.steps.now c.say.new.steps
    c.if-session-eq-UNNAMED.false c.say.ensures.goes_on)

pub returns-in-Stepped-clause-goes_on : goal.returns-in-Stepped-clause-goes_on
returns-in-Stepped-clause-goes_on g c = rw c.in-Stepped.is c.step.ensures.taken.goes_on

use Rattle.std.proofs.Common.{◌∙◌, Some, inl, inr, refl, ap, sym, subst}
use Rattle.std.proofs.lemmas.Option.{slice_get_within}
use Rattle.beas_core.specs.Full.{set_union, set_difference}
use Rattle.block_walk.specs.Worlds.{world}
use Rattle.cursor_executor.specs.Operations.{IsJoined}
use Rattle.cursor_executor.proofs.CourseFacts.{joined_fetched, subtracted_course, two_stand, united_course}
use Rattle.cursor_executor.proofs.courses.carry_out.Goals as goal

pub unite_last-requires : goal.unite_last-requires
unite_last-requires g c =
    let w = world (g.P.AccessPort.rows c.args.port.now) (g.P.AccessPort.accesses c.args.port.now) in
    two_stand c.args.prepared.now c.args.course.now c.requires.course w c.requires.fits c.requires.agrees (inl (c.requires.at ∙ ap Some c.in-Unite.is))

pub subtract_last-requires : goal.subtract_last-requires
subtract_last-requires g c =
    let w = world (g.P.AccessPort.rows c.args.port.now) (g.P.AccessPort.accesses c.args.port.now) in
    two_stand c.args.prepared.now c.args.course.now c.requires.course w c.requires.fits c.requires.agrees (inr (c.requires.at ∙ ap Some c.in-Subtract.is))

pub go_on-requires : goal.go_on-requires
go_on-requires g c = slice_get_within c.args.course.now.operations c.args.course.now.position c.args.operation c.requires.at

pub go_on-requires-in-Subtract : goal.go_on-requires-in-Subtract
go_on-requires-in-Subtract g c = slice_get_within c.args.course.now.operations c.args.course.now.position c.args.operation c.requires.at

pub returns-in_ok-unite_last-in-Unite-clause-course : goal.returns-in_ok-unite_last-in-Unite-clause-course
returns-in_ok-unite_last-in-Unite-clause-course g c =
    let did = c.go_on.ensures in
    united_course c.args.prepared.now c.args.course.now c.go_on.new.course c.requires.course did.operations did.position did.finished did.walk
    (c.requires.at ∙ ap Some c.in-Unite.is)
    (subst (λ s. IsJoined set_union c.args.course.now.stack.items s.items) (sym did.stack) c.in_ok-unite_last-in-Unite.ensures)

pub returns-in_ok-unite_last-in-Unite-clause-stepped : goal.returns-in_ok-unite_last-in-Unite-clause-stepped
returns-in_ok-unite_last-in-Unite-clause-stepped g c =
    let did = c.go_on.ensures in record {
      operations = did.operations;
      next = did.position;
      same = joined_fetched c.args.prepared.now c.args.course.now c.go_on.new.course c.requires.course did.operations did.position did.finished did.walk;
      cost = refl;
    }

pub returns-in_ok-subtract_last-in-Subtract-clause-course : goal.returns-in_ok-subtract_last-in-Subtract-clause-course
returns-in_ok-subtract_last-in-Subtract-clause-course g c =
    let did = c.go_on-in-Subtract.ensures in
    subtracted_course c.args.prepared.now c.args.course.now c.go_on-in-Subtract.new.course c.requires.course did.operations did.position did.finished did.walk
    (c.requires.at ∙ ap Some c.in-Subtract.is)
    (subst (λ s. IsJoined set_difference c.args.course.now.stack.items s.items) (sym did.stack) c.in_ok-subtract_last-in-Subtract.ensures)

pub returns-in_ok-subtract_last-in-Subtract-clause-stepped : goal.returns-in_ok-subtract_last-in-Subtract-clause-stepped
returns-in_ok-subtract_last-in-Subtract-clause-stepped g c =
    let did = c.go_on-in-Subtract.ensures in record {
      operations = did.operations;
      next = did.position;
      same = joined_fetched c.args.prepared.now c.args.course.now c.go_on-in-Subtract.new.course c.requires.course did.operations did.position did.finished
          did.walk;
      cost = refl;
    }

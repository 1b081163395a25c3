use Rattle.std.proofs.Common.{None, refl}
use Rattle.cursor_executor.proofs.CourseFacts.{first_course}
use Rattle.cursor_executor.proofs.courses.course_of.Goals as goal

pub returns-clause-course : goal.returns-clause-course
returns-clause-course c =
    first_course c.args.prepared.now c.recall_bound.ensures
    (record { operations = c.in_ok-operations.operations; position = 0; stack = c.new.result; finished = c.new-2.result; walk = None })
    c.in_ok-operations.ensures refl c.new.ensures.items c.new-2.ensures refl

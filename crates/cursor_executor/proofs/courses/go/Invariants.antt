use Rattle.std.proofs.Common.{◌≡◌, ◌-◌, length}
use Rattle.cursor_executor.specs.Courses.{IsCourse, fetched_by}
use Rattle.cursor_executor.proofs.courses.go.Given as goal

abbrev pub invariant-operations : goal.invariant-operations
invariant-operations g l = record {
  course : IsCourse l.prepared l.course;
  same : fetched_by l.course ≡ fetched_by l.initial.course;
  free : l.steps ≡ l.initial.steps;
}

abbrev pub decreases-operations : goal.decreases-operations
decreases-operations g l = length l.course.operations - l.course.position

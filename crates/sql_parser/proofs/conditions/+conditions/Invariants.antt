use Rattle.std.proofs.Common.{◌≡◌, ◌+◌, ◌*◌, ◌≤◌}
use Rattle.sql_parser.specs.Reading.{after, read_conditions}
use Rattle.sql_parser.proofs.conditions.+conditions.Given as goal

abbrev pub decreases-condition : goal.decreases-condition
decreases-condition l = 2 * l.room + 1

abbrev pub decreases-some_conditions : goal.decreases-some_conditions
decreases-some_conditions l = 2 * l.room

abbrev pub invariant-some_conditions-loop-room : goal.invariant-some_conditions-loop-room
invariant-some_conditions-loop-room l = (after l.found (read_conditions l.room l.reader) ≡ after l.fn.found (read_conditions l.fn.room l.fn.reader))
    × (l.room ≤ l.fn.room)

abbrev pub decreases-some_conditions-loop-room : goal.decreases-some_conditions-loop-room
decreases-some_conditions-loop-room l = l.room

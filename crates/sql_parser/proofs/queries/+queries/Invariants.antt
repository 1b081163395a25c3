use Rattle.std.proofs.Common.{◌≡◌, ◌+◌, ◌*◌, ◌≤◌}
use Rattle.sql_parser.specs.declared.queries.Front.TheVariants.{Nothing}
use Rattle.sql_parser.specs.Reading.{read_query}
use Rattle.sql_parser.proofs.queries.+queries.Given as goal

abbrev pub decreases-term : goal.decreases-term
decreases-term l = 2 * l.room + 1

abbrev pub decreases-some_terms : goal.decreases-some_terms
decreases-some_terms l = 2 * l.room

abbrev pub invariant-some_terms-loop-room : goal.invariant-some_terms-loop-room
invariant-some_terms-loop-room l = (read_query l.room l.front l.reader ≡ read_query l.fn.room Nothing l.fn.reader) × (l.room ≤ l.fn.room)

abbrev pub decreases-some_terms-loop-room : goal.decreases-some_terms-loop-room
decreases-some_terms-loop-room l = l.room

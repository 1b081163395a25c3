use Rattle.std.proofs.Common.{◌≡◌}
use Rattle.sql_parser.specs.Reading.{after, read_commas, read_list}
use Rattle.sql_parser.proofs.parts.commas.Given as goal

abbrev pub invariant-loop-room : goal.invariant-loop-room
invariant-loop-room g l = after l.parts (read_commas g.T.Part.reads l.room l.reader) ≡ read_list g.T.Part.reads l.fn.reader

abbrev pub decreases-loop-room : goal.decreases-loop-room
decreases-loop-room g l = l.room

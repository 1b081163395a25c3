use Rattle.std.proofs.Common.{◌≡◌, length}
use Rattle.sql_parser.specs.Reading.{after_both, read_sources}
use Rattle.sql_parser.proofs.blocks.from_sources.Given as goal

abbrev pub invariant-loop-room : goal.invariant-loop-room
invariant-loop-room l = after_both (l.items, l.found) (read_sources l.room l.reader)
    ≡ after_both (l.fn.items, l.fn.found) (read_sources (length l.fn.reader) l.fn.reader)

abbrev pub decreases-loop-room : goal.decreases-loop-room
decreases-loop-room l = l.room

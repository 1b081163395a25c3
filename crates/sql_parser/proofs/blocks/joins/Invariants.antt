use Rattle.std.proofs.Common.{◌≡◌, length}
use Rattle.sql_parser.specs.Reading.{after_both, read_joins}
use Rattle.sql_parser.proofs.blocks.joins.Given as goal

abbrev pub invariant-more : goal.invariant-more
invariant-more l = after_both (l.items, l.found) (read_joins l.room l.reader)
    ≡ after_both (l.fn.items, l.fn.found) (read_joins (length l.fn.reader) l.fn.reader)

abbrev pub decreases-more : goal.decreases-more
decreases-more l = l.room

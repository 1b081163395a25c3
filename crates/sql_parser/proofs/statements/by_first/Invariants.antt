use Rattle.std.proofs.Common.{◌≡◌, drop}
use Rattle.sql_parser.specs.Reading.{read_first}
use Rattle.sql_parser.proofs.statements.by_first.Given as goal

abbrev pub invariant-loop-opening : goal.invariant-loop-opening
invariant-loop-opening l = read_first (drop l.opening-index l.openings) l.reader ≡ read_first l.fn.openings l.fn.reader

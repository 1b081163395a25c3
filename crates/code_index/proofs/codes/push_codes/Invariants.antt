use Rattle.std.proofs.Common.{◌≡◌, ◌++◌, take}
use Rattle.code_index.specs.Reading.{pick}
use Rattle.code_index.proofs.codes.push_codes.Given as goal

abbrev pub invariant-loop-column : goal.invariant-loop-column
invariant-loop-column l = l.tuple.items ≡ l.initial.tuple.items ++ pick (take l.column-index l.columns) l.row_codes

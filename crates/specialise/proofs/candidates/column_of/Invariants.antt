use Rattle.std.proofs.Common.{◌≡◌, ◌==◌, None}
use Rattle.std.specs.List.{find, range_with_len}
use Rattle.beas_core.specs.Coverage.{class_at}
use Rattle.specialise.proofs.candidates.column_of.Given as goal

abbrev pub invariant-loop-column : goal.invariant-loop-column
invariant-loop-column l = find (λ c. class_at l.block l.atom (record { 0 = c }) == l.class) (range_with_len 0 l.column) ≡ None

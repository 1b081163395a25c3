use Rattle.std.proofs.Common.{◌≡◌, None, not}
use Rattle.std.specs.List.{find, range_with_len}
use Rattle.beas_core.specs.Coverage.{is_served}
use Rattle.attribute_closure.proofs.reasons.unserved_atom.Given as goal

abbrev pub invariant-loop-number : goal.invariant-loop-number
invariant-loop-number l = find (λ atom. not (is_served l.block l.accesses l.set atom)) (range_with_len 0 l.number) ≡ None

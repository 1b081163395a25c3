use Rattle.std.proofs.Common.{◌≡◌, ◌-◌, drop, length}
use Rattle.std.specs.Str.{bytes_eq}
use Rattle.beas_core.proofs.same_text.same_bytes.Given as goal

abbrev pub decreases-loop-at : goal.decreases-loop-at
decreases-loop-at l = length l.text - l.at

abbrev pub invariant-loop-at : goal.invariant-loop-at
invariant-loop-at l = bytes_eq (drop l.at l.text) (drop l.at l.found) ≡ bytes_eq l.text l.found

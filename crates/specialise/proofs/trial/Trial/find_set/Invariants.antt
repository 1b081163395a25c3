use Rattle.std.proofs.Common.{◌≡◌, None}
use Rattle.std.specs.List.{find}
use Rattle.specialise.specs.Specialised.{is_covered_with}
use Rattle.specialise.proofs.Tried.{all_to}
use Rattle.specialise.proofs.trial.Trial.find_set.Given as goal

-- no smaller set makes the block covered
abbrev pub invariant-loop-size : goal.invariant-loop-size
invariant-loop-size l =
    find (is_covered_with l.self.accesses.now l.self.block.now) (all_to l.self.accesses.now l.self.block.now l.size) ≡ None

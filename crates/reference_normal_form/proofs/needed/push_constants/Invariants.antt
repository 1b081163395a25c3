use Rattle.std.proofs.Common.{◌≡◌, ◌++◌, map, take}
use Rattle.reference_normal_form.proofs.needed.push_constants.Given as goal

abbrev pub invariant-loop-constant : goal.invariant-loop-constant
invariant-loop-constant l = l.places ≡ l.initial.places ++ map (λ c. c.0) (take l.constant-index l.constants)

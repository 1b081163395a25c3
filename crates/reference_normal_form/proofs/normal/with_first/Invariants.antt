use Rattle.std.proofs.Common.{◌≡◌, ◌∷◌, take}
use Rattle.reference_normal_form.proofs.normal.with_first.Given as goal

abbrev pub invariant-loop-place : goal.invariant-loop-place
invariant-loop-place l = l.all ≡ l.fn.first ∷ take l.place-index l.rest

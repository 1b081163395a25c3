use Rattle.std.proofs.Common.{◌≡◌, not, take}
use Rattle.std.specs.List.{filter}
use Rattle.reference_normal_form.specs.Joined.{has_place}
use Rattle.reference_normal_form.proofs.normal.missing_from.Given as goal

abbrev pub invariant-loop-place : goal.invariant-loop-place
invariant-loop-place l = l.missing ≡ filter (λ q. not (has_place l.others q)) (take l.place-index l.places)

use Rattle.std.proofs.Common.{◌≡◌, map}
use Rattle.std.specs.List.{range_with_len}
use Rattle.reference_normal_form.proofs.places.places_on.Given as goal

abbrev pub invariant-loop-column : goal.invariant-loop-column
invariant-loop-column l = l.places ≡ map (λ c. record { atom = l.atom; column = record { 0 = c } }) (range_with_len 0 l.column)

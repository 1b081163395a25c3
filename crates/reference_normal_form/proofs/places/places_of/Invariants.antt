use Rattle.std.proofs.Common.{◌≡◌, map, take}
use Rattle.std.specs.List.{flat_map, enumerate_from, range_with_len}
use Rattle.reference_normal_form.proofs.places.places_of.Given as goal

abbrev pub invariant-loop-number : goal.invariant-loop-number
invariant-loop-number l = l.places ≡ flat_map (λ a. map (λ c. record { atom = a.0; column = record { 0 = c } }) (range_with_len 0 a.1.width))
    (take l.number (enumerate_from 0 l.atoms))

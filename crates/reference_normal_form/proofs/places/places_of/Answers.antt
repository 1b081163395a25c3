use Rattle.std.proofs.Common.{◌∙◌, map, refl}
use Rattle.std.specs.List.{range_with_len}
use Rattle.beas_core.specs.declared.query.Place.{Place}
use Rattle.reference_normal_form.proofs.ListSteps.{numbered_more, numbered_end}
use Rattle.reference_normal_form.proofs.places.places_of.Goals as goal

pub loop-number-preserved : goal.loop-number-preserved
loop-number-preserved c =
    numbered_more {B = Place} (λ a. map (λ c'. record { atom = a.0; column = record { 0 = c' } }) (range_with_len 0 a.1.width))
    c.args.atoms.now c.args.atoms.now refl c.loop-number.number (record { table = record { 0 = 0 }; width = 0 }) _ _ _
    c.loop-number-test.true c.loop-number.invariant c.in_ok-append.ensures (c.as_slice.ensures ∙ c.in_ok-more.ensures)

pub returns : goal.returns
returns c =
    numbered_end {B = Place} (λ a. map (λ c'. record { atom = a.0; column = record { 0 = c' } }) (range_with_len 0 a.1.width))
    c.args.atoms.now c.args.atoms.now refl c.loop-number.number _ c.loop-number-test.false c.loop-number.invariant

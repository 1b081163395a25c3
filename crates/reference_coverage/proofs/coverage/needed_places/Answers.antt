use Rattle.std.proofs.Common.{◌∙◌, ap, map}
use Rattle.beas_core.specs.declared.query.Place.{Place}
use Rattle.reference_normal_form.proofs.ListSteps.{numbered_more, numbered_end}
use Rattle.reference_coverage.proofs.coverage.needed_places.Goals as goal

pub loop-atom-preserved : goal.loop-atom-preserved
loop-atom-preserved c =
    numbered_more {B = Place} (λ n. map (λ c'. record { atom = n.0; column = c' }) n.1)
    c.args.normal.now.needed c.as_slice-columns-items.result.now c.as_slice-columns-items.ensures c.loop-atom.atom
    c.columns-item.result _ _ _ c.loop-atom-test.true c.loop-atom.invariant c.in_ok-push_places.ensures
    (ap (λ cs. map (λ c'. record { atom = c.loop-atom.atom; column = c' }) cs) (c.as_slice.ensures ∙ c.columns-item.is))

pub returns : goal.returns
returns c =
    numbered_end {B = Place} (λ n. map (λ c'. record { atom = n.0; column = c' }) n.1)
    c.args.normal.now.needed c.as_slice-columns-items.result.now c.as_slice-columns-items.ensures c.loop-atom.atom _ c.loop-atom-test.false
    c.loop-atom.invariant

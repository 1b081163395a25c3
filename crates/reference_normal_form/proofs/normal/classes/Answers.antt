use Rattle.std.proofs.Common.{map}
use Rattle.std.specs.List.{range_with_len}
use Rattle.beas_core.specs.Classes.{class_of}
use Rattle.reference_normal_form.proofs.ListSteps.{mapped_more, mapped_end}
use Rattle.reference_normal_form.proofs.normal.classes.Goals as goal

pub loop-number-preserved : goal.loop-number-preserved
loop-number-preserved c =
    mapped_more (λ a. map (λ c'. class_of c.args.block.now (record { atom = a.0; column = record { 0 = c' } })) (range_with_len 0 a.1.width))
    c.args.block.now.atoms c.as_slice-atom-items.result.now c.as_slice-atom-items.ensures c.loop-number.number (record { table = record { 0 = 0 }; width = 0 })
    _ _ _
    c.loop-number-test.true c.loop-number.invariant c.in_ok-push.ensures.ok c.in_ok-classes_of_atom.ensures

pub returns : goal.returns
returns c =
    mapped_end (λ a. map (λ c'. class_of c.args.block.now (record { atom = a.0; column = record { 0 = c' } })) (range_with_len 0 a.1.width))
    c.args.block.now.atoms c.as_slice-atom-items.result.now c.as_slice-atom-items.ensures c.loop-number.number _ c.loop-number-test.false
    c.loop-number.invariant

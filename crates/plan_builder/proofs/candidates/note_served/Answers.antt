use Rattle.std.proofs.Common.{◌∙◌, Bool, true, List, cond, get_or, map, ap, refl, sym}
use Rattle.std.specs.List.{slice_set}
use Rattle.beas_core.specs.Coverage.{holds_needed}
use Rattle.beas_core.specs.Types.{Use}
use Rattle.attribute_closure.specs.Uses.{as_use, use_at}
use Rattle.plan_builder.proofs.CandidateFacts.{seen_is, served_step}
use Rattle.plan_builder.proofs.candidates.note_served.Goals as goal

pub loop-number-preserved : goal.loop-number-preserved
loop-number-preserved c =
    let us = map as_use c.args.uses.now in
    let i = c.loop-number.number-index in
    let number = get_or c.args.numbers.now i 0 in
    let found = seen_is c.args.uses.now number c.index-uses-number.result (c.requires i 0 c.loop-number-test.true) c.index-uses-number.is in
    c.note_atom.ensures
    ∙ ap (λ (u : Use). cond (holds_needed c.args.block.now u) (slice_set c.loop-number.served u.atom true) c.loop-number.served) found
    ∙ ap (λ (s : List Bool). cond (holds_needed c.args.block.now (use_at us number)) (slice_set s (use_at us number).atom true) s) c.loop-number.invariant
    ∙ sym (served_step c.args.block.now us c.args.served.now c.args.numbers.now i number c.loop-number-test.true refl)

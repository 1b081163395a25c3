use Rattle.std.proofs.Common.{◌++◌, ◌∷◌, ◌∙◌, ap, map, sym, take}
use Rattle.std.specs.List.{flat_map}
use Rattle.reference_evaluation.proofs.ListSteps.{flat_map_step}
use Rattle.reference_evaluation.proofs.full.choose.Goals as goal

pub loop-row-preserved : goal.loop-row-preserved
loop-row-preserved c =
    c.in_ok-add_choices.ensures
    ∙ ap (λ all. all ++ map (λ other. c.row-item.result ∷ other) c.args.others.now) c.loop-row.invariant
    ∙ ap (λ row. flat_map (λ r. map (λ other. r ∷ other) c.args.others.now) (take c.loop-row.row-index c.args.rows.now) ++ map (λ other. row ∷ other)
    c.args.others.now) c.row-item.is
    ∙ sym (flat_map_step (λ r. map (λ other. r ∷ other) c.args.others.now) c.args.rows.now c.loop-row.row-index c.row-item.result c.loop-row-test.true)

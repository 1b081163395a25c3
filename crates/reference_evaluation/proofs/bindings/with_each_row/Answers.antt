use Rattle.std.proofs.Common.{◌++◌, ◌∙◌, ap, map, sym, take}
use Rattle.std.specs.List.{flat_map}
use Rattle.reference_evaluation.proofs.ListSteps.{flat_map_step}
use Rattle.reference_evaluation.proofs.bindings.with_each_row.Goals as goal

pub loop-way-preserved : goal.loop-way-preserved
loop-way-preserved c =
    c.in_ok-push_ways.ensures
    ∙ ap (λ all. all ++ map (λ row. c.way-item.result ++ row) c.args.fetched.now) c.loop-way.invariant
    ∙ ap (λ way. flat_map (λ w. map (λ row. w ++ row) c.args.fetched.now) (take c.loop-way.way-index c.args.found.now) ++ map (λ row. way ++ row)
    c.args.fetched.now) c.way-item.is
    ∙ sym (flat_map_step (λ w. map (λ row. w ++ row) c.args.fetched.now) c.args.found.now c.loop-way.way-index c.way-item.result c.loop-way-test.true)

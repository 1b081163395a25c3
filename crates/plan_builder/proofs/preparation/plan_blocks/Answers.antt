use Rattle.std.proofs.Common.{◌<◌, ◌+◌, ◌∙◌, ◌++◌, ◌∷◌, [], length, map, take, ap, subst, sym}
use Rattle.std.proofs.lemmas.List.{get_or-map, length-map, map_more}
use Rattle.std.proofs.lemmas.Result.{err_from_is_err_and}
use Rattle.beas_core.specs.Classes.{normal_of}
use Rattle.beas_core.specs.Guiding.{is_guided_task, task_reason, task_steps}
use Rattle.beas_core.specs.Shapes.{BlockIsWellFormed}
use Rattle.catalogue.specs.Queries.{BlockIsOver}
use Rattle.plan_builder.specs.Parts.{blocks_at, task_at}
use Rattle.plan_builder.specs.Preparation.{not_covered}
use Rattle.plan_builder.proofs.PreparationFacts.{covered_next, lent_all, lent_below, lent_is, none_mapped, refused_here}
use Rattle.plan_builder.proofs.preparation.plan_blocks.Goals as goal

pub plan_next-requires-clause-shape : goal.plan_next-requires-clause-shape
plan_next-requires-clause-shape c =
    lent_all c.args.blocks.now c.loop-place.place c.index-blocks-place.result c.loop-place-test.true c.index-blocks-place.is BlockIsWellFormed
    c.requires.shapes

pub plan_next-requires-clause-over : goal.plan_next-requires-clause-over
plan_next-requires-clause-over c =
    lent_all c.args.blocks.now c.loop-place.place c.index-blocks-place.result c.loop-place-test.true c.index-blocks-place.is
    (BlockIsOver c.args.catalogue.now) c.requires.over

pub returns-in_err-plan_next-clause-refused : goal.returns-in_err-plan_next-clause-refused
returns-in_err-plan_next-clause-refused c =
    let p = err_from_is_err_and c.from_residual-in_err-plan_next.result c.from_residual-in_err-plan_next.ensures.1 in
    rw (p.1, p.2) (refused_here c.args.catalogue.now.accesses c.args.blocks.now c.args.catalogue.now (Unit {0}) (Unit {0}) _ c.loop-place.place c.index-blocks-place.result
    c.loop-place.invariant.covered c.loop-place-test.true c.index-blocks-place.is c.in_err-plan_next.ensures.refused)

pub loop-place-preserved : goal.loop-place-preserved
loop-place-preserved c =
    let i = c.loop-place.place in
    let lent = c.args.blocks.now in
    let at = c.index-blocks-place.result in
    let schema = c.args.catalogue.now in
    let tasks = map (task_at schema.accesses) lent in
    let below = lent_below lent i at c.loop-place-test.true c.index-blocks-place.is in
    let is = lent_is lent i at c.loop-place-test.true c.index-blocks-place.is in
    let own = c.in_ok-plan_next.ensures in
    let below_tasks : i < length tasks = subst (λ n. i < n) (sym (length-map lent (task_at schema.accesses))) c.loop-place-test.true in
    let task_is = ap (task_at schema.accesses) c.index-blocks-place.is
    ∙ sym (get_or-map (task_at schema.accesses) lent i at (task_at schema.accesses at) c.loop-place-test.true) in
    record {
      normals = own.normals ∙ ap (λ ns. ns ++ normal_of at.block.now ∷ []) c.loop-place.invariant.normals
          ∙ ap (λ n. map normal_of (take i (blocks_at lent)) ++ n ∷ []) (ap normal_of is)
          ∙ sym (map_more normal_of (blocks_at lent) i at.block.now below);
      guided = own.guided ∙ ap (λ gs. gs ++ is_guided_task (task_at schema.accesses at) ∷ []) c.loop-place.invariant.guided
          ∙ ap (λ g. map is_guided_task (take i tasks) ++ g ∷ []) (ap is_guided_task task_is)
          ∙ sym (map_more is_guided_task tasks i (task_at schema.accesses at) below_tasks);
      derivations = own.derivations
          ∙ ap (λ xs. xs ++ task_steps (task_at schema.accesses at) ∷ []) c.loop-place.invariant.derivations
          ∙ ap (λ o. map task_steps (take i tasks) ++ o ∷ []) (ap task_steps task_is)
          ∙ sym (map_more task_steps tasks i (task_at schema.accesses at) below_tasks);
      covered = c.loop-place.invariant.covered
          ∙ covered_next schema.accesses lent i at c.loop-place-test.true c.index-blocks-place.is
          (none_mapped (not_covered schema (i + 1) at.block.now) (task_reason (task_at schema.accesses at)) own.refused);
    }

pub plan_next-requires-clause-ids : goal.plan_next-requires-clause-ids
plan_next-requires-clause-ids c =
    rw c.index-blocks-place.is (c.requires.ids c.loop-place.place c.index-blocks-place.result c.loop-place-test.true)

use Rattle.std.proofs.Common.{◌≡◌, [], ◌∷◌, ◌++◌, ◌∙◌, ap, false, get_or, length, map, sym}
use Rattle.beas_core.specs.Classes.{normal_of}
use Rattle.beas_core.specs.Guiding.{block_tasks, tasks_from}
use Rattle.beas_core.specs.Nodes.{query_tree}
use Rattle.beas_core.specs.Trees.{Single, blocks_of}
use Rattle.plan_builder.specs.Parts.{blocks_at, normal_task, task_at}
use Rattle.plan_builder.specs.Preparation.{constraints_with}
use Rattle.plan_builder.proofs.preparation.parts_of.Goals as goal

pub parts_with-requires-clause-blocks : goal.parts_with-requires-clause-blocks
parts_with-requires-clause-blocks c =
    let whole : c.args.query.now ≡ Single c.in-Block.block = sym c.query.view_is ∙ ap query_tree c.in-Block.is in
    ap (λ b. b ∷ []) c.lend.ensures.block ∙ ap blocks_of (sym whole)

pub parts_with-requires-clause-tasks : goal.parts_with-requires-clause-tasks
parts_with-requires-clause-tasks c = λ a.
    let extra = c.args.extra.now in
    let normal = normal_of c.in-Block.block in
    let whole : c.args.query.now ≡ Single c.in-Block.block = sym c.query.view_is ∙ ap query_tree c.in-Block.is in
    ap (λ b. normal_task (normal_of b) (a ++ c.lend.result.extra.now) c.lend.result.has_guide ∷ []) c.lend.ensures.block
    ∙ ap (λ more. normal_task normal (a ++ more) c.lend.result.has_guide ∷ []) c.lend.ensures.extra
    ∙ ap (λ has. normal_task normal (a ++ get_or extra 0 []) has ∷ []) c.lend.ensures.has_guide
    ∙ ap (block_tasks (constraints_with a extra)) (sym whole)

pub parts_with-requires-2 : goal.parts_with-requires-2
parts_with-requires-2 c =
    let none = c.from_vec-found.ensures ∙ c.in_ok-with_capacity.ensures.items in
    record {
      well_formed = c.requires.well_formed;
      over = c.requires.over;
      few = c.requires.few;
      blocks = ap blocks_at c.as_slice.ensures ∙ c.in_ok-push_blocks.ensures.blocks ∙ ap (λ xs. blocks_at xs ++ blocks_of c.args.query.now) none;
      tasks = λ a. ap (map (task_at a)) c.as_slice.ensures ∙ c.in_ok-push_blocks.ensures.tasks a
          ∙ ap (λ xs. map (task_at a) xs ++ tasks_from (constraints_with a c.args.extra.now) (length xs) false c.args.query.now) none;
      ids = c.requires.ids;
      extra = c.requires.extra;
    }

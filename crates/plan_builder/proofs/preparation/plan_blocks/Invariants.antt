use Rattle.std.proofs.Common.{◌≡◌, Some, map, take}
use Rattle.beas_core.specs.Classes.{normal_of}
use Rattle.beas_core.specs.Guiding.{is_guided_task, task_steps}
use Rattle.plan_builder.specs.Parts.{blocks_at, task_at}
use Rattle.plan_builder.proofs.PreparationFacts.{uncovered_from}
use Rattle.plan_builder.proofs.preparation.plan_blocks.Given as goal

abbrev pub invariant-loop-place : goal.invariant-loop-place
invariant-loop-place l = record {
  normals : l.plans.normals ≡ map normal_of (take l.place (blocks_at l.blocks));
  guided : l.plans.guided ≡ map is_guided_task (take l.place (map (task_at l.catalogue.accesses) l.blocks));
  derivations : map (λ d. Some d.steps) l.plans.derivations ≡ map task_steps (take l.place (map (task_at l.catalogue.accesses) l.blocks));
  covered : uncovered_from l.catalogue.accesses l.blocks 0 ≡ uncovered_from l.catalogue.accesses l.blocks l.place;
}

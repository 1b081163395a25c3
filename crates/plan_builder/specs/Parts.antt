-- A query with what is announced of it.
--     whole query parts                 so it is prepared
--     blocks_at bs, task_at accesses b  blocks that are lent, each with its further constraints and whether it has a guide, and the task of one
--     unless_too_large number           a number that is announced, or refused where it passes 2^128 - 1
--     Grows accesses plan               it has a step, and each of its constraints a bound of at least 1
--     block_reads, block_size           what is announced of the block with a number, where its guide has at most so many rows
use Rattle.std.specs.Prelude.{◌≤◌, ◌++◌, ◌^◌, if◌then◌else◌, nat_le, Bool, ℕ, List, length, map, All, Result, Ok, Err}
use Rattle.beas_core.specs.declared.schema.Access.{Access}
use Rattle.beas_core.specs.declared.query.Block.{Block}
use Rattle.beas_core.specs.declared.plan.Derivation.{Derivation}
use Rattle.beas_core.specs.declared.plan.Normal.{Normal}
use Rattle.beas_core.specs.declared.plan.Prepared.{Prepared}
use Rattle.beas_core.specs.declared.refusal.Refusal.{Refusal}
use Rattle.beas_core.specs.declared.refusal.Refusal.TheVariants.{TooLarge}
use Rattle.beas_core.specs.Trees.{QueryTree}
use Rattle.beas_core.specs.Classes.{normal_of}
use Rattle.beas_core.specs.Derivations.{access_in}
use Rattle.beas_core.specs.Guiding.{BlockTask}
use Rattle.beas_core.specs.Numbers.{announced_from, last_size}
use Rattle.beas_core.specs.Queries.{plan_of, start_size}
use Rattle.plan_builder.specs.declared.blocks.BlockAt.{BlockAt}
use Rattle.plan_builder.specs.declared.preparation.Parts.{Parts}
use Rattle.plan_builder.specs.declared.preparation.Plans.{Plans}

abbrev pub whole : QueryTree → Parts → Prepared
whole query parts = record {
  query = query;
  header = parts.header;
  normals = parts.plans.normals;
  derivations = parts.plans.derivations;
  bound = parts.bound;
  guided = parts.plans.guided;
}

abbrev pub blocks_at : List BlockAt → List Block
blocks_at bs = map (λ b. b.block.now) bs

abbrev pub normal_task : Normal → List Access → Bool → BlockTask
normal_task normal accesses has = record { normal = normal; accesses = accesses; has_guide = has }

abbrev pub task_at : List Access → BlockAt → BlockTask
task_at accesses b = normal_task (normal_of b.block.now) (accesses ++ b.extra.now) b.has_guide

pub record Grows (accesses : List Access) (plan : Derivation) : Type 0 where
  pub some_step : 1 ≤ length plan.steps
  pub bounds : All (λ s. 1 ≤ (access_in accesses s.access).bound) plan.steps

abbrev pub block_reads : List Access → Plans → ℕ → ℕ → ℕ
block_reads accesses plans n b = announced_from accesses (start_size plans.guided n b) (plan_of plans.derivations n).steps

abbrev pub block_size : List Access → Plans → ℕ → ℕ → ℕ
block_size accesses plans n b = last_size accesses (start_size plans.guided n b) (plan_of plans.derivations n).steps

abbrev pub unless_too_large : ℕ → Result ℕ Refusal
unless_too_large number = if nat_le (2 ^ 128) number then Err TooLarge else Ok number

-- Which blocks of a query are guided, and which are covered. A EXCEPT B is A without what B shares with A, so that the answers of A may
-- guide the fetches of B: going up from a block, the left side of the first EXCEPT in whose right side it stands is its guide. Blocks are
-- numbered from left to right from 0 on.
--     has_guides has t                     of each block whether it has a guide, where `has` says it of the whole tree
--     BlockTask                            a block to be planned: its normal form, the constraints that it may use, and whether it has a guide
--     block_tasks constraints t            the blocks of a query as tasks; `constraints n` are those that block n may use
--     is_guided_task task                  the block has a guide, and isn't covered by itself: it starts from its guide's answers
--     task_start, task_reason, task_steps  the classes that are bound before its first step, why it isn't covered from there, its derivation
--     first_uncovered tasks                the first block that isn't covered, with its reason
use Rattle.std.specs.Prelude.{◌&&◌, ◌+◌, Bool, true, false, not, ℕ, List, [], ◌∷◌, ◌++◌, length, Option, None, option_map}
use Rattle.std.specs.Option.{option_or}
use Rattle.beas_core.specs.declared.schema.Access.{Access}
use Rattle.beas_core.specs.declared.plan.DStep.{DStep}
use Rattle.beas_core.specs.declared.plan.Normal.{Normal}
use Rattle.beas_core.specs.declared.plan.NotCovered.{NotCovered}
use Rattle.beas_core.specs.Types.{ClassSet}
use Rattle.beas_core.specs.Trees.{QueryTree, Single, Either, Minus, blocks_of}
use Rattle.beas_core.specs.Classes.{normal_of}
use Rattle.beas_core.specs.Coverage.{start_classes, covered_set, reason, own_is_covered}
use Rattle.beas_core.specs.Pruning.{derivation}

-- the number of the first block after a tree whose first block has number n
abbrev pub after : ℕ → QueryTree → ℕ
after n t = n + length (blocks_of t)

abbrev pub has_guides : Bool → QueryTree → List Bool
has_guides has (Single block) = has ∷ []
has_guides has (Either l r) = has_guides has l ++ has_guides has r
has_guides has (Minus l r) = has_guides has l ++ has_guides true r

pub record BlockTask : Type 0 where
  pub normal : Normal
  pub accesses : List Access
  pub has_guide : Bool

abbrev pub tasks_from : (ℕ → List Access) → ℕ → Bool → QueryTree → List BlockTask
tasks_from constraints n has (Single block) = record { normal = normal_of block; accesses = constraints n; has_guide = has } ∷ []
tasks_from constraints n has (Either l r) = tasks_from constraints n has l ++ tasks_from constraints (after n l) has r
tasks_from constraints n has (Minus l r) = tasks_from constraints n has l ++ tasks_from constraints (after n l) true r

-- a query as a whole has no guide
abbrev pub block_tasks : (ℕ → List Access) → QueryTree → List BlockTask
block_tasks constraints t = tasks_from constraints 0 false t

abbrev pub is_guided_task : BlockTask → Bool
is_guided_task task = task.has_guide && not (own_is_covered task.normal task.accesses)

abbrev pub task_start : BlockTask → ClassSet
task_start task = start_classes task.normal (is_guided_task task)

abbrev pub task_reason : BlockTask → Option NotCovered
task_reason task = reason task.normal task.accesses (covered_set task.normal task.accesses (task_start task))

abbrev pub task_steps : BlockTask → Option (List DStep)
task_steps task = derivation task.normal task.accesses (task_start task)

-- a block that isn't covered, by its number
pub record Uncovered : Type 0 where
  pub block : ℕ
  pub why : NotCovered

abbrev pub first_uncovered_from : ℕ → List BlockTask → Option Uncovered
first_uncovered_from n [] = None
first_uncovered_from n (task ∷ tasks) =
    option_or (option_map (λ why. record { block = n; why = why }) (task_reason task)) (first_uncovered_from (n + 1) tasks)

abbrev pub first_uncovered : List BlockTask → Option Uncovered
first_uncovered tasks = first_uncovered_from 0 tasks

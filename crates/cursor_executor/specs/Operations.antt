-- A query as a list of operations over a stack of answers, whose top is its last entry. A guided block's guide stands in the stack at a
-- known place, counted from 0 at the bottom.
--     operations_in guided n depth guide t    the operations of a tree: n is the number of its first block, so many answers stand when it
--                                             begins, and its guide at this place, if it has one
--     guide_at stack guide                    the guide that stands there
--     Runs w prepared n operations stack probes rows
--                                             in this world the operations, from block n and this stack on, make these probes and leave these rows
use Rattle.std.specs.Prelude.{◌≡◌, ◌+◌, ◌<◌, if◌then◌else◌, Bool, ℕ, List, [], ◌∷◌, ◌++◌, length, map, slice_get, slice_index_or, Option, Some, None}
use Rattle.beas_core.specs.declared.plan.Normal.{Normal}
use Rattle.beas_core.specs.declared.plan.Prepared.{Prepared}
use Rattle.beas_core.specs.Types.{Row, Guide}
use Rattle.beas_core.specs.Order.{row_cmp}
use Rattle.beas_core.specs.Sets.{IsInOrder}
use Rattle.beas_core.specs.Full.{set_union, set_difference}
use Rattle.beas_core.specs.Trees.{QueryTree, Single, Either, Minus}
use Rattle.beas_core.specs.Coverage.{ClassesInRange, ConstantsInRange}
use Rattle.beas_core.specs.Guiding.{after}
use Rattle.beas_core.specs.Queries.{BlockProbe, is_guided}
use Rattle.beas_core.specs.Valuations.{answers_of}
use Rattle.beas_core.specs.Guides.{GuideFits}
use Rattle.block_walk.specs.Worlds.{World}
use Rattle.block_walk.specs.Routes.{Route, route, IsSoundIn, all_probes}
use Rattle.cursor_executor.specs.declared.operations.Operation.{Operation}
use Rattle.cursor_executor.specs.declared.operations.Operation.TheVariants.{Block, Unite, Subtract}
use Rattle.cursor_executor.specs.Fetching.{steps_of}

abbrev pub operations_in : List Bool → ℕ → ℕ → Option ℕ → QueryTree → List Operation
operations_in guided n depth guide (Single block) = Block (if is_guided guided n then guide else None) ∷ []
operations_in guided n depth guide (Either l r) =
    operations_in guided n depth guide l ++ (operations_in guided (after n l) (depth + 1) guide r ++ Unite ∷ [])
operations_in guided n depth guide (Minus l r) =
    operations_in guided n depth guide l ++ (operations_in guided (after n l) (depth + 1) (Some depth) r ++ Subtract ∷ [])

abbrev pub guide_at : List (List Row) → Option ℕ → Guide
guide_at stack None = None
guide_at stack (Some place) = slice_get stack place

-- ---- a block by its number

abbrev pub normal_at : Prepared → ℕ → Normal
normal_at prepared n = slice_index_or prepared.normals n
    (record { atoms = []; classes = []; count = 0; constants = []; needed = []; comparisons = []; output = [] })

abbrev pub route_at : Prepared → ℕ → Guide → Route
route_at prepared n guide = route (normal_at prepared n) guide (steps_of prepared n)

abbrev pub block_probes : World → Prepared → ℕ → Guide → List BlockProbe
block_probes w prepared n guide = map (λ p. record { block = n; probe = p }) (all_probes w (route_at prepared n guide))

abbrev pub block_rows : World → Prepared → ℕ → Guide → List Row
block_rows w prepared n guide = answers_of w.rows (normal_at prepared n) w.accesses guide (steps_of prepared n)

-- what a walk of the block asks for
pub record BlockFits (w : World) (prepared : Prepared) (n : ℕ) (guide : Guide) : Type 0 where
  pub normal : n < length prepared.normals
  pub plan : n < length prepared.derivations
  pub classes : ClassesInRange (normal_at prepared n)
  pub constants : ConstantsInRange (normal_at prepared n)
  pub fits : GuideFits (normal_at prepared n) guide
  pub sound : IsSoundIn w (route_at prepared n guide)

-- ---- what operations do

-- the last two answers of a stack, each in order
pub record LastTwo (stack : List (List Row)) : Type 0 where
  pub below : List (List Row)
  pub left : List Row
  pub right : List Row
  pub stands : stack ≡ (below ++ left ∷ []) ++ right ∷ []
  pub left_in_order : IsInOrder row_cmp left
  pub right_in_order : IsInOrder row_cmp right

-- the last two answers are joined to one
abbrev pub IsJoined : (List Row → List Row → List Row) → List (List Row) → List (List Row) → Type 0
IsJoined join old new = (two : LastTwo old) → new ≡ two.below ++ join two.left two.right ∷ []

abbrev pub Runs : World → Prepared → ℕ → List Operation → List (List Row) → List BlockProbe → List Row → Type 0
Runs w prepared n [] stack probes rows = (stack ≡ rows ∷ []) × (probes ≡ [])
Runs w prepared n (Block guide ∷ operations) stack probes rows =
    BlockFits w prepared n (guide_at stack guide)
    × ((later : List BlockProbe) × ((probes ≡ block_probes w prepared n (guide_at stack guide) ++ later)
    × Runs w prepared (n + 1) operations (stack ++ block_rows w prepared n (guide_at stack guide) ∷ []) later rows))
Runs w prepared n (Unite ∷ operations) stack probes rows =
    (two : LastTwo stack) × Runs w prepared n operations (two.below ++ set_union two.left two.right ∷ []) probes rows
Runs w prepared n (Subtract ∷ operations) stack probes rows =
    (two : LastTwo stack) × Runs w prepared n operations (two.below ++ set_difference two.left two.right ∷ []) probes rows

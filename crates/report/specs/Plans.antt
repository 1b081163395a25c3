-- The plan lines of a prepared query, as bytes.
--     blocks_text schema accesses guided plans n guide b t   for each block of a tree its line and those of its steps, where `guide` says
--                                                            how the tree's guide is made, and it has at most b answers
--     answer_text b t                                        how blocks from number b on make the answer
--     plan_lines schema accesses prepared                    both, over a list of constraints
--     plan_text schema prepared                              over the live ones
--     plan_text_over schema scans prepared                   where whole tables are scanned first: a line for each, and then both, over the
--                                                            live constraints and the scans
use Rattle.std.specs.Prelude.{◌+◌, ◌*◌, ◌<◌, ◌≤◌, ◌^◌, if◌then◌else◌, Bool, ℕ, List, [], ◌∷◌, ◌++◌, length, codes, decimal, All, IsTrue}
use Rattle.std.specs.List.{flat_map}
use Rattle.beas_core.specs.declared.schema.Access.{Access}
use Rattle.beas_core.specs.declared.plan.DStep.{DStep}
use Rattle.beas_core.specs.declared.plan.Derivation.{Derivation}
use Rattle.beas_core.specs.declared.plan.Prepared.{Prepared}
use Rattle.beas_core.specs.Derivations.{access_in, is_live}
use Rattle.beas_core.specs.Numbers.{announced_from, size_after}
use Rattle.beas_core.specs.Trees.{QueryTree, Single, Either, Minus, blocks_of}
use Rattle.beas_core.specs.Guiding.{after}
use Rattle.beas_core.specs.Queries.{is_guided, plan_of, start_size, size_of}
use Rattle.beas_core.specs.Texts.{concatenation}
use Rattle.catalogue.specs.Schema.{Schema, table_at}

abbrev pub verb : Bool → List ℕ
verb adds = if adds then codes "adds" else codes "checks"

-- a use of an access constraint: its table is the atom's
abbrev pub use_text : Schema → Access → Bool → List ℕ
use_text schema access adds = concatenation (
    codes " " ∷ (table_at schema access.table).name ∷ codes " by " ∷ access.name
    ∷ codes " limit " ∷ decimal access.bound ∷ codes " " ∷ verb adds ∷ [])

-- step j of block b, which uses a constraint on an atom, with its cost, and how many valuations it leaves at most
unfoldable pub step_text : ℕ → ℕ → ℕ → List ℕ → ℕ → ℕ → List ℕ
step_text b j atom used cost size = concatenation (
    codes "plan " ∷ decimal b ∷ codes "." ∷ decimal j ∷ codes " atom " ∷ decimal atom ∷ used
    ∷ codes " cost " ∷ decimal cost ∷ codes " size " ∷ decimal size ∷ codes "\n" ∷ [])

-- where so many valuations stand before it at most
abbrev pub step_line : Schema → List Access → ℕ → ℕ → ℕ → DStep → List ℕ
step_line schema accesses b j size s =
    step_text b j (s.atom + 1) (use_text schema (access_in accesses s.access) s.adds)
    (size * (access_in accesses s.access).bound) (size_after accesses size s)

abbrev pub steps_text : Schema → List Access → ℕ → ℕ → ℕ → List DStep → List ℕ
steps_text schema accesses b j size [] = []
steps_text schema accesses b j size (s ∷ steps) =
    step_line schema accesses b j size s ++ steps_text schema accesses b (j + 1) (size_after accesses size s) steps

-- what the line of a block says of its guide, where it is guided: how the guide is made, and how many answers it has at most
abbrev pub guide_text : Bool → List ℕ → ℕ → List ℕ
guide_text guided guide size = if guided then concatenation (codes " guided by " ∷ guide ∷ codes " size " ∷ decimal size ∷ []) else []

unfoldable pub block_line : ℕ → List ℕ → List ℕ
block_line b guide = concatenation (codes "plan block " ∷ decimal b ∷ guide ∷ codes "\n" ∷ [])

-- how blocks from number b on make the answer
abbrev pub answer_text : ℕ → QueryTree → List ℕ
answer_text b (Single block) = decimal b
answer_text b (Either left right) =
    concatenation (codes "(" ∷ answer_text b left ∷ codes " union " ∷ answer_text (b + length (blocks_of left)) right ∷ codes ")" ∷ [])
answer_text b (Minus left right) =
    concatenation (codes "(" ∷ answer_text b left ∷ codes " except " ∷ answer_text (b + length (blocks_of left)) right ∷ codes ")" ∷ [])

-- blocks are numbered from 0 on here, and from 1 on in the lines
abbrev pub blocks_text : Schema → List Access → List Bool → List Derivation → ℕ → List ℕ → ℕ → QueryTree → List ℕ
blocks_text schema accesses guided plans n guide b (Single block) =
    block_line (n + 1) (guide_text (is_guided guided n) guide b)
    ++ steps_text schema accesses (n + 1) 1 (start_size guided n b) (plan_of plans n).steps
blocks_text schema accesses guided plans n guide b (Either l r) =
    blocks_text schema accesses guided plans n guide b l ++ blocks_text schema accesses guided plans (after n l) guide b r
blocks_text schema accesses guided plans n guide b (Minus l r) =
    blocks_text schema accesses guided plans n guide b l
    ++ blocks_text schema accesses guided plans (after n l) (answer_text (n + 1) l) (size_of accesses guided plans n b l) r

-- a query as a whole has no guide
unfoldable pub plan_lines : Schema → List Access → Prepared → List ℕ
plan_lines schema accesses prepared =
    blocks_text schema accesses prepared.guided prepared.derivations 0 [] 1 prepared.query
    ++ concatenation (codes "plan answer " ∷ answer_text 1 prepared.query ∷ codes "\n" ∷ [])

abbrev pub plan_text : Schema → Prepared → List ℕ
plan_text schema prepared = plan_lines schema schema.accesses prepared

-- a scan of a table of at most so many rows
unfoldable pub scan_line : Schema → Access → List ℕ
scan_line schema scan =
    concatenation (codes "plan scan " ∷ (table_at schema scan.table).name ∷ codes " limit " ∷ decimal scan.bound ∷ codes "\n" ∷ [])

abbrev pub plan_text_over : Schema → List Access → Prepared → List ℕ
plan_text_over schema scans prepared =
    flat_map (scan_line schema) scans ++ plan_lines schema (schema.accesses ++ scans) prepared

-- the table of each constraint is there
abbrev pub TablesAreThere : Schema → List Access → Type 0
TablesAreThere schema accesses = All (λ a. a.table.0 < length schema.tables) accesses

-- what the steps of a block need so that their lines can be told: each constraint is live, and each cost is a number of 128 bits
pub record StepsAreTold (accesses : List Access) (size : ℕ) (steps : List DStep) : Type 0 where
  pub live : All (λ s. IsTrue (is_live accesses s.access)) steps
  pub cost : announced_from accesses size steps < 2 ^ 128

abbrev pub AllStepsTold : List Access → List Bool → List Derivation → ℕ → ℕ → QueryTree → Type 0
AllStepsTold accesses guided plans n b (Single block) = StepsAreTold accesses (start_size guided n b) (plan_of plans n).steps
AllStepsTold accesses guided plans n b (Either l r) =
    AllStepsTold accesses guided plans n b l × AllStepsTold accesses guided plans (after n l) b r
    × (size_of accesses guided plans n b l + size_of accesses guided plans (after n l) b r < 2 ^ 128)
AllStepsTold accesses guided plans n b (Minus l r) =
    AllStepsTold accesses guided plans n b l × AllStepsTold accesses guided plans (after n l) (size_of accesses guided plans n b l) r

-- what the blocks of a tree need: their derivations and flags are there, and their steps can be told; a size is a number of 128 bits too
pub record BlocksAreTold (accesses : List Access) (guided : List Bool) (plans : List Derivation) (n b : ℕ) (t : QueryTree) : Type 0 where
  pub derivations : after n t ≤ length plans
  pub flags : after n t ≤ length guided
  pub steps : AllStepsTold accesses guided plans n b t

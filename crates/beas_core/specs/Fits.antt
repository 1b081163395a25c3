-- When a prepared query fits the constraints and the rows that it is run over.
--     PreparedIsWellFormed prepared     its query is well formed, its normals, derivations and flags are one for each block, and a block is
--                                       guided only where it has a guide. It speaks of no port
--     PlanFits accesses prepared        it is well formed, its derivations are sound over these constraints, and its bound is the announced number
--     Fits accesses rows prepared       its plan fits, and each row of an atom's table has the atom's width
--     KeepsConstraints old new plans    each step's constraint is live in the new list, and is the one that it was in the old
--     KeepsRows old new t               each table that the query names has the rows that it had
use Rattle.std.specs.Prelude.{◌≡◌, ◌≤◌, Bool, true, false, ℕ, List, length, map, All, Contains, IsTrue}
use Rattle.beas_core.specs.declared.schema.Access.{Access}
use Rattle.beas_core.specs.declared.query.Block.{Block}
use Rattle.beas_core.specs.declared.plan.DStep.{DStep}
use Rattle.beas_core.specs.declared.plan.Normal.{Normal}
use Rattle.beas_core.specs.declared.plan.Derivation.{Derivation}
use Rattle.beas_core.specs.declared.plan.Prepared.{Prepared}
use Rattle.beas_core.specs.Types.{TableRows, ClassSet}
use Rattle.beas_core.specs.Trees.{QueryTree, Single, Either, Minus, blocks_of}
use Rattle.beas_core.specs.Groups.{Holds}
use Rattle.beas_core.specs.Shapes.{QueryIsWellFormed, AccessIsWellFormed, width_of}
use Rattle.beas_core.specs.Classes.{normal_of}
use Rattle.beas_core.specs.Coverage.{start_classes}
use Rattle.beas_core.specs.Derivations.{IsSound, access_in, is_live}
use Rattle.beas_core.specs.Guiding.{after}
use Rattle.beas_core.specs.Queries.{is_guided, plan_of, query_bound}

-- each row of each atom's table has the atom's width
abbrev pub RowsHaveWidth : TableRows → Block → Type 0
RowsHaveWidth rows block = All (λ a. All (λ row. length row ≡ a.width) (rows a.table)) block.atoms

-- the derivation is sound for the block and the start, and its constraints are well formed
pub record PlanIsSound (normal : Normal) (accesses : List Access) (start : ClassSet) (plan : Derivation) : Type 0 where
  pub sound : IsSound normal accesses start plan.steps
  pub well_formed : All (λ s. AccessIsWellFormed (width_of normal.atoms s.atom) (access_in accesses s.access)) plan.steps

-- the derivation of each block of a tree is sound for its start, where n is the number of the first
abbrev pub PlansAreSound : List Access → List Bool → List Derivation → ℕ → QueryTree → Type 0
PlansAreSound accesses guided plans n (Single block) =
    PlanIsSound (normal_of block) accesses (start_classes (normal_of block) (is_guided guided n)) (plan_of plans n)
PlansAreSound accesses guided plans n (Either l r) = PlansAreSound accesses guided plans n l × PlansAreSound accesses guided plans (after n l) r
PlansAreSound accesses guided plans n (Minus l r) = PlansAreSound accesses guided plans n l × PlansAreSound accesses guided plans (after n l) r

-- a block is guided only where it has a guide
abbrev pub GuidedOnlyWithGuide : List Bool → ℕ → Bool → QueryTree → Type 0
GuidedOnlyWithGuide guided n has (Single block) = is_guided guided n ≡ true → has ≡ true
GuidedOnlyWithGuide guided n has (Either l r) = GuidedOnlyWithGuide guided n has l × GuidedOnlyWithGuide guided (after n l) has r
GuidedOnlyWithGuide guided n has (Minus l r) = GuidedOnlyWithGuide guided n has l × GuidedOnlyWithGuide guided (after n l) true r

pub record PreparedIsWellFormed (prepared : Prepared) : Type 0 where
  pub query : QueryIsWellFormed prepared.query
  pub normals : prepared.normals ≡ map normal_of (blocks_of prepared.query)
  pub derivations : length prepared.derivations ≡ length prepared.normals
  pub flags : length prepared.guided ≡ length prepared.normals
  pub guided : GuidedOnlyWithGuide prepared.guided 0 false prepared.query

pub record PlanFits (accesses : List Access) (prepared : Prepared) : Type 0 where
  pub well_formed : PreparedIsWellFormed prepared
  pub plans : PlansAreSound accesses prepared.guided prepared.derivations 0 prepared.query
  pub bound : prepared.bound ≡ query_bound accesses prepared.guided prepared.derivations prepared.query

pub record Fits (accesses : List Access) (rows : TableRows) (prepared : Prepared) : Type 0 where
  pub plan : PlanFits accesses prepared
  pub widths : All (RowsHaveWidth rows) (blocks_of prepared.query)

-- the constraint of each step holds over its table's rows, and its bound is at least 1
abbrev pub StepsHold : TableRows → List Access → List DStep → Type 0
StepsHold rows accesses steps =
    (s : DStep) → Contains steps s → Holds (rows (access_in accesses s.access).table) (access_in accesses s.access) × (1 ≤ (access_in accesses s.access).bound)

abbrev pub KeepsConstraints : List Access → List Access → List Derivation → Type 0
KeepsConstraints old new plans =
    All (λ plan. All (λ s. IsTrue (is_live new s.access) × (access_in new s.access ≡ access_in old s.access)) plan.steps) plans

abbrev pub KeepsRows : TableRows → TableRows → QueryTree → Type 0
KeepsRows old new t = All (λ block. All (λ a. new a.table ≡ old a.table) block.atoms) (blocks_of t)

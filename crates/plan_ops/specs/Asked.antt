-- What is known of a tree of a query's blocks before it is answered.
--     TreeFits accesses prepared n guide t reads     its blocks are those of the prepared query from number n on, its guide fits them,
--                                                    and a count has room for what is announced of it
use Rattle.std.specs.Prelude.{◌≡◌, ◌+◌, ◌<◌, ◌^◌, ℕ, List, ◌++◌, length, map, is_some}
use Rattle.beas_core.specs.declared.schema.Access.{Access}
use Rattle.beas_core.specs.declared.plan.Normal.{Normal}
use Rattle.beas_core.specs.declared.plan.Prepared.{Prepared}
use Rattle.beas_core.specs.Types.{Guide}
use Rattle.beas_core.specs.Trees.{QueryTree, blocks_of}
use Rattle.beas_core.specs.Classes.{normal_of}
use Rattle.beas_core.specs.Fits.{PlansAreSound, GuidedOnlyWithGuide}
use Rattle.beas_core.specs.Queries.{announced_in}
use Rattle.beas_core.proofs.QueryBounds.{Shaped, Guides}

pub record TreeFits (accesses : List Access) (prepared : Prepared) (n : ℕ) (guide : Guide) (t : QueryTree) (reads : ℕ) : Type 0 where
  pub before : List Normal
  pub later : List Normal
  pub stands : prepared.normals ≡ before ++ (map normal_of (blocks_of t) ++ later)
  pub number : length before ≡ n
  pub derivations : length prepared.derivations ≡ length prepared.normals
  pub flags : length prepared.guided ≡ length prepared.normals
  pub width : ℕ
  pub shaped : Shaped width t
  -- how many rows the guide has at most
  pub most : ℕ
  pub guides : Guides width most guide
  pub sound : PlansAreSound accesses prepared.guided prepared.derivations n t
  pub guided : GuidedOnlyWithGuide prepared.guided n (is_some guide) t
  pub room : reads + announced_in accesses prepared.guided prepared.derivations n most t < 2 ^ 128

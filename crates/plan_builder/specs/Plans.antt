-- How far a plan has come.
--     HasCome normal accesses start set steps     the set has the classes that are bound after the steps, whose constraints are live
--     served_among normal atom us                 one of the uses is on the atom and holds its needed columns
use Rattle.std.specs.Prelude.{◌≡◌, ◌&&◌, ◌==◌, Bool, ℕ, List, All, IsTrue}
use Rattle.std.specs.List.{list_any}
use Rattle.beas_core.specs.declared.schema.Access.{Access}
use Rattle.beas_core.specs.declared.plan.DStep.{DStep}
use Rattle.beas_core.specs.declared.plan.Normal.{Normal}
use Rattle.beas_core.specs.Types.{ClassSet, Use}
use Rattle.beas_core.specs.Coverage.{holds_needed}
use Rattle.beas_core.specs.Derivations.{bound_after, is_live}

pub record HasCome (normal : Normal) (accesses : List Access) (start set : ClassSet) (steps : List DStep) : Type 0 where
  pub bound : set ≡ bound_after normal accesses start steps
  pub live : All (λ s. IsTrue (is_live accesses s.access)) steps

abbrev pub served_among : Normal → ℕ → List Use → Bool
served_among normal atom us = list_any (λ u. (u.atom == atom) && holds_needed normal u) us

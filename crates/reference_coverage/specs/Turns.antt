-- The choice at one turn of a derivation.
use Rattle.std.specs.Prelude.{◌&&◌, ◌==◌, if◌then◌else◌, ℕ, List, filter, Option, None}
use Rattle.beas_core.specs.declared.schema.Access.{Access}
use Rattle.beas_core.specs.declared.plan.DStep.{DStep}
use Rattle.beas_core.specs.declared.plan.Normal.{Normal}
use Rattle.beas_core.specs.Types.{ClassSet, Use}
use Rattle.beas_core.specs.Coverage.{serves, uses}
use Rattle.beas_core.specs.Derivations.{least_bound, is_served_by}

-- the use of least bound that serves the atom, nothing where some step serves it already
abbrev pub serving_choice : Normal → List Access → List DStep → ClassSet → ℕ → Option Use
serving_choice normal accesses steps set atom =
    if is_served_by normal accesses steps atom then None
    else least_bound (filter (λ u. (u.atom == atom) && serves normal set u) (uses normal accesses))

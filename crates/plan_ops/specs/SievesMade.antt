-- How a sieve's list of comparisons grows.
--     Lists .. number old new listed      what was listed stays, and all that is listed is of the tuple's own values. Where `listed` says so,
--                                         the comparison with this number is in the new list, or its sides are bound before the step
use Rattle.std.specs.Prelude.{◌≡◌, ℕ, Bool, true, List, All}
use Rattle.beas_core.specs.declared.schema.ColumnId.{ColumnId}
use Rattle.beas_core.specs.declared.plan.Normal.{Normal}
use Rattle.beas_core.specs.Types.{ClassSet}
use Rattle.beas_core.proofs.Sets.{Has}
use Rattle.plan_ops.specs.declared.sieving.Own.{Own}
use Rattle.plan_ops.specs.Sieves.{IsOwn, IsRest}

pub record Lists (normal : Normal) (set : ClassSet) (atom : ℕ) (columns : List ColumnId) (number : ℕ) (old new : List Own) (listed : Bool) : Type 0 where
  pub own : All (IsOwn normal atom columns) new
  pub stay : (o : Own) → Has old o → Has new o
  pub rest : listed ≡ true → IsRest normal set new number

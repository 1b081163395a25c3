-- How the tuples that fit a valuation are found by the values that they share.
--     shared_in width checks          the checks that compare a tuple with a valuation of this width, and not with itself
--     IsIndexed places tuples o       where there is an order, it is that of these tuples
--     AreIndexes ..                   so it is of each of some groups
--     IsShared width checks shared    the places of these checks in the valuation, and those in the tuple
use Rattle.std.specs.Prelude.{◌≡◌, ◌<◌, ◌-◌, ℕ, List, Option, IfSome, length, map, filter, nat_lt, slice_index_or}
use Rattle.beas_core.specs.Found.{Found}
use Rattle.beas_core.specs.Types.{Row}
use Rattle.place_chains.specs.TupleOrder.{IsOrder}

abbrev pub shared_in : ℕ → List (ℕ × ℕ) → List (ℕ × ℕ)
shared_in width checks = filter (λ c. nat_lt c.1 width) checks

pub record IsShared (width : ℕ) (checks : List (ℕ × ℕ)) (shared : List ℕ × List ℕ) : Type 0 where
  pub rows_are : shared.0 ≡ map (λ c. c.1) (shared_in width checks)
  pub tuples_are : shared.1 ≡ map (λ c. c.0 - width) (shared_in width checks)

abbrev pub IsIndexed : List ℕ → List Row → Option (List ℕ) → Type 0
IsIndexed places tuples o = IfSome o (IsOrder places tuples)

pub record AreIndexes (places : List ℕ) (members : Found → List Row) (groups : List Found) (indexes : List (Option (List ℕ))) : Type 0 where
  pub count : length indexes ≡ length groups
  pub each : (i : ℕ) (d : Found) (e : Option (List ℕ)) → i < length groups → IsIndexed places (members (slice_index_or groups i d)) (slice_index_or indexes i e)

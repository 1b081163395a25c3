-- The tuples that may have some values at some places, gone through from the first one on.
--     IsRun places tuples values from run   the numbers, ascending, of just those tuples from one on that have the values at the places
--     IsFitting places tuples values f      of these tuples the first `f.from` ones were gone through; a run has the others that have the values
--     HasNone places tuples values i j      no tuple from the one on and before the other has the values
--     IsNext places tuples values old o new what comes next, so that none is left out that has the values; from a run one comes that has them,
--                                           and without a run one that may have others; where nothing comes, all stays as it is
use Rattle.std.specs.Prelude.{◌≡◌, ◌<◌, ◌≤◌, ◌+◌, [], ℕ, List, Option, None, Some, All, Contains, IfSome, IsSome, length, slice_index_or}
use Rattle.std.specs.List.Sorted.{IsStrictlyIncreasing}
use Rattle.beas_core.specs.Types.{Row}
use Rattle.place_chains.specs.declared.fitting.Fitting.{Fitting}
use Rattle.place_chains.specs.TupleOrder.{values_at}

pub record IsRun (places : List ℕ) (tuples : List Row) (values : Row) (from : ℕ) (run : List ℕ) : Type 0 where
  pub ascending : IsStrictlyIncreasing run
  pub within : All (λ i. (from ≤ i) × (i < length tuples)) run
  pub have : All (λ i. values_at places (slice_index_or tuples i []) ≡ values) run
  pub none_left : (i : ℕ) → from ≤ i → i < length tuples → values_at places (slice_index_or tuples i []) ≡ values → Contains run i

pub record IsFitting (places : List ℕ) (tuples : List Row) (values : Row) (f : Fitting) : Type 0 where
  pub count : f.count ≡ length tuples
  pub from : f.from ≤ length tuples
  pub run : IfSome f.run (λ run. IsRun places tuples values f.from run.now)

abbrev pub HasNone : List ℕ → List Row → Row → ℕ → ℕ → Type 0
HasNone places tuples values i j = (k : ℕ) → i ≤ k → k < j → values_at places (slice_index_or tuples k []) ≡ values → ⊥

abbrev pub IsNext : List ℕ → List Row → Row → Fitting → Option ℕ → Fitting → Type 0
IsNext places tuples values old None new = HasNone places tuples values old.from (length tuples) × (new ≡ old)
IsNext places tuples values old (Some i) new = (old.from ≤ i) × (i < length tuples) × HasNone places tuples values old.from i
    × (new.from ≡ i + 1) × IsFitting places tuples values new × (IsSome old.run → values_at places (slice_index_or tuples i []) ≡ values)

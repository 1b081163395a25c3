-- The tuples of a group in the order of their values at some places.
--     value_of tuples i place        the value of a tuple at a place; one past its end is made up, since nothing reaches it
--     values_at places row           the row's values at these places
--     number_cmp places tuples i j   how two tuples stand by their values at these places, and where those are the same by their numbers
--     IsOrder places tuples numbers  the numbers of all tuples in this order
--     IsReading tuples count post z  what a call gives for the number of one of so many tuples and for a place is the value there, and
--                                    z is what is made up past the end
use Rattle.std.specs.Prelude.{◌≡◌, ◌<◌, [], ℕ, pos, List, length, map, slice_index_or}
use Rattle.std.specs.declared.cmp.Ordering.{Ordering}
use Rattle.std.specs.List.{range_with_len}
use Rattle.std.specs.List.Sorted.{IsPermutation, IsSorted}
use Rattle.std.specs.Ordering.{nat_cmp, ordering_then}
use Rattle.std.specs.Borrow.{Bor}
use Rattle.beas_core.specs.declared.value.Value.{Value}
use Rattle.beas_core.specs.declared.value.Value.TheVariants.{Int}
use Rattle.beas_core.specs.Order.{row_cmp}
use Rattle.beas_core.specs.Types.{Row}

abbrev pub value_of : List Row → ℕ → ℕ → Value
value_of tuples i place = slice_index_or (slice_index_or tuples i []) place (Int (pos 0))

abbrev pub values_at : List ℕ → Row → Row
values_at places row = map (λ place. slice_index_or row place (Int (pos 0))) places

abbrev pub number_cmp : List ℕ → List Row → ℕ → ℕ → Ordering
number_cmp places tuples i j =
    ordering_then (row_cmp (values_at places (slice_index_or tuples i [])) (values_at places (slice_index_or tuples j []))) (nat_cmp i j)

pub record IsOrder (places : List ℕ) (tuples : List Row) (numbers : List ℕ) : Type 0 where
  pub all : IsPermutation (range_with_len 0 (length tuples)) numbers
  pub sorted : IsSorted (number_cmp places tuples) numbers

pub record IsReading (tuples : List Row) (count : ℕ) (post : ℕ → ℕ → Bor Value → Type 0) (zero : Value) : Type 0 where
  pub whole : count ≡ length tuples
  pub end : zero ≡ Int (pos 0)
  pub is : (i place : ℕ) (v : Bor Value) → i < count → post i place v → v.now ≡ value_of tuples i place

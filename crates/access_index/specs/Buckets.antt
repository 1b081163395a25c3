-- How an index lies in memory: a bucket for each hash of a key, which holds the tallies of all groups of that hash.
--     count_in tallies tuple     how many rows have the tuple, by these tallies
--     IsGap tallies tuple at     a tuple that is in none of the tallies goes in at this place
--     IsStored width key_width entries total      what holds of the buckets of an index
use Rattle.std.specs.Prelude.{◌≡◌, ◌+◌, ◌<◌, ◌≤◌, ◌⊎◌, if◌then◌else◌, ℕ, Bool, true, nat_eq, List, length, map, take, filter, sum_by, slice_index_or}
use Rattle.std.specs.List.{AllByRecursion, IsDistinct}
use Rattle.std.specs.Map.{keys_of}
use Rattle.std.specs.declared.cmp.Ordering.{Ordering}
use Rattle.std.specs.declared.cmp.Ordering.TheVariants.{Less}
use Rattle.beas_core.specs.declared.value.Value.{Value}
use Rattle.beas_core.specs.Order.{row_cmp}
use Rattle.beas_core.specs.Sets.{IsInOrder}
use Rattle.beas_core.specs.Groups.{same_row}
use Rattle.access_index.specs.declared.tally.Tally.{Tally}
use Rattle.access_index.specs.Hashing.{hash_of}

abbrev pub tuples_in : List Tally → List (List Value)
tuples_in found = map (λ t. t.tuple) found

-- the tally's count where it is of this tuple
abbrev pub count_for : List Value → Tally → ℕ
count_for tuple tally = if same_row tally.tuple tuple then tally.count else 0

abbrev pub count_in : List Tally → List Value → ℕ
count_in tallies tuple = sum_by (count_for tuple) tallies

abbrev pub counts_in : List Tally → ℕ
counts_in tallies = sum_by (λ t. t.count) tallies

abbrev pub one_if : Bool → ℕ
one_if test = if test then 1 else 0

abbrev pub AllCounted : List Tally → Type 0
AllCounted tallies = AllByRecursion (λ t. 1 ≤ t.count) tallies

-- the first values of a tally's tuple, beside a key
abbrev pub key_order : ℕ → List Value → Tally → Ordering
key_order width key tally = row_cmp (take width tally.tuple) key

abbrev pub is_key : ℕ → List Value → Tally → Bool
is_key width key tally = same_row (take width tally.tuple) key

-- a length is that of some group
pub record IsGroupLen (width : ℕ) (tallies : List Tally) (len : ℕ) : Type 0 where
  pub key : List Value
  pub is : len ≡ length (filter (is_key width key) tallies)

abbrev pub group_len : ℕ → List Tally → Tally → ℕ
group_len width tallies tally = length (filter (is_key width (take width tally.tuple)) tallies)

-- the greatest group of the first members
pub record IsBest (width : ℕ) (tallies : List Tally) (count best : ℕ) : Type 0 where
  pub above : (k : ℕ) (d : Tally) → k < count → group_len width tallies (slice_index_or tallies k d) ≤ best
  pub reached : (best ≡ 0) ⊎ IsGroupLen width tallies best
  pub within : best ≤ length tallies

pub record IsGap (tallies : List Tally) (tuple : List Value) (at : ℕ) : Type 0 where
  pub within : at ≤ length tallies
  pub before : (k : ℕ) (d : Tally) → k < at → row_cmp (slice_index_or tallies k d).tuple tuple ≡ Less
  pub after : (k : ℕ) (d : Tally) → at ≤ k → k < length tallies → row_cmp tuple (slice_index_or tallies k d).tuple ≡ Less

abbrev pub AllTuplesPass : (List Value → Bool) → List Tally → Type 0
AllTuplesPass test tallies = AllByRecursion (λ t. test t.tuple ≡ true) tallies

-- the tallies count a tuple once more
pub record IsOneMore (less more : List Tally) (tuple : List Value) : Type 0 where
  pub less_ordered : IsInOrder row_cmp (tuples_in less)
  pub more_ordered : IsInOrder row_cmp (tuples_in more)
  pub less_counted : AllCounted less
  pub more_counted : AllCounted more
  pub counts : (x : List Value) → count_in more x ≡ count_in less x + one_if (same_row tuple x)
  pub sum : counts_in more ≡ counts_in less + 1
  pub kept : (test : List Value → Bool) → AllTuplesPass test more → AllTuplesPass test less
  pub added : (test : List Value → Bool) → test tuple ≡ true → AllTuplesPass test less → AllTuplesPass test more

abbrev pub is_wide : ℕ → List Value → Bool
is_wide width tuple = nat_eq width (length tuple)

abbrev pub is_hashed : ℕ → ℕ → List Value → Bool
is_hashed key_width hash tuple = nat_eq hash (hash_of (take key_width tuple))

-- what a bucket of this hash holds
pub record IsBucket (width key_width hash : ℕ) (tallies : List Tally) : Type 0 where
  pub ordered : IsInOrder row_cmp (tuples_in tallies)
  pub wide : AllTuplesPass (is_wide width) tallies
  pub hashed : AllTuplesPass (is_hashed key_width hash) tallies
  pub counted : AllCounted tallies
  pub some : 0 < length tallies

pub record IsStored (width key_width : ℕ) (entries : List (ℕ × List Tally)) (total : ℕ) : Type 0 where
  pub distinct : IsDistinct nat_eq (keys_of entries)
  pub buckets : AllByRecursion (λ e. IsBucket width key_width e.0 e.1) entries
  pub total_is : total ≡ sum_by (λ e. counts_in e.1) entries

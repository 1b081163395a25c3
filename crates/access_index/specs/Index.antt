-- Indexes of rows.
--     index_of access rows key      the group of this key in the rows, each tuple with the number of rows that have it
--     IsIndexOf index rows          an index gives for each key what the rows give, and knows how many rows there are
--     WouldHold index row           the row's tuple is there, or its group has fewer members than the bound
--     start_at place                where a group begins, by the place that hits keep
--     members_at index found        the tuples that hits stand for
--     stands_at index found         hits stand for tuples of this index as it is
use Rattle.std.specs.Prelude.{◌≡◌, ◌<◌, ◌≤◌, ◌/◌, ◌%◌, ◌^◌, ◌⊎◌, ℕ, List, [], length, map, filter, take, drop, flat_map, count_by, slice_index_or}
use Rattle.std.specs.List.{Contains}
use Rattle.beas_core.specs.declared.value.Value.{Value}
use Rattle.beas_core.specs.declared.schema.Access.{Access}
use Rattle.beas_core.specs.Found.{Found}
use Rattle.beas_core.specs.Groups.{project, same_row, group_of, member_columns}
use Rattle.access_index.specs.declared.start.GroupStart.{GroupStart}
use Rattle.access_index.specs.declared.tally.Tally.{Tally}
use Rattle.access_index.specs.Buckets.{tuples_in, is_key}

-- the tuple that a row has in the index of a constraint, and its key
abbrev pub tuple_of : Access → List Value → List Value
tuple_of access row = project (member_columns access) row

abbrev pub key_of : Access → List Value → List Value
key_of access row = project access.key row

-- how many rows have this tuple
abbrev pub rows_with : Access → List (List Value) → List Value → ℕ
rows_with access rows tuple = count_by (λ row. same_row (tuple_of access row) tuple) rows

abbrev pub tally_of : Access → List (List Value) → List Value → Tally
tally_of access rows tuple = record { tuple = tuple; count = rows_with access rows tuple }

abbrev pub index_of : Access → List (List Value) → List Value → List Tally
index_of access rows key = map (tally_of access rows) (group_of rows access key)

-- what contracts see of an index
pub record Index : Type 0 where
  -- its constraint
  pub access : Access
  -- how many rows it is of
  pub total : ℕ
  -- its tuples, each with the number of rows that have it, in the buckets in which they lie
  pub buckets : List (List Tally)

-- the tuples with this key, each with the number of rows that have it
abbrev pub tallies : Index → List Value → List Tally
tallies index key = flat_map (filter (is_key (length index.access.key) key)) index.buckets

pub record IsIndexOf (index : Index) (rows : List (List Value)) : Type 0 where
  pub tallies_are : (key : List Value) → tallies index key ≡ index_of index.access rows key
  pub total_is : index.total ≡ length rows

abbrev pub WouldHold : Index → List Value → Type 0
WouldHold index row =
    Contains (tuples_in (tallies index (key_of index.access row))) (tuple_of index.access row)
    ⊎ (length (tallies index (key_of index.access row)) < index.access.bound)

-- a place is 2 to the 32 times the number of the bucket, plus how far from its front the group begins
abbrev pub start_at : ℕ → GroupStart
start_at place = record { bucket = place / 2 ^ 32; from = place % 2 ^ 32 }

-- the tuples of a bucket from where a group begins
abbrev pub tuples_from : Index → GroupStart → List (List Value)
tuples_from index start = drop start.from (tuples_in (slice_index_or index.buckets start.bucket []))

abbrev pub members_at : Index → Found → List (List Value)
members_at index found = take found.len (tuples_from index (start_at found.place))

abbrev pub stands_at : Index → Found → Type 0
stands_at index found = found.len ≤ length (tuples_from index (start_at found.place))

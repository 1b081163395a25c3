-- Indexes over codes, and the values that an interner gives these codes.
--     read codes tuple              the values of some codes, by the list of an interner's values
--     row_code row_codes column     the code of a row in a column, 0 where it has none
--     pick columns row_codes        the codes of a row in some columns
--     AllKnown codes tuple          each of the codes is one that the interner gave
--     Spells codes columns row_codes row        the row's values in these columns are those of the codes
--     read_tally codes coded, read_group codes group, read_entry codes entry, read_entries codes entries
--                                   a tuple of codes with its count, a group, a group under its key and a list of these, as values
--     AllCodesKnown codes group     the codes of each tuple are ones that the interner gave
--     CodeIndex                     what contracts see of an index over codes
--     read_index codes index        the index of values that an index over codes stands for
--     is_keyed key_width key tuple  a tuple has a key
--     IsGroup width key_width key tallies         what holds of the group of a key: in the order of values, none of them counted 0 times
--     IsStored width key_width entries total      what holds of all groups: one for each key, and so many rows in all
--     IsInOrderFor codes index      the codes of the index are the interner's, and each group stands in the order of their values
--     IsOrdered index               it is in order for some interner
--     KeepsCodes codes more         what was coded by one interner means the same by another one
--     codes_in group, codes_at index place        the tuples of a group, and of the group at a place
--     code_in columns tuple column  a column's code in a tuple over these columns
use Rattle.std.specs.Prelude.{◌≡◌, ◌<◌, if◌then◌else◌, ◌==◌, ℕ, Bool, List, [], ◌∷◌, length, map, take, sum_by, slice_index_or}
use Rattle.std.specs.List.{AllByRecursion, IsDistinct}
use Rattle.std.specs.Map.{keys_of, values_of}
use Rattle.beas_core.specs.declared.value.Value.{Value}
use Rattle.beas_core.specs.declared.schema.ColumnId.{ColumnId}
use Rattle.beas_core.specs.declared.schema.Access.{Access}
use Rattle.beas_core.specs.Order.{row_cmp}
use Rattle.beas_core.specs.Sets.{IsInOrder}
use Rattle.beas_core.specs.Groups.{project, same_row, member_columns}
use Rattle.code_index.specs.Codes.{value_of, AreDistinct}
use Rattle.access_index.specs.declared.tally.Tally.{Tally}
use Rattle.access_index.specs.Buckets.{tuples_in, counts_in, AllCounted, AllTuplesPass, is_wide}
use Rattle.access_index.specs.Index.{Index}
use Rattle.labelled_list.specs.declared.coded.Coded.{Coded}

abbrev pub read : List Value → List ℕ → List Value
read codes tuple = map (value_of codes) tuple

abbrev pub row_code : List ℕ → ColumnId → ℕ
row_code row_codes column = slice_index_or row_codes column.0 0

abbrev pub pick : List ColumnId → List ℕ → List ℕ
pick columns row_codes = map (row_code row_codes) columns

abbrev pub AllKnown : List Value → List ℕ → Type 0
AllKnown codes tuple = AllByRecursion (λ code. code < length codes) tuple

pub record Spells (codes : List Value) (columns : List ColumnId) (row_codes : List ℕ) (row : List Value) : Type 0 where
  pub known : AllKnown codes (pick columns row_codes)
  pub same : read codes (pick columns row_codes) ≡ project columns row

abbrev pub read_tally : List Value → Coded → Tally
read_tally codes coded = record { tuple = read codes coded.codes; count = coded.count }

abbrev pub read_group : List Value → List Coded → List Tally
read_group codes group = map (read_tally codes) group

abbrev pub read_entry : List Value → List ℕ × List Coded → List Value × List Tally
read_entry codes entry = (read codes entry.0, read_group codes entry.1)

abbrev pub read_entries : List Value → List (List ℕ × List Coded) → List (List Value × List Tally)
read_entries codes entries = map (read_entry codes) entries

abbrev pub AllCodesKnown : List Value → List Coded → Type 0
AllCodesKnown codes group = AllByRecursion (λ c. AllKnown codes c.codes) group

-- what contracts see of an index over codes
pub record CodeIndex : Type 0 where
  -- its constraint
  pub access : Access
  -- how many rows it is of
  pub total : ℕ
  -- its groups: a key, and the tuples with this key, each with the number of rows that have it
  pub groups : List (List ℕ × List Coded)

abbrev pub read_index : List Value → CodeIndex → Index
read_index codes index = record { access = index.access; total = index.total; buckets = values_of (read_entries codes index.groups) }

-- a tuple has this key
abbrev pub is_keyed : ℕ → List Value → List Value → Bool
is_keyed key_width key tuple = same_row key (take key_width tuple)

-- what holds of the group of a key
pub record IsGroup (width key_width : ℕ) (key : List Value) (tallies : List Tally) : Type 0 where
  pub ordered : IsInOrder row_cmp (tuples_in tallies)
  pub wide : AllTuplesPass (is_wide width) tallies
  pub keyed : AllTuplesPass (is_keyed key_width key) tallies
  pub counted : AllCounted tallies
  pub some : 0 < length tallies

pub record IsStored (width key_width : ℕ) (entries : List (List Value × List Tally)) (total : ℕ) : Type 0 where
  pub distinct : IsDistinct same_row (keys_of entries)
  pub buckets : AllByRecursion (λ e. IsGroup width key_width e.0 e.1) entries
  pub total_is : total ≡ sum_by (λ e. counts_in e.1) entries

pub record IsInOrderFor (codes : List Value) (index : CodeIndex) : Type 0 where
  pub distinct : AreDistinct codes
  pub keys : AllByRecursion (λ e. AllKnown codes e.0) index.groups
  pub known : AllByRecursion (λ e. AllCodesKnown codes e.1) index.groups
  pub stored : IsStored (length (member_columns index.access)) (length index.access.key) (read_entries codes index.groups) index.total

-- some interner for which it is in order
pub record IsOrdered (index : CodeIndex) : Type 0 where
  pub codes : List Value
  pub in_order : IsInOrderFor codes index

-- an interner that has grown: what is in order stays so and means the same
pub record KeepsCodes (codes more : List Value) : Type 0 where
  pub tuples : (tuple : List ℕ) → AllKnown codes tuple → AllKnown more tuple × (read more tuple ≡ read codes tuple)
  pub in_order : (index : CodeIndex) → IsInOrderFor codes index → IsInOrderFor more index
  pub same : (index : CodeIndex) → IsInOrderFor codes index → read_index more index ≡ read_index codes index

-- the tuples of the group at a place
abbrev pub codes_in : List Coded → List (List ℕ)
codes_in group = map (λ c. c.codes) group

abbrev pub codes_at : CodeIndex → ℕ → List (List ℕ)
codes_at index place = codes_in (slice_index_or (values_of index.groups) place [])

-- a column's code in a tuple over these columns, the first where a column stands twice
abbrev pub code_in : List ColumnId → List ℕ → ColumnId → ℕ
code_in [] tuple column = 0
code_in (c ∷ columns) [] column = 0
code_in (c ∷ columns) (code ∷ tuple) column = if c.0 == column.0 then code else code_in columns tuple column

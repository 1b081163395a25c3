-- How the tuples of a step's constraint join the valuations before it. A joined row is a valuation and then a tuple.
--     IsTuple columns tuple           the tuple has one value for each column, the same wherever a column stands twice
--     HitsAre ..                      hits stand in the port, for tuples of their constraint
--     IsGroup ..                      they are those of a key
--     joined_by sources row tuple     the values of the joined row at some places
--     fits_by checks row tuple        the joined row has equal values at each of these pairs of places
--     joins ..                        the rows that a valuation joins with some tuples
--     checks_of known classes         each place from `known` on whose class stands at an earlier place too, with that first place
use Rattle.std.specs.Prelude.{◌≡◌, ◌==◌, ◌<◌, ◌≤◌, ◌+◌, ◌++◌, ℕ, pos, Bool, not, List, length, map, filter, slice_index_or, IsTrue, All, ◌-◌}
use Rattle.std.specs.List.{list_all, range_with_len}
use Rattle.beas_core.specs.declared.value.Value.{Value}
use Rattle.beas_core.specs.declared.value.Value.TheVariants.{Int}
use Rattle.beas_core.specs.declared.schema.ColumnId.{ColumnId}
use Rattle.beas_core.specs.declared.schema.AccessId.{AccessId}
use Rattle.beas_core.specs.declared.schema.Access.{Access}
use Rattle.beas_core.specs.declared.plan.Normal.{Normal}
use Rattle.beas_core.specs.Types.{Row, TableRows, Use}
use Rattle.beas_core.specs.Found.{Found}
use Rattle.beas_core.specs.Full.{same_value}
use Rattle.beas_core.specs.Groups.{group_of, member_columns, value_in}
use Rattle.beas_core.specs.Coverage.{class_at, place_class, with_classes}
use Rattle.beas_core.specs.Derivations.{access_in, is_live, member_classes}
use Rattle.beas_core.specs.Valuations.{classes_in}
use Rattle.plan_ops.specs.declared.joining.Join.{Join}
use Rattle.plan_ops.specs.Matching.{IsShared}
use Rattle.plan_ops.specs.Over.{set_of}
use Rattle.plan_ops.specs.Places.{column_of, place_of}

pub record IsTuple (columns : List ColumnId) (tuple : Row) : Type 0 where
  pub wide : length tuple ≡ length columns
  pub values : (j : ℕ) (d : Value) (e : ColumnId) → j < length columns
      → slice_index_or tuple j d ≡ value_in columns tuple (slice_index_or columns j e)

pub record HitsAre (accesses : List Access) (stands : Found → Type 0) (members : Found → List Row) (hits : Found)
    : Type 0 where
  pub live : IsTrue (is_live accesses hits.access)
  pub standing : stands hits
  pub count : hits.len ≡ length (members hits)
  pub tuples : All (IsTuple (member_columns (access_in accesses hits.access))) (members hits)

pub record IsGroup (rows : TableRows) (accesses : List Access) (stands : Found → Type 0) (members : Found → List Row)
    (id : AccessId) (key : Row) (hits : Found) : Type 0 where
  pub hits_are : HitsAre accesses stands members hits
  pub access_is : hits.access ≡ id
  pub group_is : members hits ≡ group_of (rows (access_in accesses id).table) (access_in accesses id) key

abbrev pub at_place : Row → Row → ℕ → Value
at_place row tuple place = slice_index_or (row ++ tuple) place (Int (pos 0))

abbrev pub joined_by : List ℕ → Row → Row → Row
joined_by sources row tuple = map (at_place row tuple) sources

abbrev pub fits_by : List (ℕ × ℕ) → Row → Row → Bool
fits_by checks row tuple = list_all (λ c. same_value (at_place row tuple c.0) (at_place row tuple c.1)) checks

abbrev pub joins : List ℕ → List (ℕ × ℕ) → Row → List Row → List Row
joins sources checks row tuples = map (joined_by sources row) (filter (fits_by checks row) tuples)

-- a tuple agrees with the valuation in the columns of its key, so these are no checks
abbrev pub checks_of : ℕ → List ℕ → List (ℕ × ℕ)
checks_of known classes =
    filter (λ c. not (c.0 == c.1))
    (map (λ i. (i, place_of classes (slice_index_or classes i 0))) (range_with_len known (length classes - known)))

-- the classes of a valuation and then of a tuple's columns
abbrev pub joined_classes : Normal → Use → List ℕ → List ℕ
joined_classes normal u classes = classes ++ member_classes normal u

-- all places are those of joined rows of this width
pub record IsWithin (width : ℕ) (join : Join) : Type 0 where
  pub sources_are : All (λ place. place < width) join.sources.items
  pub left_are : All (λ c. c.0 < width) join.checks.items
  pub right_are : All (λ c. c.1 < width) join.checks.items

-- the first place of a check is a tuple's, where valuations have this width
pub record IsSharing (width : ℕ) (join : Join) : Type 0 where
  pub behind : All (λ c. width ≤ c.0) join.checks.items
  pub shared_are : IsShared width join.checks.items join.shared

pub record IsJoin (normal : Normal) (u : Use) (classes : List ℕ) (join : Join) : Type 0 where
  pub columns_are : join.picked.0 ≡ member_columns u.access
  pub key_is : join.picked.1.0 ≡ map (λ c. column_of classes (class_at normal u.atom c)) u.access.key
  pub output_is : join.picked.1.1 ≡ map (λ p. column_of join.classes (place_class normal p)) normal.output
  pub classes_are : join.classes ≡ classes_in (with_classes (set_of normal classes) (member_classes normal u))
  pub sources_are : join.sources.items ≡ map (place_of (joined_classes normal u classes)) join.classes
  pub checks_are : join.checks.items ≡ checks_of (length classes + length u.access.key) (joined_classes normal u classes)
  pub within : IsWithin (length classes + length (member_columns u.access)) join
  pub sharing : IsSharing (length classes) join

-- Indexes over the codes of one interner, and the indexes of values that they stand for.
--     meaning codes index        the index of values that an index over codes stands for
--     meanings codes indexes     those of a list of them
--     IsKept codes index         it is in order for the codes, of a well-formed constraint, and of fewer than 2 to the 32 rows
--     AreKept codes indexes      each of them is, and no value has two codes
--     AreInterned codes accesses rows      each value that a row of a constraint's table has in a column of the constraint was interned
use Rattle.std.specs.Prelude.{◌<◌, ◌^◌, ℕ, List, [], length, map, All, slice_index_or}
use Rattle.std.specs.List.{AllByRecursion}
use Rattle.beas_core.specs.declared.value.Value.{Value}
use Rattle.beas_core.specs.declared.schema.Access.{Access}
use Rattle.beas_core.specs.Shapes.{AccessIsWellFormed}
use Rattle.beas_core.specs.Types.{Row}
use Rattle.access_index.specs.Index.{Index, tuple_of}
use Rattle.word_index.specs.declared.any.AnyIndex.{AnyIndex}
use Rattle.code_index.specs.Codes.{AreDistinct}
use Rattle.code_index.specs.Reading.{read_index, IsInOrderFor}
use Rattle.code_index.specs.Spelling.{AllHaveCodes}
use Rattle.word_index.specs.Widths.{index_in}

abbrev pub meaning : List Value → AnyIndex → Index
meaning codes index = read_index codes (index_in index)

abbrev pub meanings : List Value → List AnyIndex → List Index
meanings codes indexes = map (meaning codes) indexes

pub record IsKept (codes : List Value) (index : AnyIndex) : Type 0 where
  pub in_order : IsInOrderFor codes (index_in index)
  pub form : AccessIsWellFormed 64 (index_in index).access
  pub few : (index_in index).total < 2 ^ 32

pub record AreKept (codes : List Value) (indexes : List AnyIndex) : Type 0 where
  pub distinct : AreDistinct codes
  pub each : All (IsKept codes) indexes

abbrev pub AreInterned : List Value → List Access → List (List Row) → Type 0
AreInterned codes accesses rows =
    (i : ℕ) (d : Access) → i < length accesses
    → AllByRecursion (λ row. AllHaveCodes codes (tuple_of (slice_index_or accesses i d) row))
    (slice_index_or rows (slice_index_or accesses i d).table.0 [])

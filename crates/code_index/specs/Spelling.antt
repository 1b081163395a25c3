-- The codes of values.
--     IsCodeOf codes code value      the value was interned, with this code
--     HasCode codes value            the value was interned
--     AllHaveCodes codes values      each of them was
--     AreCodesOf codes tuple values  these are the codes of the values
--     IsCodeIn codes row_codes row column      a row's code in a column is that of its value there
use Rattle.std.specs.Prelude.{◌≡◌, ◌<◌, ℕ, List, length}
use Rattle.std.specs.List.{AllByRecursion}
use Rattle.beas_core.specs.declared.value.Value.{Value}
use Rattle.beas_core.specs.declared.schema.ColumnId.{ColumnId}
use Rattle.beas_core.specs.Groups.{value_at}
use Rattle.code_index.specs.Codes.{value_of}
use Rattle.code_index.specs.Reading.{read, row_code, AllKnown}

pub record IsCodeOf (codes : List Value) (code : ℕ) (value : Value) : Type 0 where
  pub known : code < length codes
  pub same : value_of codes code ≡ value

pub record HasCode (codes : List Value) (value : Value) : Type 0 where
  pub code : ℕ
  pub is : IsCodeOf codes code value

abbrev pub AllHaveCodes : List Value → List Value → Type 0
AllHaveCodes codes values = AllByRecursion (HasCode codes) values

-- these are the codes of the values
pub record AreCodesOf (codes : List Value) (tuple : List ℕ) (values : List Value) : Type 0 where
  pub known : AllKnown codes tuple
  pub same : read codes tuple ≡ values

abbrev pub IsCodeIn : List Value → List ℕ → List Value → ColumnId → Type 0
IsCodeIn codes row_codes row column = IsCodeOf codes (row_code row_codes column) (value_at row column)

-- What a call tells that counts a row where the constraint holds with it.
--     IsAmong columns row_codes group
--                          one of the tuples is the row's
--     HasRoom answer access row_codes group
--                          whether the group has fewer members than the bound, or the row's tuple already
--     CountsWhere held codes row_codes old new
--                          the index is that of the rows that it was of, with the row where it held
--     HoldsWhere held codes row_codes index
--                          whether the constraint, where it holds, holds with the row too
use Rattle.std.specs.Prelude.{◌≡◌, ◌≢◌, ◌<◌, ◌≤◌, ◌⊎◌, ◌↔◌, ◌++◌, ◌∷◌, [], if◌then◌else◌, ℕ, Bool, true, false, List, length, IsTrue, slice_index_or}
use Rattle.std.specs.List.{AllByRecursion}
use Rattle.beas_core.specs.declared.value.Value.{Value}
use Rattle.beas_core.specs.declared.schema.ColumnId.{ColumnId}
use Rattle.beas_core.specs.declared.schema.Access.{Access}
use Rattle.beas_core.specs.Groups.{Holds, member_columns}
use Rattle.access_index.specs.Index.{IsIndexOf}
use Rattle.labelled_list.specs.declared.coded.Coded.{Coded}
use Rattle.code_index.specs.Reading.{CodeIndex, Spells, read_index, pick}

pub record IsAmong (columns : List ColumnId) (row_codes : List ℕ) (group : List Coded) : Type 0 where
  pub at : ℕ
  pub within : at < length group
  pub same : (d : Coded) → (slice_index_or group at d).codes ≡ pick columns row_codes

abbrev pub HasRoom : Bool → Access → List ℕ → List Coded → Type 0
HasRoom true access row_codes group = (length group < access.bound) ⊎ IsAmong (member_columns access) row_codes group
HasRoom false access row_codes group =
    (access.bound ≤ length group) × AllByRecursion (λ c. c.codes ≢ pick (member_columns access) row_codes) group

abbrev pub CountsWhere : Bool → List Value → List ℕ → CodeIndex → CodeIndex → Type 0
CountsWhere held codes row_codes old new =
    (row : List Value) (front back : List (List Value)) → Spells codes (member_columns old.access) row_codes row
    → IsIndexOf (read_index codes old) (front ++ back)
    → IsIndexOf (read_index codes new) (if held then front ++ row ∷ back else front ++ back)

abbrev pub HoldsWhere : Bool → List Value → List ℕ → CodeIndex → Type 0
HoldsWhere held codes row_codes index =
    (row : List Value) (rows : List (List Value)) → Spells codes (member_columns index.access) row_codes row
    → IsIndexOf (read_index codes index) rows → Holds rows index.access → (IsTrue held ↔ Holds (rows ++ row ∷ []) index.access)

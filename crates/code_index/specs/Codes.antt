-- Codes of values. An interner is seen as the list of its values in the order in which they were first interned.
--     same_value                 whether two values are equal
--     code_of codes value        the code of a value: its place in the list
--     extended codes value       the list after a value is interned: it stays where the value is there
--     value_of codes code        the value of a code
--     AreDistinct codes          no value stands twice, so a value has one code
use Rattle.std.specs.Prelude.{◌≡◌, ◌<◌, if◌then◌else◌, ℕ, pos, Bool, List, [], ◌∷◌, ◌++◌, Option, length, position, slice_index_or}
use Rattle.std.specs.List.{list_any}
use Rattle.std.specs.Ordering.{eq_by_cmp}
use Rattle.beas_core.specs.declared.value.Value.{Value}
use Rattle.beas_core.specs.declared.value.Value.TheVariants.{Int}
use Rattle.beas_core.specs.Order.{value_cmp}

abbrev pub same_value : Value → Value → Bool
same_value = eq_by_cmp value_cmp

abbrev pub code_of : List Value → Value → Option ℕ
code_of codes value = position (same_value value) codes

abbrev pub extended : List Value → Value → List Value
extended codes value = if list_any (same_value value) codes then codes else codes ++ value ∷ []

-- a number that is no code counts as the code of the integer 0
abbrev pub value_of : List Value → ℕ → Value
value_of codes code = slice_index_or codes code (Int (pos 0))

abbrev pub AreDistinct : List Value → Type 0
AreDistinct codes = (i j : ℕ) (d : Value) → i < length codes → j < length codes → slice_index_or codes i d ≡ slice_index_or codes j d → i ≡ j

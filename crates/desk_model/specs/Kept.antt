-- A port made of the parts of some tables, as they were, and of a store, as it is. Each definition takes a part's table, rows or
-- constraints as functions, and what the store has as `other`.
--     rows_with table rows parts other           a table's rows from its part, where it has one, and else from the store
--     is_frozen table parts access               the constraint is on a table that has a part
--     accesses_with table accesses parts other   the constraints of the parts, and then those of the store on tables without a part
--     has_id accesses id part                    the part has a constraint with this id
--     chosen accesses what parts other id        what the first part says that has a constraint with this id, and else what the store says
--     StandsWith accesses stands parts other id  the same of a statement, by `Where`, which is one of two
--     AreApart table parts                       no table has two parts
use Rattle.std.specs.Prelude.{◌≢◌, ◌==◌, if◌then◌else◌, not, Bool, true, false, List, [], ◌∷◌, ◌++◌, flat_map, filter, AllPairs}
use Rattle.std.specs.List.{list_any}
use Rattle.beas_core.specs.declared.schema.Access.{Access}
use Rattle.beas_core.specs.declared.schema.AccessId.{AccessId}
use Rattle.beas_core.specs.declared.schema.TableId.{TableId}
use Rattle.beas_core.specs.Types.{TableRows}
use Rattle.beas_core.specs.Derivations.{is_live}

abbrev pub rows_with : {P : Type 0} → (P → TableId) → (P → TableRows) → List P → TableRows → TableRows
rows_with table rows [] other id = other id
rows_with table rows (part ∷ parts) other id = if (table part).0 == id.0 then rows part id else rows_with table rows parts other id

abbrev pub is_frozen : {P : Type 0} → (P → TableId) → List P → Access → Bool
is_frozen table parts access = list_any (λ part. (table part).0 == access.table.0) parts

abbrev pub accesses_with : {P : Type 0} → (P → TableId) → (P → List Access) → List P → List Access → List Access
accesses_with table accesses parts other = flat_map accesses parts ++ filter (λ a. not (is_frozen table parts a)) other

abbrev pub has_id : {P : Type 0} → (P → List Access) → AccessId → P → Bool
has_id accesses id part = is_live (accesses part) id

abbrev pub chosen : {P A : Type 0} → (P → List Access) → (P → A) → List P → A → AccessId → A
chosen accesses what [] other id = other
chosen accesses what (part ∷ parts) other id = if has_id accesses id part then what part else chosen accesses what parts other id

abbrev pub Where : Bool → Type 0 → Type 0 → Type 0
Where true own other = own
Where false own other = other

abbrev pub StandsWith : {P : Type 0} → (P → List Access) → (P → Type 0) → List P → Type 0 → AccessId → Type 0
StandsWith accesses stands [] other id = other
StandsWith accesses stands (part ∷ parts) other id = Where (has_id accesses id part) (stands part) (StandsWith accesses stands parts other id)

abbrev pub AreApart : {P : Type 0} → (P → TableId) → List P → Type 0
AreApart table parts = AllPairs (λ p q. (table p).0 ≢ (table q).0) parts

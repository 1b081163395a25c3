-- The places of a block's atoms, numbered by atom and then column.
--     offset atoms k           how many places stand before those of atom k
--     place_number atoms p     how many places stand before a place
--     with_places atoms used ps    the truth values of all places, with true at some more
--     class_lists atoms classes, used_lists atoms used     what a list over all places says of each atom's columns
use Rattle.std.specs.Prelude.{◌+◌, ℕ, zero, suc, Bool, List, [], ◌∷◌, map, filter, false, slice_index_or}
use Rattle.std.specs.List.{enumerate_from, range_with_len}
use Rattle.beas_core.specs.declared.schema.ColumnId.{ColumnId}
use Rattle.beas_core.specs.declared.query.Atom.{Atom}
use Rattle.beas_core.specs.declared.query.Place.{Place}
use Rattle.beas_core.specs.Coverage.{with_classes}

unfoldable pub offset : List Atom → ℕ → ℕ
offset atoms zero = 0
offset [] (suc atom) = 0
offset (a ∷ atoms) (suc atom) = a.width + offset atoms atom

abbrev pub place_number : List Atom → Place → ℕ
place_number atoms place = offset atoms place.atom + place.column.0

unfoldable pub with_places : List Atom → List Bool → List Place → List Bool
with_places atoms used places = with_classes used (map (place_number atoms) places)

abbrev pub place_at : ℕ → ℕ → Place
place_at atom column = record { atom = atom; column = record { 0 = column } }

abbrev pub class_list : List Atom → List ℕ → ℕ → ℕ → List ℕ
class_list atoms classes atom width = map (λ c. slice_index_or classes (place_number atoms (place_at atom c)) 0) (range_with_len 0 width)

abbrev pub class_lists : List Atom → List ℕ → List (List ℕ)
class_lists atoms classes = map (λ a. class_list atoms classes a.0 a.1.width) (enumerate_from 0 atoms)

abbrev pub used_list : List Atom → List Bool → ℕ → ℕ → List ColumnId
used_list atoms used atom width =
    map (λ c. record { 0 = c }) (filter (λ c. slice_index_or used (place_number atoms (place_at atom c)) false) (range_with_len 0 width))

abbrev pub used_lists : List Atom → List Bool → List (List ColumnId)
used_lists atoms used = map (λ a. used_list atoms used a.0 a.1.width) (enumerate_from 0 atoms)

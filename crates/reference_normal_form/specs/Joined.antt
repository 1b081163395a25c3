-- The places that equalities join with one, as a list.
--     has_place places p          p is one of the places
--     joined_with equalities p    the places that are joined with p
use Rattle.std.specs.Prelude.{if◌then◌else◌, Bool, List, [], ◌∷◌, ◌++◌}
use Rattle.std.specs.List.{list_any}
use Rattle.beas_core.specs.declared.query.Place.{Place}
use Rattle.beas_core.specs.Classes.{same_place}

abbrev pub has_place : List Place → Place → Bool
has_place places p = list_any (λ q. same_place q p) places

-- with one more equality, those that are joined with either side come to those that hold the other
abbrev pub joined_with : List (Place × Place) → Place → List Place
joined_with [] p = p ∷ []
joined_with (e ∷ equalities) p =
    (joined_with equalities p
    ++ (if has_place (joined_with equalities p) e.0 then joined_with equalities e.1 else []))
    ++ (if has_place (joined_with equalities p) e.1 then joined_with equalities e.0 else [])

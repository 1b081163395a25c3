-- Which columns, given as constants, would make a block covered.
--     candidates accesses block              the classes outside the covered set that the block needs, or that a constraint's key on one of its tables has
--     with_constants block given             the block with constants more, each at the first place of its class: so that column is needed, too
--     is_covered_with accesses block set     whether constants for these classes make the block covered; their values don't matter
--     sets_of classes                        the sets of some classes, by size, and in one size as lists
--     first_set accesses block               the first set of candidates that makes the block covered
--     specialised accesses block             the first places of its classes; the refusal where there are too many candidates
use Rattle.std.specs.Prelude.{◌&&◌, ◌==◌, ◌+◌, if◌then◌else◌, nat_lt, Bool, not, ℕ, zero, suc, pos, List, [], ◌∷◌, ◌++◌, length, map, filter, flat_map, find, Option, option_map, unwrap_or, Result, Ok, Err}
use Rattle.std.specs.List.{list_any, range_with_len}
use Rattle.beas_core.specs.declared.schema.Access.{Access}
use Rattle.beas_core.specs.declared.query.Place.{Place}
use Rattle.beas_core.specs.declared.query.Block.{Block}
use Rattle.beas_core.specs.declared.plan.Normal.{Normal}
use Rattle.beas_core.specs.declared.value.Value.{Value}
use Rattle.beas_core.specs.declared.value.Value.TheVariants.{Int}
use Rattle.beas_core.specs.declared.refusal.Refusal.{Refusal}
use Rattle.beas_core.specs.declared.refusal.Refusal.TheVariants.{TooManyCandidates}
use Rattle.beas_core.specs.Classes.{places_of, class_of, normal_of}
use Rattle.beas_core.specs.Coverage.{has, place_class, uses, key_classes, needed_places, own_cover, own_is_covered}

-- the classes of needed places, and of the key places of each constraint on an atom's table
abbrev pub asked_classes : Normal → List Access → List ℕ
asked_classes normal accesses = map (place_class normal) (needed_places normal) ++ flat_map (key_classes normal) (uses normal accesses)

-- ascending
abbrev pub open_classes : Normal → List Access → List ℕ
open_classes normal accesses =
    filter (λ c. not (has (own_cover normal accesses) c) && list_any (λ d. d == c) (asked_classes normal accesses)) (range_with_len 0 normal.count)

abbrev pub candidates : List Access → Block → List ℕ
candidates accesses block = open_classes (normal_of block) accesses

-- by atom and then column
abbrev pub first_place : Block → ℕ → Place
first_place block class = unwrap_or (find (λ p. class_of block p == class) (places_of block.atoms)) (record { atom = 0; column = record { 0 = 0 } })

abbrev pub with_constants : Block → List (ℕ × Value) → Block
with_constants block given = record block { constants = block.constants ++ map (λ g. (first_place block g.0, g.1)) given }

abbrev pub is_covered_with : List Access → Block → List ℕ → Bool
is_covered_with accesses block set = own_is_covered (normal_of (with_constants block (map (λ c. (c, Int (pos 0))) set))) accesses

-- the sublists of a length, those that have the first member before those that don't: of an ascending list, in their order as lists
abbrev pub sublists : ℕ → List ℕ → List (List ℕ)
sublists zero xs = [] ∷ []
sublists (suc n) [] = []
sublists (suc n) (x ∷ xs) = map (λ set. x ∷ set) (sublists n xs) ++ sublists (suc n) xs

abbrev pub sets_of : List ℕ → List (List ℕ)
sets_of classes = flat_map (λ n. sublists n classes) (range_with_len 0 (length classes + 1))

abbrev pub first_set : List Access → Block → Option (List ℕ)
first_set accesses block = find (is_covered_with accesses block) (sets_of (candidates accesses block))

-- a covered block has the empty set, however many candidates there are
abbrev pub has_too_many : List Access → Block → Bool
has_too_many accesses block = not (own_is_covered (normal_of block) accesses) && nat_lt 16 (length (candidates accesses block))

abbrev pub specialised : List Access → Block → Result (Option (List Place)) Refusal
specialised accesses block =
    if has_too_many accesses block then Err (TooManyCandidates (length (candidates accesses block)))
    else Ok (option_map (map (first_place block)) (first_set accesses block))

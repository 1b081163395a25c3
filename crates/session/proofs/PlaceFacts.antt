-- The places that want a constant are places of the block.
use Rattle.std.proofs.Common.{◌≡◌, ◌==◌, ◌≤◌, ℕ, Bool, true, false, if◌then◌else◌, cond, List, [], ◌∷◌, length, map, All, inl, inr, refl, sym, ap, subst, arith, Option, Some, None, Result, Ok, Err}
use Rattle.std.specs.Prelude.{IfOk, IfSome, find}
use Rattle.std.specs.Option.{option_map, unwrap_or}
use Rattle.std.proofs.lemmas.List.Elements.{All-from_recursion, All-head}
use Rattle.beas_core.specs.declared.errors.Fail.{Fail}
use Rattle.beas_core.specs.declared.query.Atom.{Atom}
use Rattle.beas_core.specs.declared.query.Block.{Block}
use Rattle.beas_core.specs.declared.query.Place.{Place}
use Rattle.beas_core.specs.declared.refusal.Refusal.{Refusal}
use Rattle.beas_core.specs.declared.refusal.Refusal.TheVariants.{TooManyCandidates}
use Rattle.beas_core.specs.declared.schema.Access.{Access}
use Rattle.beas_core.specs.Classes.{class_of, places_of}
use Rattle.beas_core.specs.Results.{Gives}
use Rattle.beas_core.specs.Shapes.{AtomIsWellFormed, BlockIsWellFormed, IsPlace}
use Rattle.beas_core.proofs.Sets.{Has, Has-from_map, all_from}
use Rattle.beas_core.proofs.ClassNumbers.{place_of_list}
use Rattle.specialise.specs.Specialised.{candidates, first_place, first_set, has_too_many, specialised}

find_has : {X : Type 0} (p : X → Bool) (xs : List X) (y : X) → find p xs ≡ Some y → Has xs y
find_has p [] y e = cc
find_has {X} p (x ∷ xs) y e = by (p x) e (find_has p xs y)
  where
    by : (b : Bool) → cond b (Some x) (find p xs) ≡ Some y → (find p xs ≡ Some y → Has xs y) → Has (x ∷ xs) y
    by true f rest = let same : y ≡ x = cc in inl same
    by false f rest = inr (rest f)

abbrev none : Place
none = record { atom = 0; column = record { 0 = 0 } }

-- a block has a first atom, and that a first column
no_place : (atoms : List Atom) → 1 ≤ length atoms → All AtomIsWellFormed atoms → IsPlace atoms none
no_place [] some wide = absurd (omega (arith, some))
no_place (a ∷ atoms) some wide =
    let first : AtomIsWellFormed a = All-head AtomIsWellFormed a atoms wide in
    record { atom = omega arith; column = let one = first.wide in omega arith }

module _ (block : Block) (shape : BlockIsWellFormed block) where
  found_place : (class : ℕ) (o : Option Place) → find (λ p. class_of block p == class) (places_of block.atoms) ≡ o → IsPlace block.atoms (unwrap_or o none)
  found_place class None e = no_place block.atoms shape.some_atom shape.widths
  found_place class (Some p) e = place_of_list block.atoms p (find_has (λ q. class_of block q == class) (places_of block.atoms) p e)

  first_is_place : (class : ℕ) → IsPlace block.atoms (first_place block class)
  first_is_place class = found_place class (find (λ p. class_of block p == class) (places_of block.atoms)) refl

  all_places : (set : List ℕ) → All (IsPlace block.atoms) (map (first_place block) set)
  all_places set =
      All-from_recursion (IsPlace block.atoms) (map (first_place block) set)
      (all_from (IsPlace block.atoms) (map (first_place block) set) (λ p m.
      let h = Has-from_map (first_place block) set p m in subst (IsPlace block.atoms) (sym h.2) (first_is_place h.0)))

  of_set : (o : Option (List ℕ)) → IfSome (option_map (map (first_place block)) o) (All (IsPlace block.atoms))
  of_set None = tt
  of_set (Some set) = all_places set

  module _ (accesses : List Access) where
    by_number : (many : Bool) (found : Option (List Place))
        → (if many then Err (TooManyCandidates (length (candidates accesses block))) else Ok (option_map (map (first_place block)) (first_set accesses block))) ≡ Ok found
        → IfSome found (All (IsPlace block.atoms))
    by_number true found e = cc
    by_number false found e = subst (λ o. IfSome o (All (IsPlace block.atoms))) (ap (places_in found) e) (of_set (first_set accesses block))
      where
        places_in : Option (List Place) → Result (Option (List Place)) Refusal → Option (List Place)
        places_in d (Ok o) = o
        places_in d (Err why) = d

    pub wanted_are_places : (r : Result (Option (List Place)) Fail) → Gives r (specialised accesses block)
        → IfOk r (λ found. IfSome found (All (IsPlace block.atoms)))
    wanted_are_places (Ok found) e = by_number (has_too_many accesses block) found e
    wanted_are_places (Err x) e = tt

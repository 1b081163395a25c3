-- The first place of a class, looked for atom by atom.
use Rattle.std.proofs.Common.{◌≡◌, ◌==◌, ◌<◌, ◌≤◌, ◌+◌, ℕ, Bool, List, [], length, map, take, drop, get_or, Some, None, ap, sym, ◌∙◌, arith, zero-add}
use Rattle.std.specs.List.{find, flat_map, enumerate_from, range_with_len}
use Rattle.std.specs.Option.{option_map, unwrap_or}
use Rattle.std.proofs.lemmas.List.{take-append-drop}
use Rattle.std.proofs.lemmas.List.FromFn.{get_or-map-range_with_len}
use Rattle.beas_core.specs.declared.query.Atom.{Atom}
use Rattle.beas_core.specs.declared.query.Place.{Place}
use Rattle.beas_core.specs.declared.query.Block.{Block}
use Rattle.beas_core.specs.declared.plan.Normal.{Normal}
use Rattle.beas_core.specs.Classes.{class_of, normal_of}
use Rattle.beas_core.specs.Coverage.{class_at}
use Rattle.beas_core.proofs.BindingFacts.{from_range}
use Rattle.specialise.specs.Specialised.{first_place}
use Rattle.specialise.proofs.Lists.{find_same, find_map, find_on, find_here, numbers_push, numbers_all, flat_push, flat_append, get_or-enumerated}

abbrev pub place_at : ℕ → ℕ → Place
place_at atom column = record { atom = atom; column = record { 0 = column } }

abbrev pub on_atom : ℕ × Atom → List Place
on_atom a = map (place_at a.0) (range_with_len 0 a.1.width)

class_at_is : (block : Block) (atom column : ℕ) (d : Atom) → atom < length block.atoms → column < (get_or block.atoms atom d).width
    → class_at (normal_of block) atom (record { 0 = column }) ≡ class_of block (place_at atom column)
unfolding normal_of
class_at_is block atom column d l b =
    ap (λ cs. get_or cs column 0)
    (get_or-enumerated (λ a. map (λ c. class_of block (place_at a.0 c)) (range_with_len 0 a.1.width)) 0 atom block.atoms [] d l)
    ∙ ap (λ n. get_or (map (λ c. class_of block (place_at n c)) (range_with_len 0 (get_or block.atoms atom d).width)) column 0) (zero-add atom)
    ∙ get_or-map-range_with_len (λ c. class_of block (place_at atom c)) 0 (get_or block.atoms atom d).width column column 0 b (zero-add column)

module _ (block : Block) (normal : Normal) (same : normal ≡ normal_of block) (class : ℕ) where
  abbrev test : Place → Bool
  test p = class_of block p == class

  on_this : (atom : ℕ) (d : Atom) → atom < length block.atoms → (width : ℕ) → width ≡ (get_or block.atoms atom d).width
      → find test (on_atom (atom, get_or block.atoms atom d))
      ≡ option_map (place_at atom) (find (λ c. class_at normal atom (record { 0 = c }) == class) (range_with_len 0 width))
  on_this atom d l width e =
      let w = (get_or block.atoms atom d).width in
      find_map test (place_at atom) (range_with_len 0 w)
      ∙ ap (option_map (place_at atom)) (find_same (λ c. class_of block (place_at atom c) == class) (λ c. class_at normal atom (record { 0 = c }) == class)
      (range_with_len 0 w) (λ c m. ap (λ k. k == class)
      (sym (ap (λ n. class_at n atom (record { 0 = c })) same ∙ class_at_is block atom c d l (let b = from_range w 0 c m in omega arith)))))
      ∙ ap (λ n. option_map (place_at atom) (find (λ c. class_at normal atom (record { 0 = c }) == class) (range_with_len 0 n))) (sym e)

  pub place_more : (atom : ℕ) (d : Atom) → atom < length block.atoms → (width : ℕ) → width ≡ (get_or block.atoms atom d).width
      → find (λ c. class_at normal atom (record { 0 = c }) == class) (range_with_len 0 width) ≡ None
      → find test (flat_map on_atom (take atom (enumerate_from 0 block.atoms))) ≡ None
      → find test (flat_map on_atom (take (atom + 1) (enumerate_from 0 block.atoms))) ≡ None
  place_more atom d l width e none before =
      ap (λ ns. find test (flat_map on_atom ns)) (numbers_push block.atoms atom d l)
      ∙ ap (find test) (flat_push on_atom (take atom (enumerate_from 0 block.atoms)) (atom, get_or block.atoms atom d))
      ∙ find_on test (flat_map on_atom (take atom (enumerate_from 0 block.atoms))) (on_atom (atom, get_or block.atoms atom d)) before
      ∙ on_this atom d l width e ∙ ap (option_map (place_at atom)) none

  pub place_there : (atom : ℕ) (d : Atom) → atom < length block.atoms → (width : ℕ) → width ≡ (get_or block.atoms atom d).width
      → (column : ℕ) → find (λ c. class_at normal atom (record { 0 = c }) == class) (range_with_len 0 width) ≡ Some column
      → find test (flat_map on_atom (take atom (enumerate_from 0 block.atoms))) ≡ None
      → first_place block class ≡ place_at atom column
  place_there atom d l width e column some before =
      let all = enumerate_from 0 block.atoms in
      let front = take (atom + 1) all in
      let none : Place = record { atom = 0; column = record { 0 = 0 } } in
      let here : find test (flat_map on_atom front) ≡ Some (place_at atom column) =
      ap (λ ns. find test (flat_map on_atom ns)) (numbers_push block.atoms atom d l)
      ∙ ap (find test) (flat_push on_atom (take atom all) (atom, get_or block.atoms atom d))
      ∙ find_on test (flat_map on_atom (take atom all)) (on_atom (atom, get_or block.atoms atom d)) before
      ∙ on_this atom d l width e ∙ ap (option_map (place_at atom)) some in
      ap (λ o. unwrap_or o none)
      (ap (λ ns. find test (flat_map on_atom ns)) (sym (take-append-drop (atom + 1) all))
      ∙ ap (find test) (flat_append on_atom front (drop (atom + 1) all))
      ∙ find_here test (flat_map on_atom front) (flat_map on_atom (drop (atom + 1) all)) (place_at atom column) here)

  pub place_none : (number : ℕ) → length block.atoms ≤ number → number ≤ length block.atoms
      → find test (flat_map on_atom (take number (enumerate_from 0 block.atoms))) ≡ None
      → first_place block class ≡ place_at 0 0
  place_none number a b before =
      let none : Place = record { atom = 0; column = record { 0 = 0 } } in
      let n : length block.atoms ≡ number = omega arith in
      ap (λ o. unwrap_or o none)
      (sym (ap (λ ns. find test (flat_map on_atom ns)) (numbers_all block.atoms))
      ∙ ap (λ k. find test (flat_map on_atom (take k (enumerate_from 0 block.atoms)))) n ∙ before)

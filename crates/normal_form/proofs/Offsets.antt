-- Numbers of places: below the count of all, and different for different places.
use Rattle.std.proofs.Common.{◌≡◌, ◌==◌, ◌&&◌, ◌<◌, ◌≤◌, ◌+◌, ◌-◌, ◌*◌, ◌^◌, ℕ, zero, suc, Bool, true, false, List, [], ◌∷◌, ◌++◌, length, map, take, drop, set, get_or, inl, inr, refl, ap, sym, ◌∙◌, subst, arith, All, add-one, zero-add, add-zero}
use Rattle.std.specs.List.{range_with_len, flat_map, enumerate_from}
use Rattle.std.proofs.lemmas.Bool.{eqb-true, eqb-false, eq-eqb}
use Rattle.std.proofs.lemmas.Grind.{get_or-set_at}
use Rattle.std.proofs.Math.Seq.{take-suc}
use Rattle.std.proofs.lemmas.List.{map-append, get_or-drop, get_or-set_other, length-drop}
use Rattle.std.proofs.lemmas.List.FromFn.{map-range_with_len_more}
use Rattle.beas_core.specs.declared.query.Atom.{Atom}
use Rattle.beas_core.specs.declared.query.Place.{Place}
use Rattle.beas_core.specs.Shapes.{AtomIsWellFormed, IsPlace, width_of}
use Rattle.beas_core.specs.Classes.{same_place, places_of}
use Rattle.beas_core.proofs.Sets.{Has, Has-append_cases, Has-from_map}
use Rattle.normal_form.specs.Places.{offset, place_number, place_at}

pub offset_zero : (atoms : List Atom) → offset atoms 0 ≡ 0
unfolding offset
offset_zero atoms = refl

pub offset_step : (atoms : List Atom) (i : ℕ) (d : Atom) → i < length atoms → offset atoms (i + 1) ≡ offset atoms i + (get_or atoms i d).width
unfolding offset
offset_step atoms i d l = ap (offset atoms) (add-one i) ∙ by atoms i l
  where
    by : (atoms : List Atom) (i : ℕ) → i < length atoms → offset atoms (suc i) ≡ offset atoms i + (get_or atoms i d).width
    by [] i l = absurd (omega (arith, l))
    by (a ∷ atoms) zero l = omega arith
    by (a ∷ atoms) (suc i) l = let h = by atoms i (omega arith) in omega arith

-- one more offset, at a step of a loop
pub offset_written : (atoms : List Atom) (xs : List ℕ) (i n : ℕ) → i < length xs → n ≡ offset atoms i
    → ((k : ℕ) → k < i → get_or xs k 0 ≡ offset atoms k) → (k : ℕ) → k < i + 1 → get_or (set xs i n) k 0 ≡ offset atoms k
offset_written atoms xs i n l e h k b = by (k == i) refl
  where
    by : (t : Bool) → (k == i) ≡ t → get_or (set xs i n) k 0 ≡ offset atoms k
    by true s = let same = eqb-true k i s in get_or-set_at xs i k n 0 same l ∙ e ∙ ap (offset atoms) (sym same)
    by false s = let other = eqb-false k i s in get_or-set_other xs i k n 0 other ∙ h k (omega arith)

rest_are : (a : Atom) (atoms : List Atom) → All AtomIsWellFormed (a ∷ atoms) → All AtomIsWellFormed atoms
rest_are a atoms h = λ k d l. h (suc k) d (omega arith)

pub offset_le : (atoms : List Atom) → All AtomIsWellFormed atoms → (k : ℕ) → offset atoms k ≤ 64 * k
unfolding offset
offset_le atoms h zero = omega arith
offset_le [] h (suc k) = omega arith
offset_le (a ∷ atoms) h (suc k) =
    let g = offset_le atoms (rest_are a atoms h) k in
    let n = (h 0 a (omega arith)).narrow in
    omega arith

number_le : (atoms : List Atom) (k : ℕ) → k ≤ length atoms → offset atoms k ≤ offset atoms (length atoms)
unfolding offset
number_le atoms zero l = omega arith
number_le [] (suc k) l = omega arith
number_le (a ∷ atoms) (suc k) l = let g = number_le atoms k (omega arith) in omega arith

pub offset_next_fits : (atoms : List Atom) (i : ℕ) (d : Atom) → All AtomIsWellFormed atoms → length atoms ≤ 16 → i < length atoms
    → offset atoms i + (get_or atoms i d).width < 2 ^ 16
offset_next_fits atoms i d h few l =
    let e = offset_step atoms i d l in
    let g = offset_le atoms h (i + 1) in
    omega arith

place_before : (atoms : List Atom) (k j c : ℕ) → k < j → k < length atoms → c < width_of atoms k → offset atoms k + c < offset atoms j
unfolding offset
place_before [] k j c o l h = absurd (omega (arith, l))
place_before (a ∷ atoms) k zero c o l h = absurd (omega (arith, o))
place_before (a ∷ atoms) zero (suc j) c o l h = omega arith
place_before (a ∷ atoms) (suc k) (suc j) c o l h = let g = place_before atoms k j c (omega arith) (omega arith) h in omega arith

pub number_below : (atoms : List Atom) (p : Place) → IsPlace atoms p → place_number atoms p < offset atoms (length atoms)
number_below atoms p h = place_before atoms p.atom (length atoms) p.column.0 h.atom h.atom h.column

bool_same : (a b : Bool) → (a ≡ true → b ≡ true) → (b ≡ true → a ≡ true) → a ≡ b
bool_same true b f g = sym (f refl)
bool_same false true f g = g refl
bool_same false false f g = refl

and_left : (a b : Bool) → (a && b) ≡ true → a ≡ true
and_left true b h = refl
and_left false b h = h

and_right : (a b : Bool) → (a && b) ≡ true → b ≡ true
and_right true b h = h
and_right false b h = cc

and_both : (a b : Bool) → a ≡ true → b ≡ true → (a && b) ≡ true
and_both true b p q = q
and_both false b p q = p

-- different places have different numbers
pub number_same : (atoms : List Atom) (p q : Place) → IsPlace atoms p → IsPlace atoms q → (place_number atoms p == place_number atoms q) ≡ same_place p q
number_same atoms p q hp hq = bool_same (place_number atoms p == place_number atoms q) (same_place p q)
    (λ e.
    let n = eqb-true (place_number atoms p) (place_number atoms q) e in
    let not_before : p.atom < q.atom → ⊥ = λ o. (let g = place_before atoms p.atom q.atom p.column.0 o hp.atom hp.column in omega arith) in
    let not_after : q.atom < p.atom → ⊥ = λ o. (let g = place_before atoms q.atom p.atom q.column.0 o hq.atom hq.column in omega arith) in
    let a : p.atom ≡ q.atom = omega arith in
    let b = ap (offset atoms) a in
    let c : p.column.0 ≡ q.column.0 = omega arith in
    and_both (p.atom == q.atom) (p.column.0 == q.column.0) (eq-eqb p.atom q.atom a) (eq-eqb p.column.0 q.column.0 c))
    (λ e.
    let a = eqb-true p.atom q.atom (and_left (p.atom == q.atom) (p.column.0 == q.column.0) e) in
    let c = eqb-true p.column.0 q.column.0 (and_right (p.atom == q.atom) (p.column.0 == q.column.0) e) in
    let b = ap (offset atoms) a in
    eq-eqb (place_number atoms p) (place_number atoms q) (omega arith))

range_append : (a m n : ℕ) → range_with_len a (m + n) ≡ range_with_len a m ++ range_with_len (a + m) n
range_append a zero n = let e : zero + n ≡ n = omega arith in let f : a + zero ≡ a = omega arith in
    ap (range_with_len a) e ∙ ap (λ b. range_with_len b n) (sym f)
range_append a (suc m) n =
    let e : suc m + n ≡ suc (m + n) = omega arith in
    let f : a + 1 + m ≡ a + suc m = omega arith in
    ap (range_with_len a) e ∙ ap (λ r. a ∷ r) (range_append (a + 1) m n ∙ ap (λ b. range_with_len (a + 1) m ++ range_with_len b n) f)

plus_range : (b a n : ℕ) → map (λ c. b + c) (range_with_len a n) ≡ range_with_len (b + a) n
plus_range b a zero = refl
plus_range b a (suc n) = let e : b + (a + 1) ≡ b + a + 1 = omega arith in ap (λ r. (b + a) ∷ r) (plus_range b (a + 1) n ∙ ap (λ c. range_with_len c n) e)

abbrev pub pieces : ℕ → List Atom → List Place
pieces n atoms = flat_map (λ a. map (place_at a.0) (range_with_len 0 a.1.width)) (enumerate_from n atoms)

map_map : {A B C : Type 0} (f : B → C) (g : A → B) (xs : List A) → map f (map g xs) ≡ map (λ x. f (g x)) xs
map_map f g [] = refl
map_map f g (x ∷ xs) = ap (λ ys. f (g x) ∷ ys) (map_map f g xs)

abbrev Continues : List Atom → ℕ → List Atom → Type 0
Continues all i rest = (k : ℕ) (d : Atom) → k < length rest → get_or all (i + k) d ≡ get_or rest k d

continues_rest : (all : List Atom) (i : ℕ) (a : Atom) (rest : List Atom) → Continues all i (a ∷ rest) → Continues all (i + 1) rest
continues_rest all i a rest h = λ k d l. let e : i + 1 + k ≡ i + suc k = omega arith in ap (λ n. get_or all n d) e ∙ h (suc k) d (omega arith)

numbers_from : (all : List Atom) (i : ℕ) (rest : List Atom) (m : ℕ) → Continues all i rest → i + length rest ≡ length all
    → offset all i + m ≡ offset all (length all)
    → map (place_number all) (pieces i rest) ≡ range_with_len (offset all i) m
numbers_from all i [] m h n e =
    let s = ap (offset all) n in
    let t = ap (offset all) (add-zero i) in
    let z : m ≡ 0 = omega arith in
    ap (range_with_len (offset all i)) (sym z)
numbers_from all i (a ∷ rest) m h n e =
    let here : get_or all i a ≡ a = ap (λ k. get_or all k a) (sym (add-zero i)) ∙ h 0 a (omega arith) in
    let s = offset_step all i a (omega arith) in
    let w = ap (λ b. b.width) here in
    let le = number_le all (i + 1) (omega arith) in
    let f : offset all (i + 1) + (m - a.width) ≡ offset all (length all) = omega arith in
    let g = numbers_from all (i + 1) rest (m - a.width) (continues_rest all i a rest h) (omega arith) f in
    let j : offset all i + a.width ≡ offset all (i + 1) = omega arith in
    let o : offset all i + 0 ≡ offset all i = omega arith in
    let r : a.width + (m - a.width) ≡ m = omega arith in
    map-append (place_number all) (map (place_at i) (range_with_len 0 a.width)) (pieces (i + 1) rest)
    ∙ ap (λ ns. ns ++ map (place_number all) (pieces (i + 1) rest))
    (map_map (place_number all) (place_at i) (range_with_len 0 a.width) ∙ plus_range (offset all i) 0 a.width ∙ ap (λ b. range_with_len b a.width) o)
    ∙ ap (λ ns. range_with_len (offset all i) a.width ++ ns) (g ∙ ap (λ b. range_with_len b (m - a.width)) (sym j))
    ∙ sym (range_append (offset all i) a.width (m - a.width))
    ∙ ap (range_with_len (offset all i)) r

-- the numbers of all places are those below their count
pub numbers_of_places : (atoms : List Atom) → map (place_number atoms) (places_of atoms) ≡ range_with_len 0 (offset atoms (length atoms))
numbers_of_places atoms =
    let z = offset_zero atoms in
    numbers_from atoms 0 atoms (offset atoms (length atoms)) (λ k d l. ap (λ n. get_or atoms n d) (zero-add k)) (zero-add (length atoms))
    (ap (λ n. n + offset atoms (length atoms)) z ∙ zero-add (offset atoms (length atoms)))
    ∙ ap (λ b. range_with_len b (offset atoms (length atoms))) z

pub width_at : (atoms : List Atom) (k : ℕ) (d : Atom) → k < length atoms → width_of atoms k ≡ (get_or atoms k d).width
width_at [] k d l = absurd (omega (arith, l))
width_at (a ∷ atoms) zero d l = refl
width_at (a ∷ atoms) (suc k) d l = width_at atoms k d (omega arith)

pub in_range : (a n c : ℕ) → Has (range_with_len a n) c → c < a + n
in_range a zero c h = absurd h
in_range a (suc n) c (inl e) = omega arith
in_range a (suc n) c (inr h) = let g = in_range (a + 1) n c h in omega arith

pieces_are : (all : List Atom) (i : ℕ) (rest : List Atom) → Continues all i rest → i + length rest ≡ length all → (p : Place) → Has (pieces i rest) p
    → IsPlace all p
pieces_are all i [] h n p m = absurd m
pieces_are all i (a ∷ rest) h n p m = elim (Has-append_cases (map (place_at i) (range_with_len 0 a.width)) (pieces (i + 1) rest) p m) [
  | inl g ↦ (
      let r = Has-from_map (place_at i) (range_with_len 0 a.width) p g in
      let below = in_range 0 a.width r.0 r.1 in
      let here : get_or all i a ≡ a = ap (λ k. get_or all k a) (sym (add-zero i)) ∙ h 0 a (omega arith) in
      let w = width_at all i a (omega arith) ∙ ap (λ b. b.width) here in
      subst (IsPlace all) (sym r.2) (record { atom = omega arith; column = omega arith }))
  | inr g ↦ pieces_are all (i + 1) rest (continues_rest all i a rest h) (omega arith) p g
]

pub places_are : (atoms : List Atom) (p : Place) → Has (places_of atoms) p → IsPlace atoms p
places_are atoms p h = pieces_are atoms 0 atoms (λ k d l. ap (λ n. get_or atoms n d) (zero-add k)) (zero-add (length atoms)) p h

-- the places of an atom stand side by side
pub places_within : (atoms : List Atom) (k : ℕ) → k < length atoms → offset atoms k + width_of atoms k ≤ offset atoms (length atoms)
places_within atoms k l =
    let d : Atom = record { table = record { 0 = 0 }; width = 0 } in
    let s = offset_step atoms k d l in
    let g = width_at atoms k d l in
    let n = number_le atoms (k + 1) (omega arith) in
    omega arith

pub window : (xs : List ℕ) (a n : ℕ) → a + n ≤ length xs → map (λ c. get_or xs (a + c) 0) (range_with_len 0 n) ≡ take n (drop a xs)
window xs a zero l = refl
window xs a (suc n) l =
    let long = length-drop a xs in
    ap (λ k. map (λ c. get_or xs (a + c) 0) (range_with_len 0 k)) (sym (add-one n))
    ∙ map-range_with_len_more (λ c. get_or xs (a + c) 0) 0 n n (zero-add n)
    ∙ ap (λ ys. ys ++ get_or xs (a + n) 0 ∷ []) (window xs a n (omega arith))
    ∙ ap (λ y. take n (drop a xs) ++ y ∷ []) (sym (get_or-drop a xs n 0))
    ∙ sym (take-suc (drop a xs) n 0 (omega arith))

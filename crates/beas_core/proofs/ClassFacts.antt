-- The classes of a block are those of the least equivalence that holds its equalities.
use Rattle.std.proofs.Common.{◌≡◌, ◌==◌, ◌&&◌, ◌||◌, ◌<◌, ◌≤◌, ◌+◌, ℕ, zero, suc, Bool, true, false, not, cond, List, [], ◌∷◌, length, map, get_or, ◌⊎◌, inl, inr, refl, ap, sym, ◌∙◌, subst, arith}
use Rattle.std.specs.List.{list_any, range_with_len, enumerate_from, position_or_len}
use Rattle.std.proofs.lemmas.Bool.{eqb-true}
use Rattle.std.proofs.lemmas.List.Sums.{passes_at_first}
use Rattle.std.proofs.lemmas.List.Elements.{All-contains, All-from_recursion}
use Rattle.beas_core.specs.declared.query.Atom.{Atom}
use Rattle.beas_core.specs.declared.query.Place.{Place}
use Rattle.beas_core.specs.declared.query.Block.{Block}
use Rattle.beas_core.specs.Shapes.{IsPlace, BlockIsWellFormed, width_of}
use Rattle.beas_core.specs.Classes.{Linked, itself, equated, turned, chained, same_place, is_joined, places_of, firsts, leaders, class_of, normal_of}
use Rattle.beas_core.specs.Coverage.{ClassesInRange, ConstantsInRange}
use Rattle.beas_core.proofs.Sets.{Has, Has-map, Has-from_map, Has-filter, Has-from_contains, Contains-from_has, all_from}
use Rattle.beas_core.proofs.MemberTests.{and_left, and_right, and_both, or_cases, or_left, or_right, to_not, which, any_by, Has-flat_map}
use Rattle.beas_core.proofs.UseFacts.{same_number}
use Rattle.beas_core.proofs.BindingFacts.{Has-range}

abbrev made : ℕ → ℕ → Place
made a c = record { atom = a; column = record { 0 = c } }

pub place_from_test : (p q : Place) → same_place p q ≡ true → p ≡ q
place_from_test p q h =
    let a = eqb-true p.atom q.atom (and_left (p.atom == q.atom) (p.column.0 == q.column.0) h) in
    let c = eqb-true p.column.0 q.column.0 (and_right (p.atom == q.atom) (p.column.0 == q.column.0) h) in
    ap (λ n. made n p.column.0) a ∙ ap (made q.atom) c

-- the three ways in which two places are joined
abbrev First : List (Place × Place) → Place × Place → Place → Place → Type 0
First es e p q = is_joined es p q ≡ true

abbrev Second : List (Place × Place) → Place × Place → Place → Place → Type 0
Second es e p q = (is_joined es p e.0 ≡ true) × (is_joined es e.1 q ≡ true)

abbrev Third : List (Place × Place) → Place × Place → Place → Place → Type 0
Third es e p q = (is_joined es p e.1 ≡ true) × (is_joined es e.0 q ≡ true)

first : (es : List (Place × Place)) (e : Place × Place) (p q : Place) → First es e p q → is_joined (e ∷ es) p q ≡ true
first es e p q h = or_left (is_joined es p q || (is_joined es p e.0 && is_joined es e.1 q)) (is_joined es p e.1 && is_joined es e.0 q)
    (or_left (is_joined es p q) (is_joined es p e.0 && is_joined es e.1 q) h)

second : (es : List (Place × Place)) (e : Place × Place) (p q : Place) → Second es e p q → is_joined (e ∷ es) p q ≡ true
second es e p q h = or_left (is_joined es p q || (is_joined es p e.0 && is_joined es e.1 q)) (is_joined es p e.1 && is_joined es e.0 q)
    (or_right (is_joined es p q) (is_joined es p e.0 && is_joined es e.1 q) (and_both (is_joined es p e.0) (is_joined es e.1 q) h.0 h.1))

third : (es : List (Place × Place)) (e : Place × Place) (p q : Place) → Third es e p q → is_joined (e ∷ es) p q ≡ true
third es e p q h = or_right (is_joined es p q || (is_joined es p e.0 && is_joined es e.1 q)) (is_joined es p e.1 && is_joined es e.0 q)
    (and_both (is_joined es p e.1) (is_joined es e.0 q) h.0 h.1)

cases : (es : List (Place × Place)) (e : Place × Place) (p q : Place) → is_joined (e ∷ es) p q ≡ true → First es e p q ⊎ (Second es e p q ⊎ Third es e p q)
cases es e p q h = elim (or_cases (is_joined es p q || (is_joined es p e.0 && is_joined es e.1 q)) (is_joined es p e.1 && is_joined es e.0 q) h) [
  | inl g ↦ elim (or_cases (is_joined es p q) (is_joined es p e.0 && is_joined es e.1 q) g) [
    | inl k ↦ inl k
    | inr k ↦ inr (inl (and_left (is_joined es p e.0) (is_joined es e.1 q) k, and_right (is_joined es p e.0) (is_joined es e.1 q) k))
  ]
  | inr g ↦ inr (inr (and_left (is_joined es p e.1) (is_joined es e.0 q) g, and_right (is_joined es p e.1) (is_joined es e.0 q) g))
]

pub is_joined_itself : (es : List (Place × Place)) (p : Place) → is_joined es p p ≡ true
is_joined_itself [] p = and_both (p.atom == p.atom) (p.column.0 == p.column.0) (same_number p.atom p.atom refl) (same_number p.column.0 p.column.0 refl)
is_joined_itself (e ∷ es) p = first es e p p (is_joined_itself es p)

pub is_joined_turned : (es : List (Place × Place)) (p q : Place) → is_joined es p q ≡ true → is_joined es q p ≡ true
is_joined_turned [] p q h = let e = place_from_test p q h in subst (λ r. same_place r p ≡ true) e (is_joined_itself [] p)
is_joined_turned (e ∷ es) p q h = elim (cases es e p q h) [
  | inl g ↦ first es e q p (is_joined_turned es p q g)
  | inr g ↦ elim g [
    | inl k ↦ third es e q p (is_joined_turned es e.1 q k.1, is_joined_turned es p e.0 k.0)
    | inr k ↦ second es e q p (is_joined_turned es e.0 q k.1, is_joined_turned es p e.1 k.0)
  ]
]

pub is_joined_chained : (es : List (Place × Place)) (p q r : Place) → is_joined es p q ≡ true → is_joined es q r ≡ true → is_joined es p r ≡ true
is_joined_chained [] p q r h g = let e = place_from_test p q h in subst (λ s. same_place s r ≡ true) (sym e) g
is_joined_chained (e ∷ es) p q r h g = elim (cases es e p q h) [
  | inl a ↦ elim (cases es e q r g) [
    | inl b ↦ first es e p r (is_joined_chained es p q r a b)
    | inr c ↦ elim c [
      | inl b ↦ second es e p r (is_joined_chained es p q e.0 a b.0, b.1)
      | inr b ↦ third es e p r (is_joined_chained es p q e.1 a b.0, b.1)
    ]
  ]
  | inr d ↦ elim d [
    | inl a ↦ elim (cases es e q r g) [
      | inl b ↦ second es e p r (a.0, is_joined_chained es e.1 q r a.1 b)
      | inr c ↦ elim c [
        | inl b ↦ second es e p r (a.0, b.1)
        | inr b ↦ first es e p r (is_joined_chained es p e.0 r a.0 b.1)
      ]
    ]
    | inr a ↦ elim (cases es e q r g) [
      | inl b ↦ third es e p r (a.0, is_joined_chained es e.0 q r a.1 b)
      | inr c ↦ elim c [
        | inl b ↦ first es e p r (is_joined_chained es p e.1 r a.0 b.1)
        | inr b ↦ third es e p r (a.0, b.1)
      ]
    ]
  ]
]

is_joined_here : (es : List (Place × Place)) (p q : Place) → Has es (p, q) → is_joined es p q ≡ true
is_joined_here [] p q h = absurd h
is_joined_here (e ∷ es) p q (inl d) =
    let a : p ≡ e.0 = ap (λ x. x.0) d in
    let b : q ≡ e.1 = ap (λ x. x.1) d in
    second es e p q (subst (λ x. is_joined es p x ≡ true) a (is_joined_itself es p), subst (λ x. is_joined es x q ≡ true) b (is_joined_itself es q))
is_joined_here (e ∷ es) p q (inr h) = first es e p q (is_joined_here es p q h)

-- the least equivalence is computed
pub is_joined_from_linked : (es : List (Place × Place)) (p q : Place) → Linked es p q → is_joined es p q ≡ true
is_joined_from_linked es p q (itself r) = is_joined_itself es r
is_joined_from_linked es p q (equated r s h) = is_joined_here es r s (Has-from_contains es (r, s) h)
is_joined_from_linked es p q (turned r s h) = is_joined_turned es r s (is_joined_from_linked es r s h)
is_joined_from_linked es p q (chained r s t h g) = is_joined_chained es r s t (is_joined_from_linked es r s h) (is_joined_from_linked es s t g)

linked_more : (es : List (Place × Place)) (e : Place × Place) (p q : Place) → Linked es p q → Linked (e ∷ es) p q
linked_more es e p q (itself r) = itself r
linked_more es e p q (equated r s h) = equated r s (Contains-from_has (e ∷ es) (r, s) (inr (Has-from_contains es (r, s) h)))
linked_more es e p q (turned r s h) = turned r s (linked_more es e r s h)
linked_more es e p q (chained r s t h g) = chained r s t (linked_more es e r s h) (linked_more es e s t g)

pub linked_from_is_joined : (es : List (Place × Place)) (p q : Place) → is_joined es p q ≡ true → Linked es p q
linked_from_is_joined [] p q h = subst (Linked [] p) (place_from_test p q h) (itself p)
linked_from_is_joined (e ∷ es) p q h = by (cases es e p q h) (linked_from_is_joined es)
  where
    here : Linked (e ∷ es) e.0 e.1
    here = equated e.0 e.1 (Contains-from_has (e ∷ es) (e.0, e.1) (inl refl))

    by : First es e p q ⊎ (Second es e p q ⊎ Third es e p q) → ((r s : Place) → is_joined es r s ≡ true → Linked es r s) → Linked (e ∷ es) p q
    by (inl a) later = linked_more es e p q (later p q a)
    by (inr (inl a)) later = chained p e.0 q (linked_more es e p e.0 (later p e.0 a.0)) (chained e.0 e.1 q here (linked_more es e e.1 q (later e.1 q a.1)))
    by (inr (inr a)) later = chained p e.1 q (linked_more es e p e.1 (later p e.1 a.0))
        (chained e.1 e.0 q (turned e.0 e.1 here) (linked_more es e e.0 q (later e.0 q a.1)))

-- each place is joined with a leader
leader_for : (es : List (Place × Place)) (ps : List Place) (p : Place) → Has ps p → (l : Place) × (Has (firsts (is_joined es) ps) l) × (is_joined es l p ≡ true)
leader_for es [] p h = absurd h
leader_for es (x ∷ xs) p (inl e) = (x, inl refl, subst (λ r. is_joined es x r ≡ true) (sym e) (is_joined_itself es x))
leader_for es (x ∷ xs) p (inr h) =
    let r = leader_for es xs p h in
    elim (which (is_joined es x r.0)) [
      | inl e ↦ (x, inl refl, is_joined_chained es x r.0 p e r.2)
      | inr e ↦ (r.0, inr (Has-filter (λ q. not (is_joined es x q)) (firsts (is_joined es) xs) r.0 r.1 (to_not (is_joined es x r.0) e)), r.2)
    ]

-- the first place that passes a test
place_below : {K : Type 0} (p : K → Bool) (xs : List K) → list_any p xs ≡ true → position_or_len p xs < length xs
place_below p [] h = cc
place_below {K} p (x ∷ xs) h = by (p x) h (place_below p xs)
  where
    by : (b : Bool) → (b || list_any p xs) ≡ true → (list_any p xs ≡ true → position_or_len p xs < length xs)
        → cond (not b) (1 + position_or_len p xs) 0 < length (x ∷ xs)
    by true g later = omega arith
    by false g later = let l = later g in omega arith

same_position : {K : Type 0} (p q : K → Bool) → ((x : K) → p x ≡ q x) → (xs : List K) → position_or_len p xs ≡ position_or_len q xs
same_position p q e [] = refl
same_position p q e (x ∷ xs) = ap (λ b. cond (not b) (1 + position_or_len p xs) 0) (e x) ∙ ap (λ n. cond (not (q x)) (1 + n) 0) (same_position p q e xs)

bool_same : (a b : Bool) → (a ≡ true → b ≡ true) → (b ≡ true → a ≡ true) → a ≡ b
bool_same true b f g = sym (f refl)
bool_same false true f g = g refl
bool_same false false f g = refl

pub has_enumerated : {A : Type 0} (n k : ℕ) (xs : List A) (d : A) → k < length xs → Has (enumerate_from n xs) (n + k, get_or xs k d)
has_enumerated n k [] d l = absurd (omega (arith, l))
has_enumerated {A} n zero (x ∷ xs) d l = inl (let e : n + 0 ≡ n = omega arith in ap (λ m. (m, x)) e)
has_enumerated {A} n (suc k) (x ∷ xs) d l =
    let e : n + 1 + k ≡ n + suc k = omega arith in
    inr (subst (λ m. Has (enumerate_from (n + 1) xs) (m, get_or xs k d)) e (has_enumerated (n + 1) k xs d (omega arith)))

has_get_or : {A : Type 0} (xs : List A) (k : ℕ) (d : A) → Has xs (get_or xs k d) ⊎ (get_or xs k d ≡ d)
has_get_or [] k d = inr refl
has_get_or (x ∷ xs) zero d = inl (inl refl)
has_get_or (x ∷ xs) (suc k) d = elim (has_get_or xs k d) [ inl h ↦ inl (inr h) | inr e ↦ inr e ]

pub width_at : (atoms : List Atom) (k : ℕ) (d : Atom) → k < length atoms → width_of atoms k ≡ (get_or atoms k d).width
width_at [] k d l = absurd (omega (arith, l))
width_at (a ∷ atoms) zero d l = refl
width_at (a ∷ atoms) (suc k) d l = width_at atoms k d (omega arith)

pub has_place : (atoms : List Atom) (p : Place) → IsPlace atoms p → Has (places_of atoms) p
has_place atoms p h =
    let none : Atom = record { table = record { 0 = 0 }; width = 0 } in
    let a = get_or atoms p.atom none in
    let e : 0 + p.atom ≡ p.atom = omega arith in
    let m = subst (λ n. Has (enumerate_from 0 atoms) (n, a)) e (has_enumerated 0 p.atom atoms none h.atom) in
    let w = width_at atoms p.atom none h.atom in
    Has-flat_map (λ b. map (λ c. record { atom = b.0; column = record { 0 = c } }) (range_with_len 0 b.1.width)) (enumerate_from 0 atoms) (p.atom, a) p m
    (Has-map (λ c. record { atom = p.atom; column = record { 0 = c } }) (range_with_len 0 a.width) p.column.0
    (Has-range a.width 0 p.column.0 (omega arith) (let l = h.column in omega arith)))

module _ (block : Block) where
  pub leads : (p : Place) → Has (places_of block.atoms) p → list_any (λ l. is_joined block.equalities l p) (leaders block) ≡ true
  leads p h = let r = leader_for block.equalities (places_of block.atoms) p h in any_by (λ l. is_joined block.equalities l p) (leaders block) r.0 r.1 r.2

  pub class_below : (p : Place) → Has (places_of block.atoms) p → class_of block p < length (leaders block)
  class_below p h = place_below (λ l. is_joined block.equalities l p) (leaders block) (leads p h)

  pub class_from_linked : (p q : Place) → Linked block.equalities p q → class_of block p ≡ class_of block q
  class_from_linked p q h =
      let j = is_joined_from_linked block.equalities p q h in
      same_position (λ l. is_joined block.equalities l p) (λ l. is_joined block.equalities l q)
      (λ l. bool_same (is_joined block.equalities l p) (is_joined block.equalities l q)
      (λ g. is_joined_chained block.equalities l p q g j) (λ g. is_joined_chained block.equalities l q p g (is_joined_turned block.equalities p q j)))
      (leaders block)

  pub linked_from_class : (p q : Place) → Has (places_of block.atoms) p → Has (places_of block.atoms) q → class_of block p ≡ class_of block q
      → Linked block.equalities p q
  linked_from_class p q hp hq e =
      let a = passes_at_first (λ l. is_joined block.equalities l p) (leaders block) p (class_below p hp) in
      let b = passes_at_first (λ l. is_joined block.equalities l q) (leaders block) p (class_below q hq) in
      let leader = get_or (leaders block) (class_of block p) p in
      let c = subst (λ k. is_joined block.equalities (get_or (leaders block) k p) q ≡ true) (sym e) b in
      linked_from_is_joined block.equalities p q (is_joined_chained block.equalities p leader q (is_joined_turned block.equalities leader p a) c)

  module _ (shape : BlockIsWellFormed block) where
    some_leader : 0 < length (leaders block)
    some_leader = by block.atoms refl shape.some_atom
      where
        by : (atoms : List Atom) → block.atoms ≡ atoms → 1 ≤ length atoms → 0 < length (leaders block)
        by [] e l = absurd (omega (arith, l))
        by (a ∷ atoms) e l =
            let wide = (shape.widths 0 a (subst (λ xs. 0 < length xs) (sym e) (omega arith))).wide in
            let first_atom = ap (λ xs. get_or xs 0 a) e in
            let wide_first = subst (λ b. 1 ≤ b.width) first_atom wide in
            let h = subst (λ xs. Has (places_of xs) (made 0 0)) (sym e)
            (has_place (a ∷ atoms) (made 0 0) (record { atom = omega arith; column = omega arith })) in
            let k = class_below (made 0 0) h in
            omega arith

    pub classes_in_range : ClassesInRange (normal_of block)
    unfolding normal_of
    classes_in_range atom
        column = elim (has_get_or (map (λ a. map (λ c. class_of block (made a.0 c)) (range_with_len 0 a.1.width)) (enumerate_from 0 block.atoms)) atom []) [
          | inr e ↦ subst (λ cs. get_or cs column.0 0 < length (leaders block)) (sym e) some_leader
          | inl h ↦ elim (has_get_or
              (get_or (map (λ a. map (λ c. class_of block (made a.0 c)) (range_with_len 0 a.1.width)) (enumerate_from 0 block.atoms)) atom []) column.0 0) [
                | inr e ↦ subst (λ n. n < length (leaders block)) (sym e) some_leader
                | inl g ↦ (
                    let m = Has-from_map (λ a. map (λ c. class_of block (made a.0 c)) (range_with_len 0 a.1.width)) (enumerate_from 0 block.atoms)
                    (get_or (map (λ a. map (λ c. class_of block (made a.0 c)) (range_with_len 0 a.1.width)) (enumerate_from 0 block.atoms)) atom []) h in
                    let in_row = subst (λ cs. Has cs
                    (get_or (get_or (map (λ a. map (λ c. class_of block (made a.0 c)) (range_with_len 0 a.1.width)) (enumerate_from 0 block.atoms)) atom [])
                    column.0 0)) m.2 g in
                    let c = Has-from_map (λ k. class_of block (made m.0.0 k)) (range_with_len 0 m.0.1.width)
                    (get_or (get_or (map (λ a. map (λ k. class_of block (made a.0 k)) (range_with_len 0 a.1.width)) (enumerate_from 0 block.atoms)) atom [])
                    column.0 0) in_row in
                    let member = Has-flat_map (λ b. map (λ k. made b.0 k) (range_with_len 0 b.1.width)) (enumerate_from 0 block.atoms) m.0 (made m.0.0 c.0) m.1
                    (Has-map (λ k. made m.0.0 k) (range_with_len 0 m.0.1.width) c.0 c.1) in
                    subst (λ n. n < length (leaders block)) (sym c.2) (class_below (made m.0.0 c.0) member))
              ]
        ]

    pub constants_in_range : ConstantsInRange (normal_of block)
    unfolding normal_of
    constants_in_range = All-from_recursion (λ c. c.0 < length (leaders block)) (map (λ c. (class_of block c.0, c.1)) block.constants)
        (all_from (λ c. c.0 < length (leaders block)) (map (λ c. (class_of block c.0, c.1)) block.constants) (λ c h.
        let m = Has-from_map (λ d. (class_of block d.0, d.1)) block.constants c h in
        let place = All-contains (λ d. IsPlace block.atoms d.0) block.constants m.0 shape.constants (Contains-from_has block.constants m.0 m.1) in
        subst (λ n. n < length (leaders block)) (sym (ap (λ d. d.0) m.2)) (class_below m.0.0 (has_place block.atoms m.0.0 place))))

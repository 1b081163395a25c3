-- The classes of a block are numbered by their first place, and each number is the class of some place.
use Rattle.std.proofs.Common.{◌≡◌, ◌<◌, ◌+◌, ℕ, zero, suc, Bool, true, false, not, cond, List, [], ◌∷◌, ◌++◌, length, map, get_or, ◌⊎◌, inl, inr, refl, ap, sym, ◌∙◌, subst, arith}
use Rattle.std.specs.List.{AllByRecursion, filter, flat_map, range_with_len, enumerate_from}
use Rattle.std.proofs.lemmas.List.Sums.{passes_at_first, position_or_len_is}
use Rattle.beas_core.specs.declared.query.Atom.{Atom}
use Rattle.beas_core.specs.declared.query.Place.{Place}
use Rattle.beas_core.specs.declared.query.Block.{Block}
use Rattle.beas_core.specs.Shapes.{IsPlace, width_of}
use Rattle.beas_core.specs.Classes.{is_joined, places_of, firsts, leaders, class_of}
use Rattle.beas_core.proofs.Sets.{Has, Has-from_map, Has-from_filter, Has-append_cases, Has-get_or, all_at, all_from}
use Rattle.beas_core.specs.Numbering.{StandsBefore, FirstPlace}
use Rattle.beas_core.proofs.MemberTests.{from_not, which, Has-from_flat_map}
use Rattle.beas_core.proofs.ClassFacts.{is_joined_itself, is_joined_turned, has_place, class_below, width_at}
use Rattle.beas_core.proofs.BindingFacts.{from_range, range_least}
use Rattle.beas_core.proofs.UseFacts.{enumerated}

-- a list of places, each before all later ones
abbrev InOrder : List Place → Type 0
InOrder [] = Unit {0}
InOrder (p ∷ ps) = AllByRecursion (StandsBefore p) ps × InOrder ps

not_before_itself : (p q : Place) → p ≡ q → StandsBefore p q → ⊥
not_before_itself p q e (inl l) = let a = ap (λ x. x.atom) e in omega (arith, a, l)
not_before_itself p q e (inr r) = let c = ap (λ x. x.column.0) e in let l = r.1 in omega (arith, c, l)

before_chained : (p q r : Place) → StandsBefore p q → StandsBefore q r → StandsBefore p r
before_chained p q r (inl a) (inl b) = inl (omega (arith, a, b))
before_chained p q r (inl a) (inr b) = inl (let e = b.0 in omega (arith, a, e))
before_chained p q r (inr a) (inl b) = inl (let e = a.0 in omega (arith, e, b))
before_chained p q r (inr a) (inr b) = inr (a.0 ∙ b.0, let l = a.1 in let m = b.1 in omega (arith, l, m))

not_before_both : (p q : Place) → StandsBefore p q → StandsBefore q p → ⊥
not_before_both p q a b = not_before_itself p p refl (before_chained p q p a b)

in_order-append : (ps qs : List Place) → InOrder ps → InOrder qs → ((p q : Place) → Has ps p → Has qs q → StandsBefore p q) → InOrder (ps ++ qs)
in_order-append [] qs a b h = b
in_order-append (p ∷ ps) qs a b h = (
  all_from (StandsBefore p) (ps ++ qs) (λ q m. elim (Has-append_cases ps qs q m) [
    | inl k ↦ all_at (StandsBefore p) ps q a.0 k
    | inr k ↦ h p q (inl refl) k
  ]),
  in_order-append ps qs a.1 b (λ r q m k. h r q (inr m) k),
)

in_order-filter : (test : Place → Bool) (ps : List Place) → InOrder ps → InOrder (filter test ps)
in_order-filter test [] h = tt
in_order-filter test (p ∷ ps) h = by (test p) (in_order-filter test ps h.1)
  where
    by : (b : Bool) → InOrder (filter test ps) → InOrder (cond b (p ∷ filter test ps) (filter test ps))
    by true rest = (all_from (StandsBefore p) (filter test ps) (λ q m. all_at (StandsBefore p) ps q h.0 (Has-from_filter test ps q m).0), rest)
    by false rest = rest

in_order-at : (ps : List Place) (i j : ℕ) (d : Place) → InOrder ps → i < j → j < length ps → StandsBefore (get_or ps i d) (get_or ps j d)
in_order-at [] i j d h l m = absurd (omega (arith, m))
in_order-at (p ∷ ps) i zero d h l m = absurd (omega (arith, l))
in_order-at (p ∷ ps) zero (suc j) d h l m = all_at (StandsBefore p) ps (get_or ps j d) h.0 (Has-get_or ps j d (omega arith))
in_order-at (p ∷ ps) (suc i) (suc j) d h l m = in_order-at ps i j d h.1 (omega arith) (omega arith)

-- all places stand in order
module _ (atom : ℕ) where
  abbrev at : ℕ → Place
  at c = record { atom = atom; column = record { 0 = c } }

  columns_in_order : (n from : ℕ) → InOrder (map at (range_with_len from n))
  columns_in_order zero from = tt
  columns_in_order (suc n) from = (
    all_from (StandsBefore (at from)) (map at (range_with_len (from + 1) n)) (λ q m.
        let r = Has-from_map at (range_with_len (from + 1) n) q m in
        let least = range_least n (from + 1) r.0 r.1 in
        inr (sym (ap (λ p. p.atom) r.2), (let e = ap (λ p. p.column.0) r.2 in omega (arith, e, least)))),
    columns_in_order n (from + 1),
  )

abbrev on_atom : ℕ × Atom → List Place
on_atom a = map (λ c. record { atom = a.0; column = record { 0 = c } }) (range_with_len 0 a.1.width)

of_atom : (a : ℕ × Atom) (p : Place) → Has (on_atom a) p → p.atom ≡ a.0
of_atom a p h = let m = Has-from_map (λ c. record { atom = a.0; column = record { 0 = c } }) (range_with_len 0 a.1.width) p h in ap (λ q. q.atom) m.2

atoms_in_order : (n : ℕ) (atoms : List Atom) → InOrder (flat_map on_atom (enumerate_from n atoms))
atoms_in_order n [] = tt
atoms_in_order n (a ∷ atoms) =
    in_order-append (on_atom (n, a)) (flat_map on_atom (enumerate_from (n + 1) atoms)) (columns_in_order n a.width 0) (atoms_in_order (n + 1) atoms)
    (λ p q m k.
    let r = Has-from_flat_map on_atom (enumerate_from (n + 1) atoms) q k in
    let f = enumerated (λ x. x) a (n + 1) atoms r.0 r.1 in
    let here = of_atom (n, a) p m in
    let there = of_atom r.0 q r.2 in
    let number = f.2 in
    inl (omega (arith, here, there, number)))

pub place_of_list : (atoms : List Atom) (p : Place) → Has (places_of atoms) p → IsPlace atoms p
place_of_list atoms p h =
    let r = Has-from_flat_map on_atom (enumerate_from 0 atoms) p h in
    let none : Atom = record { table = record { 0 = 0 }; width = 0 } in
    let f = enumerated (λ a. a) none 0 atoms r.0 r.1 in
    let m = Has-from_map (λ c. record { atom = r.0.0; column = record { 0 = c } }) (range_with_len 0 r.0.1.width) p r.2 in
    let number = f.2 in
    let atom : p.atom ≡ f.0 = ap (λ q. q.atom) m.2 ∙ f.2 ∙ zero_plus f.0 in
    let below = from_range r.0.1.width 0 m.0 m.1 in
    let column : p.column.0 ≡ m.0 = ap (λ q. q.column.0) m.2 in
    let width : width_of atoms p.atom ≡ r.0.1.width = ap (width_of atoms) atom ∙ width_at atoms f.0 none f.1
    ∙ ap (λ a. a.width) (same_member atoms f.0 none f.3) in
    record { atom = subst (λ n. n < length atoms) (sym atom) f.1; column = omega (arith, below, column, width) }
  where
    zero_plus : (n : ℕ) → 0 + n ≡ n
    zero_plus n = omega arith

    same_member : (xs : List Atom) (k : ℕ) (d : Atom) {a : Atom} → get_or (map (λ x. x) xs) k d ≡ a → get_or xs k d ≡ a
    same_member [] k d e = e
    same_member (x ∷ xs) zero d e = e
    same_member (x ∷ xs) (suc k) d e = same_member xs k d e

-- a leader is the first of its class
module _ (es : List (Place × Place)) where
  firsts_in_order : (ps : List Place) → InOrder ps → InOrder (firsts (is_joined es) ps)
  firsts_in_order [] h = tt
  firsts_in_order (p ∷ ps) h = (
    all_from (StandsBefore p) (filter (λ q. not (is_joined es p q)) (firsts (is_joined es) ps)) (λ q m.
        all_at (StandsBefore p) ps q h.0 (member ps q (Has-from_filter (λ r. not (is_joined es p r)) (firsts (is_joined es) ps) q m).0)),
    in_order-filter (λ q. not (is_joined es p q)) (firsts (is_joined es) ps) (firsts_in_order ps h.1),
  )
    where
      member : (qs : List Place) (q : Place) → Has (firsts (is_joined es) qs) q → Has qs q
      member [] q m = m
      member (r ∷ qs) q (inl e) = inl e
      member (r ∷ qs) q (inr m) = inr (member qs q (Has-from_filter (λ x. not (is_joined es r x)) (firsts (is_joined es) qs) q m).0)

  leader_first : (ps : List Place) → InOrder ps → (l q : Place) → Has (firsts (is_joined es) ps) l → Has ps q → is_joined es l q ≡ true
      → (q ≡ l) ⊎ StandsBefore l q
  leader_first [] h l q m k j = absurd m
  leader_first (p ∷ ps) h l q (inl e) (inl d) j = inl (d ∙ sym e)
  leader_first (p ∷ ps) h l q (inl e) (inr k) j = inr (subst (λ x. StandsBefore x q) (sym e) (all_at (StandsBefore p) ps q h.0 k))
  leader_first (p ∷ ps) h l q (inr m) (inl d) j =
      let f = Has-from_filter (λ x. not (is_joined es p x)) (firsts (is_joined es) ps) l m in
      let none = from_not (is_joined es p l) f.1 in
      let some = subst (λ x. is_joined es x l ≡ true) d (is_joined_turned es l q j) in
      cc
  leader_first (p ∷ ps) h l q (inr m) (inr k) j =
      leader_first ps h.1 l q (Has-from_filter (λ x. not (is_joined es p x)) (firsts (is_joined es) ps) l m).0 k j

  pub leader_listed : (ps : List Place) (q : Place) → Has (firsts (is_joined es) ps) q → Has ps q
  leader_listed [] q m = m
  leader_listed (r ∷ ps) q (inl e) = inl e
  leader_listed (r ∷ ps) q (inr m) = inr (leader_listed ps q (Has-from_filter (λ x. not (is_joined es r x)) (firsts (is_joined es) ps) q m).0)

module _ (block : Block) where
  abbrev all_places : List Place
  all_places = places_of block.atoms

  none : Place
  none = record { atom = 0; column = record { 0 = 0 } }

  abbrev leader : ℕ → Place
  leader k = get_or (leaders block) k none

  ordered : InOrder (leaders block)
  ordered = firsts_in_order block.equalities (places_of block.atoms) (atoms_in_order 0 block.atoms)

  leader_in : (k : ℕ) → k < length (leaders block) → Has (leaders block) (leader k)
  leader_in k l = Has-get_or (leaders block) k none l

  first_of : (k : ℕ) (q : Place) → k < length (leaders block) → Has all_places q → is_joined block.equalities (leader k) q ≡ true
      → (q ≡ leader k) ⊎ StandsBefore (leader k) q
  first_of k q l m j = leader_first block.equalities all_places (atoms_in_order 0 block.atoms) (leader k) q (leader_in k l) m j

  -- two leaders aren't joined
  apart : (i j : ℕ) → i < j → j < length (leaders block) → is_joined block.equalities (leader i) (leader j) ≡ false
  apart i j l m = elim (which (is_joined block.equalities (leader i) (leader j))) [
    | inr e ↦ e
    | inl e ↦ (
        let order = in_order-at (leaders block) i j none ordered l m in
        let i_below : i < length (leaders block) = omega (arith, l, m) in
        let listed = leader_listed block.equalities all_places (leader i) (leader_in i i_below) in
        absurd (elim (first_of j (leader i) m listed (is_joined_turned block.equalities (leader i) (leader j) e)) [
          | inl same ↦ not_before_itself (leader i) (leader j) same order
          | inr turned ↦ not_before_both (leader i) (leader j) order turned
        ]))
  ]

  class_of_leader : (k : ℕ) → k < length (leaders block) → class_of block (leader k) ≡ k
  class_of_leader k l =
      position_or_len_is (λ q. is_joined block.equalities q (leader k)) (leaders block) k none (omega (arith, l))
      (λ i m. apart i k m l) (λ m. is_joined_itself block.equalities (leader k))

  lesser : (k : ℕ) → k < length (leaders block) → (q : Place) → Has all_places q → StandsBefore q (leader k) → class_of block q < k
  lesser k l q m before = elim (compare_numbers (class_of block q) k) [
    | inl less ↦ less
    | inr rest ↦ (
        let below = class_below block q m in
        let j = passes_at_first (λ x. is_joined block.equalities x q) (leaders block) none below in
        let own = elim (first_of (class_of block q) q below m j) as (λ x. StandsBefore (leader (class_of block q)) (leader k)) [
          | inl same ↦ subst (λ x. StandsBefore x (leader k)) same before
          | inr turned ↦ before_chained (leader (class_of block q)) q (leader k) turned before
        ] in
        absurd (elim rest [
          | inl e ↦ not_before_itself (leader (class_of block q)) (leader k) (ap leader e) own
          | inr more ↦ not_before_both (leader (class_of block q)) (leader k) own (in_order-at (leaders block) k (class_of block q) none ordered more below)
        ]))
  ]
    where
      compare_numbers : (a b : ℕ) → (a < b) ⊎ ((a ≡ b) ⊎ (b < a))
      compare_numbers zero zero = inr (inl refl)
      compare_numbers zero (suc b) = inl (omega arith)
      compare_numbers (suc a) zero = inr (inr (omega arith))
      compare_numbers (suc a) (suc b) = elim (compare_numbers a b) [
        | inl l ↦ inl (omega (arith, l))
        | inr r ↦ elim r [ inl e ↦ inr (inl (ap suc e)) | inr l ↦ inr (inr (omega (arith, l))) ]
      ]

  -- each number below the count is the class of some place, and its first place comes after places of lesser classes alone
  pub first_place : (k : ℕ) → k < length (leaders block) → FirstPlace block k
  first_place k l = record {
    place = leader k;
    is_first = record {
      is_place = place_of_list block.atoms (leader k) (leader_listed block.equalities all_places (leader k) (leader_in k l));
      of_class = class_of_leader k l;
      lesser_before = λ p h before. lesser k l p (has_place block.atoms p h) before;
    };
  }

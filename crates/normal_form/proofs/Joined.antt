-- Labels under one more equality, and the classes that they give.
use Rattle.std.proofs.Common.{◌≡◌, ◌≢◌, ◌==◌, ◌&&◌, ◌||◌, ◌<◌, ◌≤◌, ◌+◌, ℕ, suc, Bool, true, false, not, cond, nat_lt, List, [], ◌∷◌, ◌++◌, length, map, reverse, set, Bor, get_or, min, max, ◌⊎◌, inl, inr, refl, ap, sym, ◌∙◌, subst, arith}
use Rattle.std.specs.List.{filter, position_or_len, range_with_len}
use Rattle.std.proofs.lemmas.Bool.{eqb-true, eqb-false, ltb-true, ltb-false}
use Rattle.std.proofs.lemmas.Bool.Decides.{nat_tests}
use Rattle.std.proofs.lemmas.Grind.{get_or-set_at}
use Rattle.std.proofs.lemmas.List.{get_or-map, get_or-set_other, map-append, reverse-append}
use Rattle.std.proofs.lemmas.List.FromFn.{fill_by_all}
use Rattle.beas_core.specs.declared.query.Atom.{Atom}
use Rattle.beas_core.specs.declared.query.Place.{Place}
use Rattle.beas_core.specs.declared.query.Block.{Block}
use Rattle.beas_core.specs.Shapes.{IsPlace}
use Rattle.beas_core.specs.Classes.{is_joined, places_of, firsts, leaders, class_of}
use Rattle.beas_core.proofs.Sets.{Has, Has-from_filter}
use Rattle.normal_form.specs.Places.{offset, place_number}
use Rattle.normal_form.specs.Labels.{AreLabels, label_at, label_of, replace, heads, rank}
use Rattle.normal_form.proofs.Offsets.{number_below, number_same, numbers_of_places, places_are}

length_mapped : {A B : Type 0} (f : A → B) (xs : List A) → length (map f xs) ≡ length xs
length_mapped f [] = refl
length_mapped f (x ∷ xs) = ap suc (length_mapped f xs)

-- one more place with its own number, at a step of a loop
pub own_written : (labels : List ℕ) (i : ℕ) → i < length labels → ((k : ℕ) → k < i → label_at labels k ≡ k) → (k : ℕ) → k < i + 1
    → label_at (set labels i i) k ≡ k
own_written labels i l own k b = by (k == i) refl
  where
    by : (t : Bool) → (k == i) ≡ t → label_at (set labels i i) k ≡ k
    by true s = let same = eqb-true k i s in get_or-set_at labels i k i 0 same l ∙ sym same
    by false s = let other = eqb-false k i s in get_or-set_other labels i k i 0 other ∙ own k (omega arith)

pub own_labels_are : (atoms : List Atom) (labels : List ℕ) → length labels ≡ offset atoms (length atoms)
    → ((k : ℕ) → k < length labels → label_at labels k ≡ k) → AreLabels atoms [] labels
own_labels_are atoms labels count at = record {
  count = count;
  firsts = record {
    least = λ k l. let e = at k l in omega arith;
    own = λ k l. let e = at k l in ap (label_at labels) e;
  };
  joins = λ p q hp hq.
      let a = at (place_number atoms p) (inside p hp) in
      let b = at (place_number atoms q) (inside q hq) in
      ap (λ n. n == label_of atoms labels q) a ∙ ap (λ n. place_number atoms p == n) b ∙ number_same atoms p q hp hq;
}
  where
    inside : (p : Place) → IsPlace atoms p → place_number atoms p < length labels
    inside p h = let g = number_below atoms p h in omega (arith, count)

abbrev bridged : ℕ → ℕ → ℕ → ℕ → Bool
bridged a b x y = (x == y) || ((x == a) && (b == y)) || ((x == b) && (a == y))

bridged_same : (a b x y : ℕ) → a ≡ b → (x == y) ≡ bridged a b x y
bridged_same a b x y e = grind (arith, nat_tests)

bridged_apart : (a b x y low high : ℕ) → ((low ≡ a) × (high ≡ b)) ⊎ ((low ≡ b) × (high ≡ a)) → (replace high low x == replace high low y) ≡ bridged a b x y
bridged_apart a b x y low high e = grind (arith, nat_tests)

module _ (atoms : List Atom) (es : List (Place × Place)) (e : Place × Place) (labels : List ℕ) (are : AreLabels atoms es labels) (left : IsPlace atoms e.0)
    (right : IsPlace atoms e.1) where
  inside : (p : Place) → IsPlace atoms p → place_number atoms p < length labels
  inside p h = let g = number_below atoms p h in omega (arith, are.count)

  bridge : (p q : Place) → IsPlace atoms p → IsPlace atoms q
      → bridged (label_of atoms labels e.0) (label_of atoms labels e.1) (label_of atoms labels p) (label_of atoms labels q) ≡ is_joined (e ∷ es) p q
  bridge p q hp hq =
      let f = are.joins p q hp hq in
      let g = are.joins p e.0 hp left in
      let h = are.joins e.1 q right hq in
      let i = are.joins p e.1 hp right in
      let j = are.joins e.0 q left hq in
      ap (λ b. b || ((label_of atoms labels p == label_of atoms labels e.0) && (label_of atoms labels e.1 == label_of atoms labels q))
      || ((label_of atoms labels p == label_of atoms labels e.1) && (label_of atoms labels e.0 == label_of atoms labels q))) f
      ∙ ap (λ b. is_joined es p q || (b && (label_of atoms labels e.1 == label_of atoms labels q))
      || ((label_of atoms labels p == label_of atoms labels e.1) && (label_of atoms labels e.0 == label_of atoms labels q))) g
      ∙ ap (λ b. is_joined es p q || (is_joined es p e.0 && b)
      || ((label_of atoms labels p == label_of atoms labels e.1) && (label_of atoms labels e.0 == label_of atoms labels q))) h
      ∙ ap (λ b. is_joined es p q || (is_joined es p e.0 && is_joined es e.1 q) || (b && (label_of atoms labels e.0 == label_of atoms labels q))) i
      ∙ ap (λ b. is_joined es p q || (is_joined es p e.0 && is_joined es e.1 q) || (is_joined es p e.1 && b)) j

  pub same_step : label_of atoms labels e.0 ≡ label_of atoms labels e.1 → AreLabels atoms (e ∷ es) labels
  same_step same = record {
    count = are.count;
    firsts = are.firsts;
    joins = λ p q hp hq. bridged_same (label_of atoms labels e.0) (label_of atoms labels e.1) (label_of atoms labels p) (label_of atoms labels q) same
        ∙ bridge p q hp hq;
  }

  module _ (low high : ℕ) (order : low < high) (which : ((low ≡ label_of atoms labels e.0) × (high ≡ label_of atoms labels e.1))
      ⊎ ((low ≡ label_of atoms labels e.1) × (high ≡ label_of atoms labels e.0))) where
    abbrev new : List ℕ
    new = map (replace high low) labels

    at : (k : ℕ) → k < length labels → label_at new k ≡ replace high low (label_at labels k)
    at k l = get_or-map (replace high low) labels k 0 0 l

    low_own : label_at labels low ≡ low
    low_own = elim which [
      | inl h ↦ ap (label_at labels) h.0 ∙ are.firsts.own (place_number atoms e.0) (inside e.0 left) ∙ sym h.0
      | inr h ↦ ap (label_at labels) h.0 ∙ are.firsts.own (place_number atoms e.1) (inside e.1 right) ∙ sym h.0
    ]

    low_inside : low < length labels
    low_inside = elim which [
      | inl h ↦ (let g = are.firsts.least (place_number atoms e.0) (inside e.0 left) in let i = inside e.0 left in omega (arith, h.0))
      | inr h ↦ (let g = are.firsts.least (place_number atoms e.1) (inside e.1 right) in let i = inside e.1 right in omega (arith, h.0))
    ]

    replaced_le : (x : ℕ) → replace high low x ≤ x
    replaced_le x = by (x == high) refl
      where
        by : (b : Bool) → (x == high) ≡ b → cond b low x ≤ x
        by true e = let f = eqb-true x high e in omega arith
        by false e = omega arith

    replaced_own : (x : ℕ) → x < length labels → label_at labels x ≡ x → label_at new (replace high low x) ≡ replace high low x
    replaced_own x l o = by (x == high) refl
      where
        low_stays : replace high low low ≡ low
        low_stays = other (low == high) refl
          where
            other : (b : Bool) → (low == high) ≡ b → cond b low low ≡ low
            other true e = refl
            other false e = refl

        by : (b : Bool) → (x == high) ≡ b → label_at new (cond b low x) ≡ cond b low x
        by true e = at low low_inside ∙ ap (replace high low) low_own ∙ low_stays
        by false e = at x l ∙ ap (replace high low) o ∙ ap (λ b. cond b low x) e

    pub apart_step : AreLabels atoms (e ∷ es) (map (replace high low) labels)
    apart_step = record {
      count = length_mapped (replace high low) labels ∙ are.count;
      firsts = record {
        least = λ k l.
            let m : k < length labels = omega (arith, length_mapped (replace high low) labels) in
            let a = at k m in
            let f = are.firsts.least k m in
            let r = replaced_le (label_at labels k) in
            omega arith;
        own = λ k l.
            let m : k < length labels = omega (arith, length_mapped (replace high low) labels) in
            let f = are.firsts.least k m in
            let n : label_at labels k < length labels = omega arith in
            ap (label_at new) (at k m) ∙ replaced_own (label_at labels k) n (are.firsts.own k m) ∙ sym (at k m);
      };
      joins = λ p q hp hq.
          ap (λ n. n == label_of atoms new q) (at (place_number atoms p) (inside p hp))
          ∙ ap (λ n. replace high low (label_of atoms labels p) == n) (at (place_number atoms q) (inside q hq))
          ∙ bridged_apart (label_of atoms labels e.0) (label_of atoms labels e.1) (label_of atoms labels p) (label_of atoms labels q) low high which
          ∙ bridge p q hp hq;
    }

-- the labels are relabelled where an equality is between two classes
pub labels_apart : (atoms : List Atom) (es : List (Place × Place)) (e : Place × Place) (labels new : List ℕ) (a b : ℕ) → AreLabels atoms es labels
    → IsPlace atoms e.0 → IsPlace atoms e.1
    → a ≡ label_of atoms labels e.0 → b ≡ label_of atoms labels e.1 → a ≢ b → new ≡ map (replace (max a b) (min a b)) labels → AreLabels atoms (e ∷ es) new
labels_apart atoms es e labels new a b are left right ea eb apart en = subst (AreLabels atoms (e ∷ es)) (sym en) (by (a < b) (b < a) (λ h. h) (λ h. h) order)
  where
    order : (a < b) ⊎ (b < a)
    order = elim (which (nat_lt a b)) [
      | inl h ↦ inl (ltb-true a b h)
      | inr h ↦ inr (let g = ltb-false a b h in omega arith)
    ]
      where
        which : (c : Bool) → (c ≡ true) ⊎ (c ≡ false)
        which true = inl refl
        which false = inr refl

    by : (P Q : Type 0) → (P → a < b) → (Q → b < a) → P ⊎ Q → AreLabels atoms (e ∷ es) (map (replace (max a b) (min a b)) labels)
    by P Q f g (inl h) =
        let l = f h in
        let high : max a b ≡ b = omega arith in
        let low : min a b ≡ a = omega arith in
        apart_step atoms es e labels are left right (min a b) (max a b) (omega arith) (inl (low ∙ ea, high ∙ eb))
    by P Q f g (inr h) =
        let l = g h in
        let high : max a b ≡ a = omega arith in
        let low : min a b ≡ b = omega arith in
        apart_step atoms es e labels are left right (min a b) (max a b) (omega arith) (inr (low ∙ eb, high ∙ ea))

pub labels_same : (atoms : List Atom) (es : List (Place × Place)) (e : Place × Place) (labels : List ℕ) (a b : ℕ) → AreLabels atoms es labels
    → IsPlace atoms e.0 → IsPlace atoms e.1
    → a ≡ label_of atoms labels e.0 → b ≡ label_of atoms labels e.1 → a ≡ b → AreLabels atoms (e ∷ es) labels
labels_same atoms es e labels a b are left right ea eb same = same_step atoms es e labels are left right (sym ea ∙ same ∙ eb)

-- the equalities that were walked over, the last first
pub walked_more : (walked : List (Bor (Place × Place))) (next : Bor (Place × Place))
    → reverse (map (λ e. e.now) (walked ++ next ∷ [])) ≡ next.now ∷ reverse (map (λ e. e.now) walked)
walked_more walked next = ap reverse (map-append (λ e. e.now) walked (next ∷ [])) ∙ reverse-append (map (λ e. e.now) walked) (next.now ∷ [])

pub labels_walked : (atoms : List Atom) (walked : List (Bor (Place × Place))) (next : Bor (Place × Place)) (before new : List ℕ)
    → ((es : List (Place × Place)) → AreLabels atoms es before → AreLabels atoms (next.now ∷ es) new) → AreLabels atoms (reverse (map (λ e. e.now) walked)) before
    → AreLabels atoms (reverse (map (λ e. e.now) (walked ++ next ∷ []))) new
labels_walked atoms walked next before new step are =
    subst (λ es. AreLabels atoms es new) (sym (walked_more walked next)) (step (reverse (map (λ e. e.now) walked)) are)

-- the first places of classes, by labels
module _ (same : Place → Place → Bool) (f : Place → ℕ) where
  abbrev Agree : List Place → Type 0
  Agree ps = (p q : Place) → Has ps p → Has ps q → same p q ≡ (f p == f q)

  first_among : (ps : List Place) (q : Place) → Has (firsts same ps) q → Has ps q
  first_among [] q h = h
  first_among (p ∷ ps) q (inl e) = inl e
  first_among (p ∷ ps) q (inr h) = inr (first_among ps q (Has-from_filter (λ r. not (same p r)) (firsts same ps) q h).0)

  map_filter : (p : Place) (qs : List Place) → ((q : Place) → Has qs q → same p q ≡ (f p == f q))
      → map f (filter (λ q. not (same p q)) qs) ≡ filter (λ y. not (f p == y)) (map f qs)
  map_filter p [] h = refl
  map_filter p (q ∷ qs) h = by (same p q) (f p == f q) (h q (inl refl)) (map_filter p qs (λ r m. h r (inr m)))
    where
      by : (b c : Bool) → b ≡ c → map f (filter (λ r. not (same p r)) qs) ≡ filter (λ y. not (f p == y)) (map f qs)
          → map f (cond (not b) (q ∷ filter (λ r. not (same p r)) qs) (filter (λ r. not (same p r)) qs))
          ≡ cond (not c) (f q ∷ filter (λ y. not (f p == y)) (map f qs)) (filter (λ y. not (f p == y)) (map f qs))
      by true true e g = g
      by true false e g = cc
      by false true e g = cc
      by false false e g = ap (λ ys. f q ∷ ys) g

  map_firsts : (ps : List Place) → Agree ps → map f (firsts same ps) ≡ heads (map f ps)
  map_firsts [] h = refl
  map_firsts (p ∷ ps) h =
      ap (λ ys. f p ∷ ys) (map_filter p (firsts same ps) (λ q m. h p q (inl refl) (inr (first_among ps q m)))
      ∙ ap (filter (λ y. not (f p == y))) (map_firsts ps (λ q r m n. h q r (inr m) (inr n))))

  position_same : (qs : List Place) (p : Place) → ((q : Place) → Has qs q → same q p ≡ (f q == f p))
      → position_or_len (λ q. same q p) qs ≡ position_or_len (λ y. y == f p) (map f qs)
  position_same [] p h = refl
  position_same (q ∷ qs) p h =
      ap (λ b. cond (not b) (1 + position_or_len (λ q. same q p) qs) 0) (h q (inl refl))
      ∙ ap (λ n. cond (not (f q == f p)) (1 + n) 0) (position_same qs p (λ r m. h r (inr m)))

map_at_places : (labels : List ℕ) → map (label_at labels) (range_with_len 0 (length labels)) ≡ labels
map_at_places labels = sym (fill_by_all (label_at labels) labels (length labels) 0 refl (λ k l. refl))

map_map : {A B C : Type 0} (f : B → C) (g : A → B) (xs : List A) → map f (map g xs) ≡ map (λ x. f (g x)) xs
map_map f g [] = refl
map_map f g (x ∷ xs) = ap (λ ys. f (g x) ∷ ys) (map_map f g xs)

module _ (block : Block) (labels : List ℕ) (are : AreLabels block.atoms block.equalities labels) where
  labelled : map (label_of block.atoms labels) (places_of block.atoms) ≡ labels
  labelled = sym (map_map (label_at labels) (place_number block.atoms) (places_of block.atoms))
      ∙ ap (map (label_at labels)) (numbers_of_places block.atoms ∙ ap (range_with_len 0) (sym are.count))
      ∙ map_at_places labels

  agree : Agree (is_joined block.equalities) (label_of block.atoms labels) (places_of block.atoms)
  agree = λ p q hp hq. sym (are.joins p q (places_are block.atoms p hp) (places_are block.atoms q hq))

  leading : map (label_of block.atoms labels) (leaders block) ≡ heads labels
  leading = map_firsts (is_joined block.equalities) (label_of block.atoms labels) (places_of block.atoms) agree ∙ ap heads labelled

  -- the classes by labels are those of the least equivalence, numbered by first places
  pub class_by_label : (p : Place) → IsPlace block.atoms p → get_or (map (rank labels) labels) (place_number block.atoms p) 0 ≡ class_of block p
  unfolding rank
  class_by_label p h =
      let n = number_below block.atoms p h in
      get_or-map (rank labels) labels (place_number block.atoms p) 0 0 (omega (arith, are.count))
      ∙ sym (position_same (is_joined block.equalities) (label_of block.atoms labels) (leaders block) p
      (λ q m. sym (are.joins q p (places_are block.atoms q (first_among (is_joined block.equalities) (label_of block.atoms labels) (places_of block.atoms) q m))
      h))
      ∙ ap (position_or_len (λ y. y == label_of block.atoms labels p)) leading)

  pub count_by_label : length (heads labels) ≡ length (leaders block)
  count_by_label = sym (ap length leading) ∙ length_mapped (label_of block.atoms labels) (leaders block)

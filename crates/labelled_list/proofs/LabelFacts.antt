-- Labels that rise along a list.
use Rattle.std.proofs.Common.{◌≡◌, ◌≤◌, ◌<◌, ◌+◌, ℕ, zero, suc, true, cond, List, [], ◌∷◌, length, get_or, refl, ap, sym, ◌∙◌, subst, arith, inl, inr}
use Rattle.std.specs.Prelude.{nat_lt, Some, slice_get}
use Rattle.std.specs.Map.{values_of}
use borrow.Author.Tests.{ltb-true}
use Rattle.std.proofs.lemmas.Bool.{lt-ltb, cases_eq, cases_lt}
use Rattle.std.specs.List.{filter, insert, remove}
use Rattle.std.specs.List.Sorted.{IsPartitionedBy}
use Rattle.std.proofs.lemmas.List.{get_or-map, length-map}
use Rattle.labelled_list.specs.declared.slot.Slot.{Slot}
use Rattle.labelled_list.specs.declared.slot.Standing.{Standing}
use Rattle.labelled_list.specs.Labels.{no_tuple, entry_at, in_order, label_in, Rises, IsLabelled, SitsAt}
use Rattle.labelled_list.proofs.Skips.{skip, not_below, skip_rises, skip_within, skip_before, skip_after, unskip, remove_is, length_remove, insert_is, insert_at, length_insert}

module _ {X : Type 0} (f : X → ℕ) where
  none_below : (b : ℕ) (xs : List X) → ((j : ℕ) (d : X) → j < length xs → b ≤ f (get_or xs j d)) → length (filter (λ x. nat_lt (f x) b) xs) ≡ 0
  none_below b [] h = refl
  none_below b (x ∷ xs) h =
      ap (λ t. length (cond t (x ∷ filter (λ y. nat_lt (f y) b) xs) (filter (λ y. nat_lt (f y) b) xs))) (not_below (f x) b (h 0 x (omega arith)))
      ∙ none_below b xs (λ j d l. h (suc j) d (omega arith))

  -- as many labels are smaller as items stand before
  pub count_is : (xs : List X) → ((i j : ℕ) (d : X) → i < j → j < length xs → f (get_or xs i d) < f (get_or xs j d)) → (i : ℕ) (d : X) → i < length xs
      → length (filter (λ x. nat_lt (f x) (f (get_or xs i d))) xs) ≡ i
  count_is [] r i d l = absurd (omega (arith, l))
  count_is (x ∷ xs) r zero d l =
      ap (λ t. length (cond t (x ∷ filter (λ y. nat_lt (f y) (f x)) xs) (filter (λ y. nat_lt (f y) (f x)) xs))) (not_below (f x) (f x) (omega arith))
      ∙ none_below (f x) xs (λ j e k. omega (arith, r 0 (suc j) e (omega arith) (omega arith)))
  count_is (x ∷ xs) r (suc i) d l =
      let b = f (get_or xs i d) in
      ap (λ t. length (cond t (x ∷ filter (λ y. nat_lt (f y) b) xs) (filter (λ y. nat_lt (f y) b) xs)))
      (lt-ltb (f x) b (r 0 (suc i) d (omega arith) l))
      ∙ ap suc (count_is xs (λ j k e p q. r (suc j) (suc k) e (omega arith) (omega arith)) i d (omega arith))

pub value_at : (es : List (List ℕ × Standing)) (i : ℕ) (w : Standing) → slice_get (values_of es) i ≡ Some w → (get_or es i no_tuple).1 ≡ w
value_at [] i w e = cc
value_at (e ∷ es) zero w f = cc
value_at (e ∷ es) (suc i) w f = value_at es i w f

pub order_at : (es : List (List ℕ × Standing)) (slots : List Slot) (i : ℕ) (d : Slot) → i < length slots
    → get_or (in_order es slots) i no_tuple ≡ entry_at es (get_or slots i d)
order_at es slots i d l = get_or-map (entry_at es) slots i d no_tuple l

pub length_order : (es : List (List ℕ × Standing)) (slots : List Slot) → length (in_order es slots) ≡ length slots
length_order es slots = length-map slots (entry_at es)

slots_rise : (es : List (List ℕ × Standing)) (slots : List Slot) → IsLabelled es slots → (i j : ℕ) (d : Slot) → i < j → j < length slots
    → (entry_at es (get_or slots i d)).1.label < (entry_at es (get_or slots j d)).1.label
slots_rise es slots m i j d h l =
    let a = ap (λ (t : List ℕ × Standing). t.1.label) (order_at es slots i d (omega (arith, h, l))) in
    let b = ap (λ (t : List ℕ × Standing). t.1.label) (order_at es slots j d l) in
    omega (arith, m.labels.rises i j h (omega (arith, l, length_order es slots)), a, b)

pub parted : (es : List (List ℕ × Standing)) (slots : List Slot) → IsLabelled es slots → (label : ℕ) → IsPartitionedBy (λ s. nat_lt (entry_at es s).1.label label) slots
parted es slots m label i j d h l e =
    elim (cases_eq i j) [
      | inl s ↦ subst (λ (n : ℕ). nat_lt (entry_at es (get_or slots n d)).1.label label ≡ true) (sym s) e
      | inr o ↦
          let a = slots_rise es slots m i j d (omega (arith, h, o)) l in
          let b = ltb-true (entry_at es (get_or slots j d)).1.label label e in
          lt-ltb (entry_at es (get_or slots i d)).1.label label (omega (arith, a, b))
    ]

-- the slot with a tuple's label names the tuple
pub place_is : (es : List (List ℕ × Standing)) (slots : List Slot) → IsLabelled es slots → (e label place : ℕ) → e < length es
    → (get_or es e no_tuple).1.label ≡ label → place ≡ length (filter (λ s. nat_lt (entry_at es s).1.label label) slots)
    → (place < length slots) × ((d : Slot) → (get_or slots place d).entry ≡ e)
place_is es slots m e label place l is at =
    let n = m.places.named e l in
    let i = n.0 in
    let within = n.1 in
    let d : Slot = record { entry = 0 } in
    let labels : (entry_at es (get_or slots i d)).1.label ≡ label = ap (λ k. (get_or es k no_tuple).1.label) (n.2 d) ∙ is in
    let same : place ≡ i =
    at ∙ ap (λ b. length (filter (λ s. nat_lt (entry_at es s).1.label b) slots)) (sym labels)
    ∙ count_is (λ s. (entry_at es s).1.label) slots (slots_rise es slots m) i d within in
    (omega (arith, within, same), λ c. ap (λ k. (get_or slots k c).entry) same ∙ n.2 c)

-- labels still rise without the tuple at a place
pub rises_removed : (ts : List (List ℕ × Standing)) (at : ℕ) → Rises ts → at < length ts → Rises (remove ts at)
rises_removed ts at r l =
    let long = length_remove ts at l in
    let label = λ (k : ℕ). ap (λ (t : List ℕ × Standing). t.1.label) (remove_is ts at k no_tuple l) in
    record {
      rises = λ i j h k. omega (arith, r.rises (skip at i) (skip at j) (skip_rises at i j h) (skip_within at j (length ts) (omega (arith, k, long))), label i, label j);
      above = λ i k. omega (arith, r.above (skip at i) (skip_within at i (length ts) (omega (arith, k, long))), label i);
      below = λ i k. omega (arith, r.below (skip at i) (skip_within at i (length ts) (omega (arith, k, long))), label i);
    }

-- and with one more between its neighbours
pub rises_inserted : (ts : List (List ℕ × Standing)) (at : ℕ) (t : List ℕ × Standing) → Rises ts → at ≤ length ts → SitsAt ts at t.1.label → Rises (insert ts at t)
rises_inserted ts at t r l s = record {
  rises = λ i j h k.
      elim (cases_eq i at) [
        | inl a ↦
            let q = unskip at j (length ts + 1) (λ e. omega (arith, h, a, e)) (omega (arith, k, long)) (omega (arith, l)) in
            let p = skip_after at q.0 (omega (arith, h, a, q.1)) in
            let here = ap (λ n. label_in (insert ts at t) n) a ∙ own in
            let there = ap (λ n. label_in (insert ts at t) n) q.1 ∙ label q.0 in
            omega (arith, here, there, s.ahead q.0 p.1 (omega (arith, q.2)))
        | inr a ↦
            elim (cases_eq j at) [
              | inl b ↦
                  let q = unskip at i (length ts + 1) a (omega (arith, h, k, long)) (omega (arith, l)) in
                  let p = skip_before at q.0 (omega (arith, h, b, q.1)) in
                  let here = ap (λ n. label_in (insert ts at t) n) b ∙ own in
                  let there = ap (λ n. label_in (insert ts at t) n) q.1 ∙ label q.0 in
                  omega (arith, here, there, s.behind q.0 (omega (arith, h, b, q.1, p)))
              | inr b ↦
                  let p = unskip at i (length ts + 1) a (omega (arith, h, k, long)) (omega (arith, l)) in
                  let q = unskip at j (length ts + 1) b (omega (arith, k, long)) (omega (arith, l)) in
                  let one = ap (λ n. label_in (insert ts at t) n) p.1 ∙ label p.0 in
                  let two = ap (λ n. label_in (insert ts at t) n) q.1 ∙ label q.0 in
                  omega (arith, one, two, r.rises p.0 q.0 (smaller p.0 q.0 (omega (arith, h, p.1, q.1))) (omega (arith, q.2)))
            ]
      ];
  above = λ i k.
      elim (cases_eq i at) [
        | inl a ↦ let here = ap (λ n. label_in (insert ts at t) n) a ∙ own in omega (arith, here, s.above)
        | inr a ↦
            let q = unskip at i (length ts + 1) a (omega (arith, k, long)) (omega (arith, l)) in
            let there = ap (λ n. label_in (insert ts at t) n) q.1 ∙ label q.0 in
            omega (arith, there, r.above q.0 (omega (arith, q.2)))
      ];
  below = λ i k.
      elim (cases_eq i at) [
        | inl a ↦ let here = ap (λ n. label_in (insert ts at t) n) a ∙ own in omega (arith, here, s.below)
        | inr a ↦
            let q = unskip at i (length ts + 1) a (omega (arith, k, long)) (omega (arith, l)) in
            let there = ap (λ n. label_in (insert ts at t) n) q.1 ∙ label q.0 in
            omega (arith, there, r.below q.0 (omega (arith, q.2)))
      ];
}
  where
    long : length (insert ts at t) ≡ length ts + 1
    long = length_insert ts at t l

    own : label_in (insert ts at t) at ≡ t.1.label
    own = ap (λ (u : List ℕ × Standing). u.1.label) (insert_at ts at t no_tuple l)

    label : (k : ℕ) → label_in (insert ts at t) (skip at k) ≡ label_in ts k
    label k = ap (λ (u : List ℕ × Standing). u.1.label) (insert_is ts at k t no_tuple l)

    smaller : (p q : ℕ) → skip at p < skip at q → p < q
    smaller p q h = elim (cases_eq p q) [
      | inl e ↦ absurd (let same = ap (skip at) e in omega (arith, h, same))
      | inr o ↦ by o h
    ]
      where
        by : (p ≡ q → ⊥) → skip at p < skip at q → p < q
        by o h = elim (cases_lt p q) [ inl a ↦ a | inr b ↦ absurd (let up = skip_rises at q p (omega (arith, o, b)) in omega (arith, h, up)) ]

-- The tuples in the order of the slots, after an edit of the map and the slots.
use Rattle.std.proofs.Common.{◌≡◌, ◌≤◌, ◌<◌, ◌+◌, ◌-◌, ℕ, zero, suc, List, [], ◌∷◌, ◌++◌, length, get_or, set, take, drop, map, refl, ap, sym, ◌∙◌, subst, arith, inl, inr, length-append, length-set}
use Rattle.std.specs.Prelude.{Option, Some, None, slice_get, IfSome}
use Rattle.std.proofs.lemmas.Bool.{cases_eq}
use Rattle.std.specs.List.{insert, remove, swap_remove}
use Rattle.indexmap.specs.IndexMap.{set_value_at}
use Rattle.std.proofs.lemmas.List.{get_or-map, get_or-set_same, get_or-set_other, get_or-take, length-take-le, get_or_append_left, get_or_push, get_or_default, same_lists, map-append, take-map, drop-map}
use Rattle.labelled_list.specs.declared.slot.Slot.{Slot}
use Rattle.labelled_list.specs.declared.slot.Standing.{Standing}
use Rattle.labelled_list.specs.Labels.{no_tuple, entry_at, in_order, ArePlaces}
use Rattle.labelled_list.proofs.Skips.{skip, skip_within, skip_other, skip_same, unskip, remove_is, length_remove, insert_is, insert_at, length_insert}
use Rattle.labelled_list.proofs.LabelFacts.{order_at, length_order}

abbrev pub Tuple : Type 0
Tuple = List ℕ × Standing

written_here : (es : List Tuple) (e : ℕ) (w : Standing) → e < length es → get_or (set_value_at es e w) e no_tuple ≡ ((get_or es e no_tuple).0, w)
written_here [] e w l = absurd (omega (arith, l))
written_here (x ∷ es) zero w l = refl
written_here (x ∷ es) (suc e) w l = written_here es e w (omega arith)

written_other : (es : List Tuple) (e k : ℕ) (w : Standing) → (k ≡ e → ⊥) → get_or (set_value_at es e w) k no_tuple ≡ get_or es k no_tuple
written_other [] e k w o = refl
written_other (x ∷ es) zero zero w o = absurd (o refl)
written_other (x ∷ es) zero (suc k) w o = refl
written_other (x ∷ es) (suc e) zero w o = refl
written_other (x ∷ es) (suc e) (suc k) w o = written_other es e k w (λ h. o (ap suc h))

-- a tuple's count and label written anew
pub written : (es : List Tuple) (slots : List Slot) (at : ℕ) (s : Slot) (w : Standing) → ArePlaces (length es) slots → at < length slots → s ≡ get_or slots at s
    → in_order (set_value_at es s.entry w) slots ≡ set (in_order es slots) at ((get_or (in_order es slots) at no_tuple).0, w)
written es slots at s w p l is =
    same_lists (in_order es' slots) (set (in_order es slots) at t) (length_order es' slots ∙ sym (length-set (in_order es slots) at t ∙ length_order es slots)) (λ k d h. each k d (omega (arith, h, length_order es' slots)))
  where
    es' : List Tuple
    es' = set_value_at es s.entry w

    t : Tuple
    t = ((get_or (in_order es slots) at no_tuple).0, w)

    e_within : s.entry < length es
    e_within = subst (λ (x : Slot). x.entry < length es) (sym is) (p.within at s l)

    each : (k : ℕ) (d : Tuple) → k < length slots → get_or (in_order es' slots) k d ≡ get_or (set (in_order es slots) at t) k d
    each k d h = elim (cases_eq k at) [
      | inl e ↦
          get_or-map (entry_at es') slots k s d h
          ∙ ap (λ n. entry_at es' (get_or slots n s)) e
          ∙ ap (entry_at es') (sym is)
          ∙ written_here es s.entry w e_within
          ∙ ap (λ (x : Tuple). (x.0, w)) (ap (entry_at es) is ∙ sym (order_at es slots at s l))
          ∙ sym (get_or-set_same (in_order es slots) at t d (omega (arith, l, length_order es slots)))
          ∙ ap (λ n. get_or (set (in_order es slots) at t) n d) (sym e)
      | inr o ↦
          get_or-map (entry_at es') slots k s d h
          ∙ written_other es s.entry (get_or slots k s).entry w (λ q. o (p.apart k at s h l (q ∙ ap (λ (x : Slot). x.entry) is)))
          ∙ sym (get_or-map (entry_at es) slots k s d h)
          ∙ sym (get_or-set_other (in_order es slots) at k t d o)
    ]

-- the map without an entry, whose place the last one takes
pub swapped : (es new : List Tuple) (i : ℕ) (r : Option Tuple) → i < length es → r ≡ slice_get es i → IfSome r (λ p. new ≡ swap_remove es i p)
    → new ≡ take (length es - 1) (set es i (get_or es (length es - 1) no_tuple))
swapped es new i None l e h = absurd (missing es i l e)
  where
    missing : (xs : List Tuple) (j : ℕ) → j < length xs → None ≡ slice_get xs j → ⊥
    missing [] j k f = absurd (omega (arith, k))
    missing (x ∷ xs) zero k f = cc
    missing (x ∷ xs) (suc j) k f = missing xs j (omega arith) f
swapped es new i (Some p) l e h = h ∙ ap (λ t. take (length es - 1) (set es i t)) (get_or_default es (length es - 1) p no_tuple (omega (arith, l)))

module _ (es : List Tuple) (slots : List Slot) (at place entry : ℕ) (p : ArePlaces (length es) slots) (l : at < length slots) (m : place < length slots)
    (gone : (d : Slot) → (get_or slots at d).entry ≡ entry) (last : (d : Slot) → (get_or slots place d).entry ≡ length es - 1) where
  abbrev pub renamed : Slot
  renamed = record { entry = entry }

  abbrev pub left : List Tuple
  left = take (length es - 1) (set es entry (get_or es (length es - 1) no_tuple))

  abbrev pub slots' : List Slot
  slots' = remove (set slots place renamed) at

  within_set : at < length (set slots place renamed)
  within_set = omega (arith, l, length-set slots place renamed)

  some : 0 < length es
  some = omega (arith, l, p.all)

  pub removed_length : length slots' + 1 ≡ length es
  removed_length = length_remove (set slots place renamed) at within_set ∙ length-set slots place renamed ∙ p.all

  long_left : length left + 1 ≡ length es
  long_left =
      let a = length-take-le (length es - 1) (set es entry (get_or es (length es - 1) no_tuple)) (omega (arith, length-set es entry (get_or es (length es - 1) no_tuple))) in
      omega (arith, a, some)

  entry_within : entry < length es
  entry_within = subst (λ n. n < length es) (gone renamed) (p.within at renamed l)

  -- the tuple that a place of the map has then
  left_other : (e : ℕ) → e < length es - 1 → (e ≡ entry → ⊥) → get_or left e no_tuple ≡ get_or es e no_tuple
  left_other e h o = get_or-take (length es - 1) (set es entry (get_or es (length es - 1) no_tuple)) e no_tuple h ∙ get_or-set_other es entry e (get_or es (length es - 1) no_tuple) no_tuple o

  left_here : entry < length es - 1 → get_or left entry no_tuple ≡ get_or es (length es - 1) no_tuple
  left_here h = get_or-take (length es - 1) (set es entry (get_or es (length es - 1) no_tuple)) entry no_tuple h ∙ get_or-set_same es entry (get_or es (length es - 1) no_tuple) no_tuple entry_within

  -- where the last one's slot isn't the one that goes, another entry than the last goes
  inner : (place ≡ at → ⊥) → entry < length es - 1
  inner o =
      let other : entry ≡ length es - 1 → ⊥ = λ e. o (p.apart place at renamed m l (last renamed ∙ sym e ∙ sym (gone renamed))) in
      omega (arith, entry_within, other)

  slot_place : (k : ℕ) (d : Slot) → skip at k ≡ place → get_or slots' k d ≡ renamed
  slot_place k d e =
      remove_is (set slots place renamed) at k d within_set ∙ ap (λ n. get_or (set slots place renamed) n d) e ∙ get_or-set_same slots place renamed d m

  slot_other : (k : ℕ) (d : Slot) → (skip at k ≡ place → ⊥) → get_or slots' k d ≡ get_or slots (skip at k) d
  slot_other k d o = remove_is (set slots place renamed) at k d within_set ∙ get_or-set_other slots place (skip at k) renamed d o

  skipped : (k : ℕ) → k < length slots' → skip at k < length slots
  skipped k h = skip_within at k (length slots) (omega (arith, h, removed_length, p.all))

  other_within : (k : ℕ) (d : Slot) → k < length slots' → (skip at k ≡ place → ⊥)
      → ((get_or slots (skip at k) d).entry < length es - 1) × ((get_or slots (skip at k) d).entry ≡ entry → ⊥)
  other_within k d h o =
      let w = p.within (skip at k) d (skipped k h) in
      let not_last : (get_or slots (skip at k) d).entry ≡ length es - 1 → ⊥ = λ e. o (p.apart (skip at k) place d (skipped k h) m (e ∙ sym (last d))) in
      (omega (arith, w, not_last), λ e. skip_other at k (p.apart (skip at k) at d (skipped k h) l (e ∙ sym (gone d))))

  pub removed_order : in_order left slots' ≡ remove (in_order es slots) at
  removed_order =
      same_lists (in_order left slots') (remove (in_order es slots) at)
      (omega (arith, length_order left slots', removed_length, length_remove (in_order es slots) at (omega (arith, l, length_order es slots)), length_order es slots, p.all))
      (λ k d h. each k d (omega (arith, h, length_order left slots')))
    where
      each : (k : ℕ) (d : Tuple) → k < length slots' → get_or (in_order left slots') k d ≡ get_or (remove (in_order es slots) at) k d
      each k d h =
          get_or-map (entry_at left) slots' k renamed d h
          ∙ elim (cases_eq (skip at k) place) [
            | inl e ↦
                ap (entry_at left) (slot_place k renamed e) ∙ left_here (inner (λ q. skip_other at k (e ∙ q)))
                ∙ ap (λ n. get_or es n no_tuple) (sym (last renamed)) ∙ ap (λ n. entry_at es (get_or slots n renamed)) (sym e)
            | inr o ↦
                let w = other_within k renamed h o in
                ap (entry_at left) (slot_other k renamed o) ∙ left_other (get_or slots (skip at k) renamed).entry w.0 w.1
          ]
          ∙ sym (get_or-map (entry_at es) slots (skip at k) renamed d (skipped k h))
          ∙ sym (remove_is (in_order es slots) at k d (omega (arith, l, length_order es slots)))

  entry_of : (k : ℕ) (d : Slot) → k < length slots' → (get_or slots' k d).entry < length left
  entry_of k d h = elim (cases_eq (skip at k) place) [
    | inl e ↦
        let same = ap (λ (s : Slot). s.entry) (slot_place k d e) in
        let low = inner (λ q. skip_other at k (e ∙ q)) in
        omega (arith, same, low, long_left)
    | inr o ↦
        let same = ap (λ (s : Slot). s.entry) (slot_other k d o) in
        let w = other_within k d h o in
        omega (arith, same, w.0, long_left)
  ]

  never : (k : ℕ) (d : Slot) → k < length slots' → (skip at k ≡ place → ⊥) → (get_or slots' k d).entry ≡ entry → ⊥
  never k d h o e = (other_within k d h o).1 (sym (ap (λ (s : Slot). s.entry) (slot_other k d o)) ∙ e)

  one_each : (i j : ℕ) (d : Slot) → i < length slots' → j < length slots' → (get_or slots' i d).entry ≡ (get_or slots' j d).entry → i ≡ j
  one_each i j d h k e = elim (cases_eq (skip at i) place) [
    | inl a ↦
        elim (cases_eq (skip at j) place) [
          | inl b ↦ skip_same at i j (a ∙ sym b)
          | inr b ↦ absurd (never j d k b (sym e ∙ ap (λ (s : Slot). s.entry) (slot_place i d a)))
        ]
    | inr a ↦
        elim (cases_eq (skip at j) place) [
          | inl b ↦ absurd (never i d h a (e ∙ ap (λ (s : Slot). s.entry) (slot_place j d b)))
          | inr b ↦
              skip_same at i j (p.apart (skip at i) (skip at j) d (skipped i h) (skipped j k)
              (sym (ap (λ (s : Slot). s.entry) (slot_other i d a)) ∙ e ∙ ap (λ (s : Slot). s.entry) (slot_other j d b)))
        ]
  ]

  each_named : (e : ℕ) → e < length left → (i : ℕ) × (i < length slots') × ((d : Slot) → (get_or slots' i d).entry ≡ e)
  each_named e h = elim (cases_eq e entry) [
    | inl a ↦
        let out : place ≡ at → ⊥ = λ q. omega (arith, h, long_left, a, sym (gone renamed) ∙ ap (λ n. (get_or slots n renamed).entry) (sym q) ∙ last renamed) in
        let u = unskip at place (length slots) out m l in
        (u.0, omega (arith, u.2, removed_length, p.all), λ d. ap (λ (s : Slot). s.entry) (slot_place u.0 d (sym u.1)) ∙ sym a)
    | inr a ↦
        let n = p.named e (omega (arith, h, long_left)) in
        let out : n.0 ≡ at → ⊥ = λ q. a (sym (n.2 renamed) ∙ ap (λ k. (get_or slots k renamed).entry) q ∙ gone renamed) in
        let u = unskip at n.0 (length slots) out n.1 l in
        let far : skip at u.0 ≡ place → ⊥ = λ q. omega (arith, h, long_left, sym (n.2 renamed) ∙ ap (λ k. (get_or slots k renamed).entry) (u.1 ∙ q) ∙ last renamed) in (
          u.0,
          omega (arith, u.2, removed_length, p.all),
          λ d. ap (λ (s : Slot). s.entry) (slot_other u.0 d far) ∙ ap (λ k. (get_or slots k d).entry) (sym u.1) ∙ n.2 d,
        )
  ]

  pub removed_places : ArePlaces (length left) slots'
  removed_places = record { all = omega (arith, removed_length, long_left); within = entry_of; apart = one_each; named = each_named }

module _ (es : List Tuple) (slots : List Slot) (at : ℕ) (x : Tuple) (p : ArePlaces (length es) slots) (l : at ≤ length slots) where
  abbrev pub own : Slot
  own = record { entry = length es }

  abbrev pub more : List Tuple
  more = es ++ x ∷ []

  longer : length more ≡ length es + 1
  longer = length-append es (x ∷ [])

  same_before : map (entry_at more) slots ≡ map (entry_at es) slots
  same_before =
      same_lists (in_order more slots) (in_order es slots) (length_order more slots ∙ sym (length_order es slots))
      (λ k d h.
      let w : k < length slots = omega (arith, h, length_order more slots) in
      get_or-map (entry_at more) slots k own d w
      ∙ get_or_append_left es (x ∷ []) no_tuple (get_or slots k own).entry (p.within k own w)
      ∙ sym (get_or-map (entry_at es) slots k own d w))

  pub inserted_order : in_order more (insert slots at own) ≡ insert (in_order es slots) at x
  inserted_order =
      map-append (entry_at more) (take at slots) (own ∷ drop at slots)
      ∙ ap (λ front. front ++ entry_at more own ∷ map (entry_at more) (drop at slots)) (sym (take-map (entry_at more) at slots))
      ∙ ap (λ back. take at (map (entry_at more) slots) ++ entry_at more own ∷ back) (sym (drop-map (entry_at more) at slots))
      ∙ ap (λ y. take at (map (entry_at more) slots) ++ y ∷ drop at (map (entry_at more) slots)) (get_or_push es x no_tuple (length es) refl)
      ∙ ap (λ ys. take at ys ++ x ∷ drop at ys) same_before

  grown : length (insert slots at own) ≡ length slots + 1
  grown = length_insert slots at own l

  slot_at : (k : ℕ) (d : Slot) → k ≡ at → get_or (insert slots at own) k d ≡ own
  slot_at k d e = ap (λ n. get_or (insert slots at own) n d) e ∙ insert_at slots at own d l

  record Older (k : ℕ) : Type 0 where
    was : ℕ
    skips : k ≡ skip at was
    before : was < length slots
    is : (d : Slot) → get_or (insert slots at own) k d ≡ get_or slots was d

  older : (k : ℕ) → (k ≡ at → ⊥) → k < length (insert slots at own) → Older k
  older k o h =
      let u = unskip at k (length slots + 1) o (omega (arith, h, grown)) (omega (arith, l)) in
      record { was = u.0; skips = u.1; before = omega (arith, u.2); is = λ d. ap (λ n. get_or (insert slots at own) n d) u.1 ∙ insert_is slots at u.0 own d l }

  new_within : (k : ℕ) (d : Slot) → k < length (insert slots at own) → (get_or (insert slots at own) k d).entry < length more
  new_within k d h = elim (cases_eq k at) [
    | inl e ↦ let same = ap (λ (s : Slot). s.entry) (slot_at k d e) in omega (arith, same, longer)
    | inr o ↦
        let u = older k o h in
        let same = ap (λ (s : Slot). s.entry) (u.is d) in
        omega (arith, same, longer, p.within u.was d u.before)
  ]

  fresh : (k : ℕ) (d : Slot) → (k ≡ at → ⊥) → k < length (insert slots at own) → (get_or (insert slots at own) k d).entry ≡ length es → ⊥
  fresh k d o h e =
      let u = older k o h in
      let same = ap (λ (s : Slot). s.entry) (u.is d) in
      omega (arith, same, e, p.within u.was d u.before)

  new_apart : (i j : ℕ) (d : Slot) → i < length (insert slots at own) → j < length (insert slots at own)
      → (get_or (insert slots at own) i d).entry ≡ (get_or (insert slots at own) j d).entry → i ≡ j
  new_apart i j d h k e = elim (cases_eq i at) [
    | inl a ↦
        elim (cases_eq j at) [
          | inl b ↦ a ∙ sym b
          | inr b ↦ absurd (fresh j d b k (sym e ∙ ap (λ (s : Slot). s.entry) (slot_at i d a)))
        ]
    | inr a ↦
        elim (cases_eq j at) [
          | inl b ↦ absurd (fresh i d a h (e ∙ ap (λ (s : Slot). s.entry) (slot_at j d b)))
          | inr b ↦
              let u = older i a h in
              let v = older j b k in
              let same = p.apart u.was v.was d u.before v.before
              (sym (ap (λ (s : Slot). s.entry) (u.is d)) ∙ e ∙ ap (λ (s : Slot). s.entry) (v.is d)) in
              u.skips ∙ ap (skip at) same ∙ sym v.skips
        ]
  ]

  new_named : (e : ℕ) → e < length more → (i : ℕ) × (i < length (insert slots at own)) × ((d : Slot) → (get_or (insert slots at own) i d).entry ≡ e)
  new_named e h = elim (cases_eq e (length es)) [
    | inl a ↦ (at, omega (arith, l, grown), λ d. ap (λ (s : Slot). s.entry) (slot_at at d refl) ∙ sym a)
    | inr a ↦
        let n = p.named e (omega (arith, h, longer, a)) in
        let within = skip_within at n.0 (length slots + 1) (omega (arith, n.1)) in
        (skip at n.0, omega (arith, within, grown), λ d. ap (λ (s : Slot). s.entry) (insert_is slots at n.0 own d l) ∙ n.2 d)
  ]

  pub inserted_places : ArePlaces (length more) (insert slots at own)
  inserted_places = record { all = omega (arith, grown, longer, p.all); within = new_within; apart = new_apart; named = new_named }

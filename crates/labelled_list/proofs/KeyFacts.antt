-- Tuples by their codes, and what callers see of them.
use Rattle.std.proofs.Common.{◌≡◌, ◌≢◌, ◌≤◌, ◌<◌, ◌+◌, ◌-◌, ◌^◌, ℕ, zero, suc, Bool, true, false, cond, true≢false, List, [], ◌∷◌, ◌++◌, length, get_or, set, take, drop, map, refl, ap, sym, ◌∙◌, subst, arith, inl, inr}
use Rattle.std.specs.Prelude.{Option, Some, None, slice_get, IfSome, nat_eq, position}
use Rattle.std.specs.List.{insert, remove, swap_remove, AllByRecursion, IsDistinct}
use Rattle.std.specs.Map.{keys_of}
use Rattle.std.specs.Cmp.Lexicographic.{pointwise, bytes_decides}
use Rattle.indexmap.specs.IndexMap.{insert_entry}
use Rattle.indexmap.proofs.MapLemmas.{Found-position, Missing-position}
use Rattle.std.proofs.lemmas.Bool.{cases_lt}
use Rattle.std.proofs.lemmas.List.{get_or-map, get_or_default, length-map, map-append, take-map, drop-map}
use Rattle.std.proofs.lemmas.List.Quantifiers.{position-Some}
use Rattle.labelled_list.specs.declared.slot.Slot.{Slot}
use Rattle.labelled_list.specs.declared.slot.Standing.{Standing}
use Rattle.labelled_list.specs.declared.coded.Coded.{Coded}
use Rattle.labelled_list.specs.Labels.{AreDistinct, no_tuple, entry_at, in_order, item_of, items_of, ArePlaces, IsLabelled, Rises, SitsAt}
use Rattle.labelled_list.proofs.Skips.{length_insert}
use Rattle.labelled_list.proofs.LabelFacts.{order_at, length_order, rises_removed, rises_inserted}
use Rattle.labelled_list.proofs.OrderFacts.{Tuple, left, slots', removed_order, removed_places, removed_length, swapped, own, more, inserted_order, inserted_places}

pub length_items : (es : List Tuple) (slots : List Slot) → length (items_of es slots) ≡ length slots
length_items es slots = length-map (in_order es slots) item_of ∙ length_order es slots

-- what callers see at a place
pub item_at : (es : List Tuple) (slots : List Slot) (at : ℕ) (d : Coded) (s : Slot) → at < length slots → get_or (items_of es slots) at d ≡ item_of (entry_at es (get_or slots at s))
item_at es slots at d s l =
    get_or-map item_of (in_order es slots) at no_tuple d (omega (arith, l, length_order es slots)) ∙ ap item_of (order_at es slots at s l)

pub all_by_places : {X : Type 0} (P : X → Type 0) (xs : List X) → ((i : ℕ) (d : X) → i < length xs → P (get_or xs i d)) → AllByRecursion P xs
all_by_places P [] h = tt
all_by_places P (x ∷ xs) h = (h 0 x (omega arith), all_by_places P xs (λ i d l. h (suc i) d (omega arith)))

pub place_of_all : {X : Type 0} (P : X → Type 0) (xs : List X) → AllByRecursion P xs → (i : ℕ) (d : X) → i < length xs → P (get_or xs i d)
place_of_all P [] a i d l = absurd (omega (arith, l))
place_of_all P (x ∷ xs) a zero d l = a.0
place_of_all P (x ∷ xs) a (suc i) d l = place_of_all P xs a.1 i d (omega arith)

key_at : (es : List Tuple) (i : ℕ) (d : List ℕ) → i < length es → get_or (keys_of es) i d ≡ (get_or es i no_tuple).0
key_at es i d l = get_or-map (λ (t : Tuple). t.0) es i no_tuple d l

length_keys : (es : List Tuple) → length (keys_of es) ≡ length es
length_keys es = length-map es (λ (t : Tuple). t.0)

other_codes : (a b : List ℕ) → pointwise nat_eq a b ≡ false → b ≡ a → ⊥
other_codes a b e same = true≢false (sym ((bytes_decides a b).1 (sym same)) ∙ e)

not_codes : (a b : List ℕ) → (b ≡ a → ⊥) → pointwise nat_eq a b ≡ false
not_codes a b out = by (pointwise nat_eq a b) refl
  where
    by : (t : Bool) → pointwise nat_eq a b ≡ t → pointwise nat_eq a b ≡ false
    by true e = absurd (out (sym ((bytes_decides a b).0 e)))
    by false e = e

-- codes that the map doesn't have are no item's
pub none_seen : (es : List Tuple) (slots : List Slot) (self : List Coded) (codes : List ℕ) → ArePlaces (length es) slots → items_of es slots ≡ self
    → None ≡ position (pointwise nat_eq codes) (keys_of es) → AllByRecursion (λ (item : Coded). item.codes ≢ codes) self
none_seen es slots self codes p v e =
    subst (AllByRecursion (λ (item : Coded). item.codes ≢ codes)) v
    (all_by_places (λ (item : Coded). item.codes ≢ codes) (items_of es slots) (λ i d l.
    let s : Slot = record { entry = 0 } in
    let h : i < length slots = omega (arith, l, length_items es slots) in
    let w = p.within i s h in
    let out = place_of_all (λ k. pointwise nat_eq codes k ≡ false) (keys_of es) (Missing-position (pointwise nat_eq codes) es (sym e)).absent
    (get_or slots i s).entry [] (omega (arith, w, length_keys es)) in
    λ same. other_codes codes (get_or (keys_of es) (get_or slots i s).entry []) out
    (key_at es (get_or slots i s).entry [] w ∙ sym (ap (λ (x : Coded). x.codes) (item_at es slots i d s h)) ∙ same)))

-- and codes that it has are those of the slot that names their place
pub one_seen : (es : List Tuple) (slots : List Slot) (self : List Coded) (codes : List ℕ) (entry place : ℕ) → items_of es slots ≡ self
    → Some entry ≡ position (pointwise nat_eq codes) (keys_of es) → place < length slots → ((d : Slot) → (get_or slots place d).entry ≡ entry)
    → (place < length self) × ((d : Coded) → (get_or self place d).codes ≡ codes)
one_seen es slots self codes entry place v e l named =
    let s : Slot = record { entry = 0 } in
    let w = (Found-position (pointwise nat_eq codes) es entry (sym e)).within in
    let hit = position-Some (pointwise nat_eq codes) (keys_of es) entry [] (sym e) in (
      omega (arith, l, length_items es slots, ap length v),
      λ d.
          ap (λ (xs : List Coded). (get_or xs place d).codes) (sym v)
          ∙ ap (λ (x : Coded). x.codes) (item_at es slots place d s l)
          ∙ ap (λ n. (get_or es n no_tuple).0) (named s)
          ∙ sym (key_at es entry [] w)
          ∙ sym ((bytes_decides codes (get_or (keys_of es) entry [])).0 hit.1),
    )

distinct_at : (ks : List (List ℕ)) → IsDistinct (pointwise nat_eq) ks → (i j : ℕ) (d : List ℕ) → i < j → j < length ks
    → pointwise nat_eq (get_or ks i d) (get_or ks j d) ≡ false
unfolding IsDistinct
distinct_at [] u i j d h l = absurd (omega (arith, l))
distinct_at (k ∷ ks) u i zero d h l = absurd (omega (arith, h))
distinct_at (k ∷ ks) u zero (suc j) d h l = place_of_all (λ y. pointwise nat_eq k y ≡ false) ks u.0 j d (omega arith)
distinct_at (k ∷ ks) u (suc i) (suc j) d h l = distinct_at ks u.1 i j d (omega arith) (omega arith)

-- no two items have the same codes
pub items_distinct : (es : List Tuple) (slots : List Slot) (self : List Coded) → ArePlaces (length es) slots → IsDistinct (pointwise nat_eq) (keys_of es)
    → items_of es slots ≡ self → AreDistinct self
items_distinct es slots self p u v = subst AreDistinct v (λ i j d h l same.
    let s : Slot = record { entry = 0 } in
    let m : j < length slots = omega (arith, l, length_items es slots) in
    let k : i < length slots = omega (arith, h, m) in
    let a = (get_or slots i s).entry in
    let b = (get_or slots j s).entry in
    let keys : (get_or es a no_tuple).0 ≡ (get_or es b no_tuple).0 =
    sym (ap (λ (x : Coded). x.codes) (item_at es slots i d s k)) ∙ same ∙ ap (λ (x : Coded). x.codes) (item_at es slots j d s m) in
    let alike = key_at es a [] (p.within i s k) ∙ keys ∙ sym (key_at es b [] (p.within j s m)) in
    elim (cases_lt a b) [
      | inl f ↦ other_codes (get_or (keys_of es) a []) (get_or (keys_of es) b [])
          (distinct_at (keys_of es) u a b [] f (omega (arith, p.within j s m, length_keys es))) (sym alike)
      | inr f ↦
          let other : a ≡ b → ⊥ = λ e. omega (arith, h, p.apart i j s k m e) in
          other_codes (get_or (keys_of es) b []) (get_or (keys_of es) a [])
          (distinct_at (keys_of es) u b a [] (omega (arith, f, other)) (omega (arith, p.within i s k, length_keys es))) alike
    ])

pub put_last : {X : Type 0} (xs : List X) (n : ℕ) (x : X) → n ≡ length xs → insert xs n x ≡ xs ++ x ∷ []
put_last {X = X} xs n x e = ap (λ k. insert xs k x) e ∙ at_end xs
  where
    at_end : (ys : List X) → insert ys (length ys) x ≡ ys ++ x ∷ []
    at_end [] = refl
    at_end (y ∷ ys) = ap (λ zs. y ∷ zs) (at_end ys)

insert_absent : (es : List Tuple) (key : List ℕ) (w : Standing) → ((e : ℕ) → e < length es → pointwise nat_eq key (get_or es e no_tuple).0 ≡ false)
    → insert_entry (pointwise nat_eq) es key w ≡ es ++ (key, w) ∷ []
insert_absent [] key w h = refl
insert_absent (t ∷ es) key w h =
    ap (λ b. cond b ((t.0, w) ∷ es) (t ∷ insert_entry (pointwise nat_eq) es key w)) (h 0 (omega arith))
    ∙ ap (λ ts. t ∷ ts) (insert_absent es key w (λ e l. h (suc e) (omega arith)))

pub record IsAdded (es new : List Tuple) (slots more_slots : List Slot) (at : ℕ) (key : List ℕ) (w : Standing) : Type 0 where
  pub labelled : IsLabelled new more_slots
  pub order : in_order new more_slots ≡ insert (in_order es slots) at (key, w)

-- a tuple that isn't there put in at a place
pub added : (es new : List Tuple) (slots more_slots : List Slot) (at n : ℕ) (key : List ℕ) (w : Standing) → IsLabelled es slots → at ≤ length slots → length slots + 1 < 2 ^ 32
    → AllByRecursion (λ (item : Coded). item.codes ≢ key) (items_of es slots) → SitsAt (in_order es slots) at w.label → n ≡ length es
    → new ≡ insert_entry (pointwise nat_eq) es key w → more_slots ≡ insert slots at (record { entry = n })
    → IsAdded es new slots more_slots at key w
added es new slots more_slots at n key w m l room absent sits is grown wider =
    let wider2 : more_slots ≡ insert slots at (own es slots at (key, w) m.places l) = wider ∙ ap (λ k. let s : Slot = record { entry = k } in insert slots at s) is in
    let longer = length_insert slots at (own es slots at (key, w) m.places l) l in
    let all : IsLabelled (more es slots at (key, w) m.places l) (insert slots at (own es slots at (key, w) m.places l)) = record {
      places = inserted_places es slots at (key, w) m.places l;
      labels = subst Rises (sym (inserted_order es slots at (key, w) m.places l))
          (rises_inserted (in_order es slots) at (key, w) m.labels (omega (arith, l, length_order es slots)) sits);
      few = omega (arith, longer, room);
    } in
    record {
      labelled = subst (λ ss. IsLabelled new ss) (sym wider2) (subst (λ ts. IsLabelled ts (insert slots at (own es slots at (key, w) m.places l))) (sym same) all);
      order = ap (in_order new) wider2 ∙ ap (λ ts. in_order ts (insert slots at (own es slots at (key, w) m.places l))) same
          ∙ inserted_order es slots at (key, w) m.places l;
    }
  where
    same : new ≡ es ++ (key, w) ∷ []
    same = grown ∙ insert_absent es key w (λ e h.
        let s : Slot = record { entry = 0 } in
        let d : Coded = record { codes = []; count = 0 } in
        let k = m.places.named e h in
        let out = place_of_all (λ (item : Coded). item.codes ≢ key) (items_of es slots) absent k.0 d (omega (arith, k.1, length_items es slots)) in
        not_codes key (get_or es e no_tuple).0
        (λ q. out (ap (λ (x : Coded). x.codes) (item_at es slots k.0 d s k.1) ∙ ap (λ i. (get_or es i no_tuple).0) (k.2 s) ∙ q)))

pub remove_insert : {X : Type 0} (xs : List X) (at : ℕ) (x : X) → at ≤ length xs → remove (insert xs at x) at ≡ xs
remove_insert xs zero x l = refl
remove_insert [] (suc at) x l = absurd (omega (arith, l))
remove_insert (y ∷ ys) (suc at) x l = ap (λ zs. y ∷ zs) (remove_insert ys at x (omega arith))

pub map_remove : {X Y : Type 0} (f : X → Y) (xs : List X) (at : ℕ) → map f (remove xs at) ≡ remove (map f xs) at
map_remove f [] zero = refl
map_remove f [] (suc at) = refl
map_remove f (x ∷ xs) zero = refl
map_remove f (x ∷ xs) (suc at) = ap (λ ys. f x ∷ ys) (map_remove f xs at)

pub map_insert : {X Y : Type 0} (f : X → Y) (xs : List X) (at : ℕ) (x : X) → map f (insert xs at x) ≡ insert (map f xs) at (f x)
map_insert f xs at x =
    map-append f (take at xs) (x ∷ drop at xs)
    ∙ ap (λ front. front ++ f x ∷ map f (drop at xs)) (sym (take-map f at xs))
    ∙ ap (λ back. take at (map f xs) ++ f x ∷ back) (sym (drop-map f at xs))

pub record IsWithout (es new : List Tuple) (slots fewer : List Slot) (at : ℕ) : Type 0 where
  pub labelled : IsLabelled new fewer
  pub order : in_order new fewer ≡ remove (in_order es slots) at

-- the tuple at a place gone, and the map's last one in its place there
pub dropped : (es new : List Tuple) (slots renamed_slots fewer : List Slot) (at place n : ℕ) (s : Slot) (r : Option Tuple) → IsLabelled es slots → at < length slots → place < length slots
    → s ≡ get_or slots at s → n ≡ length es → ((d : Slot) → (get_or slots place d).entry ≡ n - 1)
    → r ≡ slice_get es s.entry → IfSome r (λ p. new ≡ swap_remove es s.entry p)
    → renamed_slots ≡ set slots place (record { entry = s.entry }) → fewer ≡ remove renamed_slots at
    → IsWithout es new slots fewer at
dropped es new slots renamed_slots fewer at place n s r m l h is long last found gone again less =
    let named : (d : Slot) → (get_or slots at d).entry ≡ s.entry = λ d. ap (λ (x : Slot). x.entry) (get_or_default slots at d s l ∙ sym is) in
    let last2 : (d : Slot) → (get_or slots place d).entry ≡ length es - 1 = λ d. last d ∙ ap (λ k. k - 1) long in
    let within : s.entry < length es = subst (λ k. k < length es) (named s) (m.places.within at s l) in
    let same = swapped es new s.entry r within found gone in
    let p = m.places in
    let fewer2 : fewer ≡ slots' es slots at place s.entry p l h named last2 = less ∙ ap (λ ss. remove ss at) again in
    let order = removed_order es slots at place s.entry p l h named last2 in
    let all : IsLabelled (left es slots at place s.entry p l h named last2) (slots' es slots at place s.entry p l h named last2) = record {
      places = removed_places es slots at place s.entry p l h named last2;
      labels = subst Rises (sym order) (rises_removed (in_order es slots) at m.labels (omega (arith, l, length_order es slots)));
      few = omega (arith, removed_length es slots at place s.entry p l h named last2, m.few, p.all);
    } in
    record {
      labelled = subst (λ ss. IsLabelled new ss) (sym fewer2) (subst (λ ts. IsLabelled ts (slots' es slots at place s.entry p l h named last2)) (sym same) all);
      order = ap (in_order new) fewer2 ∙ ap (λ ts. in_order ts (slots' es slots at place s.entry p l h named last2)) same ∙ order;
    }

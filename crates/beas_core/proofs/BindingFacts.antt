-- Bindings of classes, and the values that they give.
--     keys w          the classes that are bound
--     Binds set w     the classes of the set, and no others, are bound
use Rattle.std.proofs.Common.{◌≡◌, ◌==◌, ◌<◌, ◌≤◌, ◌+◌, ℕ, zero, suc, Bool, true, false, cond, List, [], ◌∷◌, ◌++◌, length, map, inl, inr, refl, ap, sym, subst, arith}
use Rattle.std.proofs.lemmas.List.{map-append}
use Rattle.std.specs.declared.cmp.Ordering.{Ordering}
use Rattle.std.specs.declared.cmp.Ordering.TheVariants.{Less, Equal, Greater}
use Rattle.std.specs.Ordering.{is_eq}
use Rattle.std.specs.List.{zip, range_with_len}
use Rattle.std.proofs.lemmas.Bool.{eqb-true}
use Rattle.std.proofs.lemmas.Cmp.{tied_itself}
use Rattle.beas_core.specs.declared.value.Value.{Value}
use Rattle.beas_core.specs.Types.{Row, ClassSet, Binding, Bindings}
use Rattle.beas_core.specs.Order.{value_cmp, value_cmp_total, row_cmp_total}
use Rattle.beas_core.specs.Full.{same_value}
use Rattle.beas_core.specs.Groups.{same_row}
use Rattle.beas_core.specs.Coverage.{has, with_classes}
use Rattle.beas_core.specs.Valuations.{value_of, agrees, classes_in, as_bindings}
use Rattle.beas_core.proofs.Sets.{Has, Has-filter, Has-from_filter, Has-append_left, Has-append_right, Has-append_cases}
use Rattle.beas_core.proofs.ValueOrder.{value_cmp_tells}
use Rattle.beas_core.proofs.MemberTests.{all_has, which}
use Rattle.beas_core.proofs.ClassSetFacts.{has_below, has-with_kept, has-with_new, has-with_cases}
use Rattle.beas_core.proofs.UseFacts.{same_number}

abbrev pub keys : Bindings → List ℕ
keys w = map (λ b. b.0) w

abbrev pub Binds : ClassSet → Bindings → Type 0
Binds set w = ((c : ℕ) → has set c ≡ true → Has (keys w) c) × ((c : ℕ) → Has (keys w) c → has set c ≡ true)

pub value-append_in : (w v : Bindings) (c : ℕ) → Has (keys w) c → value_of (w ++ v) c ≡ value_of w c
value-append_in [] v c h = absurd h
value-append_in (b ∷ w) v c h = by (b.0 == c) refl h (value-append_in w v c)
  where
    by : (t : Bool) → (b.0 == c) ≡ t → Has (keys (b ∷ w)) c → (Has (keys w) c → value_of (w ++ v) c ≡ value_of w c)
        → cond t b.1 (value_of (w ++ v) c) ≡ cond t b.1 (value_of w c)
    by true e g later = refl
    by false e (inl d) later = let s = same_number b.0 c (sym d) in cc
    by false e (inr g) later = later g

pub value-append_out : (w v : Bindings) (c : ℕ) → (Has (keys w) c → ⊥) → value_of (w ++ v) c ≡ value_of v c
value-append_out [] v c h = refl
value-append_out (b ∷ w) v c h = by (b.0 == c) refl (value-append_out w v c (λ g. h (inr g)))
  where
    by : (t : Bool) → (b.0 == c) ≡ t → value_of (w ++ v) c ≡ value_of v c → cond t b.1 (value_of (w ++ v) c) ≡ value_of v c
    by true e later = absurd (h (inl (sym (eqb-true b.0 c e))))
    by false e later = later

pub value-zip : (f : ℕ → Value) (cs : List ℕ) (c : ℕ) → Has cs c → value_of (zip cs (map f cs)) c ≡ f c
value-zip f [] c h = absurd h
value-zip f (d ∷ cs) c h = by (d == c) refl h (value-zip f cs c)
  where
    by : (t : Bool) → (d == c) ≡ t → Has (d ∷ cs) c → (Has cs c → value_of (zip cs (map f cs)) c ≡ f c) → cond t (f d) (value_of (zip cs (map f cs)) c) ≡ f c
    by true e g later = ap f (eqb-true d c e)
    by false e (inl k) later = let s = same_number d c (sym k) in cc
    by false e (inr k) later = later k

pub keys-zip : (f : ℕ → Value) (cs : List ℕ) → keys (zip cs (map f cs)) ≡ cs
keys-zip f [] = refl
keys-zip f (c ∷ cs) = ap (λ ks. c ∷ ks) (keys-zip f cs)

pub zip_of : (f : ℕ → Value) (cs : List ℕ) → zip cs (map f cs) ≡ map (λ c. (c, f c)) cs
zip_of f [] = refl
zip_of f (c ∷ cs) = ap (λ r. (c, f c) ∷ r) (zip_of f cs)

pub zip-maps : {A : Type 0} (f : A → ℕ) (g : A → Value) (xs : List A) → zip (map f xs) (map g xs) ≡ map (λ x. (f x, g x)) xs
zip-maps f g [] = refl
zip-maps f g (x ∷ xs) = ap (λ r. (f x, g x) ∷ r) (zip-maps f g xs)

pub keys-map : {A : Type 0} (f : A → ℕ) (g : A → Value) (xs : List A) → keys (map (λ x. (f x, g x)) xs) ≡ map f xs
keys-map f g [] = refl
keys-map f g (x ∷ xs) = ap (λ r. f x ∷ r) (keys-map f g xs)

pub map_same : {A B : Type 0} (f g : A → B) (xs : List A) → ((x : A) → Has xs x → f x ≡ g x) → map f xs ≡ map g xs
map_same f g [] h = refl
map_same f g (x ∷ xs) h =
    let a = h x (inl refl) in
    let b = map_same f g xs (λ y k. h y (inr k)) in
    cc

pub same_from : (a b : Value) → same_value a b ≡ true → a ≡ b
same_from a b e = by (value_cmp a b) refl e
  where
    by : (d : Ordering) → value_cmp a b ≡ d → is_eq d ≡ true → a ≡ b
    by Less h t = cc
    by Equal h t = value_cmp_tells a b h
    by Greater h t = cc

pub same_value_to : (a b : Value) → a ≡ b → same_value a b ≡ true
same_value_to a b e = subst (λ x. same_value a x ≡ true) e (ap is_eq (tied_itself value_cmp_total a))

pub same_row_to : (a b : Row) → a ≡ b → same_row a b ≡ true
same_row_to a b e = subst (λ x. same_row a x ≡ true) e (ap is_eq (tied_itself row_cmp_total a))

pub agreed : (w : Bindings) (b : Binding) → agrees w ≡ true → Has w b → b.1 ≡ value_of w b.0
agreed w b h m = same_from b.1 (value_of w b.0) (all_has (λ d. same_value d.1 (value_of w d.0)) w b h m)

pub Has-range : (n a c : ℕ) → a ≤ c → c < a + n → Has (range_with_len a n) c
Has-range zero a c l m = absurd (omega (arith, l, m))
Has-range (suc n) a c l m = elim (which (a == c)) [
  | inl e ↦ inl (sym (eqb-true a c e))
  | inr e ↦ inr (Has-range n (a + 1) c (let ne : (a ≡ c → ⊥) = λ k. (let s = same_number a c k in false_true s e) in omega (arith, ne)) (omega arith))
]
  where
    false_true : (a == c) ≡ true → (a == c) ≡ false → ⊥
    false_true p q = cc

pub from_range : (n a c : ℕ) → Has (range_with_len a n) c → c < a + n
from_range zero a c h = absurd h
from_range (suc n) a c (inl e) = omega (arith, e)
from_range (suc n) a c (inr h) = let l = from_range n (a + 1) c h in omega arith

pub range_least : (n a c : ℕ) → Has (range_with_len a n) c → a ≤ c
range_least zero a c h = absurd h
range_least (suc n) a c (inl e) = omega (arith, e)
range_least (suc n) a c (inr h) = let l = range_least n (a + 1) c h in omega arith

pub Has-classes_in : (set : ClassSet) (c : ℕ) → has set c ≡ true → Has (classes_in set) c
Has-classes_in set c h = Has-filter (has set) (range_with_len 0 (length set)) c
    (Has-range (length set) 0 c (omega arith) (let l = has_below set c h in omega arith)) h

pub from_classes_in : (set : ClassSet) (c : ℕ) → Has (classes_in set) c → has set c ≡ true
from_classes_in set c h = (Has-from_filter (has set) (range_with_len 0 (length set)) c h).1

-- the value that a valuation of the set's classes gives to one of them
pub value_in_valuation : (set : ClassSet) (w : Bindings) (c : ℕ) → has set c ≡ true
    → value_of (as_bindings set (map (value_of w) (classes_in set))) c ≡ value_of w c
value_in_valuation set w c h = value-zip (value_of w) (classes_in set) c (Has-classes_in set c h)

-- with further bindings their classes are bound too
pub Binds-with : (set : ClassSet) (w v : Bindings) → ((c : ℕ) → Has (keys v) c → c < length set) → Binds set w → Binds (with_classes set (keys v)) (w ++ v)
Binds-with set w v below b = (
  λ c h. subst (λ ks. Has ks c) (sym split) (elim (has-with_cases (keys v) set c h) [
    | inl k ↦ Has-append_left (keys w) (keys v) c (b.0 c k)
    | inr k ↦ Has-append_right (keys w) (keys v) c k
  ]),
  λ c h. elim (Has-append_cases (keys w) (keys v) c (subst (λ ks. Has ks c) split h)) [
    | inl k ↦ has-with_kept (keys v) set c (b.1 c k)
    | inr k ↦ has-with_new (keys v) set c k (below c k)
  ],
)
  where
    split : keys (w ++ v) ≡ keys w ++ keys v
    split = map-append (λ b. b.0) w v

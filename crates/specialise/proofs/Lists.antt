-- Lists element by element: what is found, filtered and listed so far.
use Rattle.std.proofs.Common.{◌≡◌, ◌==◌, ◌<◌, ◌+◌, ℕ, zero, suc, Bool, true, false, cond, List, [], ◌∷◌, ◌++◌, length, map, take, get_or, Some, None, inl, inr, refl, ap, sym, ◌∙◌, subst, arith, add-one, zero-add, append_assoc}
use Rattle.std.specs.List.{find, filter, flat_map, enumerate_from, range_with_len}
use Rattle.std.specs.Option.{option_or, option_map}
use Rattle.std.proofs.Math.Seq.{take-suc, take-length}
use Rattle.std.proofs.lemmas.Bool.{eqb-true}
use Rattle.std.proofs.lemmas.List.{append-nil, map-append}
use Rattle.std.proofs.lemmas.List.Elements.{filter-append}
use Rattle.std.proofs.lemmas.List.Folds.{find-append}
use Rattle.std.proofs.lemmas.List.FromFn.{length-enumerate_from, get_or-enumerate_from}
use Rattle.beas_core.proofs.Sets.{Has}
use Rattle.beas_core.proofs.MemberTests.{which}

-- a member that passes is found, or one before it
pub found : {A : Type 0} (p : A → Bool) (xs : List A) (y : A) → Has xs y → p y ≡ true → (x : A) × (find p xs ≡ Some x) × (Has xs x) × (p x ≡ true)
found p [] y h e = absurd h
found {A} p (x ∷ xs) y h e = by (p x) refl h (found p xs y)
  where
    by : (b : Bool) → p x ≡ b → Has (x ∷ xs) y → (Has xs y → p y ≡ true → (z : A) × (find p xs ≡ Some z) × (Has xs z) × (p z ≡ true))
        → (z : A) × (find p (x ∷ xs) ≡ Some z) × (Has (x ∷ xs) z) × (p z ≡ true)
    by true t g later = (x, ap (λ b. cond b (Some x) (find p xs)) t, inl refl, t)
    by false t (inl d) later = (let s = ap p d in cc)
    by false t (inr g) later = let r = later g e in (r.0, ap (λ b. cond b (Some x) (find p xs)) t ∙ r.1, inr r.2, r.3)

pub find_same : {A : Type 0} (p q : A → Bool) (xs : List A) → ((x : A) → Has xs x → p x ≡ q x) → find p xs ≡ find q xs
find_same p q [] h = refl
find_same p q (x ∷ xs) h = ap (λ b. cond b (Some x) (find p xs)) (h x (inl refl)) ∙ ap (λ o. cond (q x) (Some x) o) (find_same p q xs (λ y m. h y (inr m)))

pub find_map : {A B : Type 0} (p : B → Bool) (f : A → B) (xs : List A) → find p (map f xs) ≡ option_map f (find (λ x. p (f x)) xs)
find_map p f [] = refl
find_map {A} {B} p f (x ∷ xs) = by (p (f x)) (find_map p f xs)
  where
    by : (b : Bool) → find p (map f xs) ≡ option_map f (find (λ y. p (f y)) xs)
        → cond b (Some (f x)) (find p (map f xs)) ≡ option_map f (cond b (Some x) (find (λ y. p (f y)) xs))
    by true later = refl
    by false later = later

pub find_on : {A : Type 0} (p : A → Bool) (xs ys : List A) → find p xs ≡ None → find p (xs ++ ys) ≡ find p ys
find_on p xs ys h = find-append p xs ys ∙ ap (λ o. option_or o (find p ys)) h

pub find_here : {A : Type 0} (p : A → Bool) (xs ys : List A) (y : A) → find p xs ≡ Some y → find p (xs ++ ys) ≡ Some y
find_here p xs ys y h = find-append p xs ys ∙ ap (λ o. option_or o (find p ys)) h

-- numbers
pub range_more : (n from : ℕ) → range_with_len from (n + 1) ≡ range_with_len from n ++ (from + n) ∷ []
range_more zero from = let e : from ≡ from + 0 = omega arith in ap (λ n. n ∷ []) e
range_more (suc n) from =
    let e : suc n + 1 ≡ suc (n + 1) = omega arith in
    let f : from + 1 + n ≡ from + suc n = omega arith in
    ap (range_with_len from) e ∙ ap (λ ns. from ∷ ns) (range_more n (from + 1) ∙ ap (λ m. range_with_len (from + 1) n ++ m ∷ []) f)

pub range_push : (n : ℕ) → range_with_len 0 (n + 1) ≡ range_with_len 0 n ++ n ∷ []
range_push n = range_more n 0 ∙ ap (λ m. range_with_len 0 n ++ m ∷ []) (zero-add n)

range_split : (k n from : ℕ) → k < n → (rest : List ℕ) × (range_with_len from n ≡ range_with_len from k ++ (from + k) ∷ rest)
range_split k zero from l = absurd (omega (arith, l))
range_split zero (suc n) from l = (range_with_len (from + 1) n, let e : from ≡ from + 0 = omega arith in ap (λ m. m ∷ range_with_len (from + 1) n) e)
range_split (suc k) (suc n) from l =
    let r = range_split k n (from + 1) (omega arith) in
    let f : from + 1 + k ≡ from + suc k = omega arith in
    (r.0, ap (λ ns. from ∷ ns) (r.1 ∙ ap (λ m. range_with_len (from + 1) k ++ m ∷ r.0) f))

pub find_range_there : (p : ℕ → Bool) (n k : ℕ) → k < n → find p (range_with_len 0 k) ≡ None → p k ≡ true → find p (range_with_len 0 n) ≡ Some k
find_range_there p n k l none e =
    let r = range_split k n 0 l in
    ap (find p) (r.1 ∙ ap (λ m. range_with_len 0 k ++ m ∷ r.0) (zero-add k)) ∙ find_on p (range_with_len 0 k) (k ∷ r.0) none
    ∙ ap (λ b. cond b (Some k) (find p r.0)) e

pub find_range_more : (p : ℕ → Bool) (k : ℕ) → find p (range_with_len 0 k) ≡ None → p k ≡ false → find p (range_with_len 0 (k + 1)) ≡ None
find_range_more p k none e =
    ap (find p) (range_push k) ∙ find_on p (range_with_len 0 k) (k ∷ []) none ∙ ap (λ b. cond b (Some k) None) e

-- what is listed of a list's members, by number
pub flat_push : {A B : Type 0} (f : A → List B) (xs : List A) (x : A) → flat_map f (xs ++ x ∷ []) ≡ flat_map f xs ++ f x
flat_push f [] x = append-nil (f x)
flat_push f (y ∷ xs) x = ap (λ zs. f y ++ zs) (flat_push f xs x) ∙ sym (append_assoc (f y) (flat_map f xs) (f x))

pub flat_append : {A B : Type 0} (f : A → List B) (xs ys : List A) → flat_map f (xs ++ ys) ≡ flat_map f xs ++ flat_map f ys
flat_append f [] ys = refl
flat_append f (x ∷ xs) ys = ap (λ zs. f x ++ zs) (flat_append f xs ys) ∙ sym (append_assoc (f x) (flat_map f xs) (flat_map f ys))

pub take_push : {A : Type 0} (xs : List A) (i : ℕ) (d : A) → i < length xs → take (i + 1) xs ≡ take i xs ++ get_or xs i d ∷ []
take_push xs i d l = ap (λ n. take n xs) (add-one i) ∙ take-suc xs i d l

abbrev pub numbered : {A : Type 0} → ℕ → A → ℕ × A
numbered n x = (n, x)

pub numbers_push : {A : Type 0} (xs : List A) (i : ℕ) (d : A) → i < length xs
    → take (i + 1) (enumerate_from 0 xs) ≡ take i (enumerate_from 0 xs) ++ (i, get_or xs i d) ∷ []
numbers_push xs i d l =
    take_push (enumerate_from 0 xs) i (i, d) (subst (λ n. i < n) (sym (length-enumerate_from 0 xs)) l)
    ∙ ap (λ a. take i (enumerate_from 0 xs) ++ a ∷ []) (get_or-enumerate_from 0 xs i (i, d) l ∙ ap (λ n. numbered n (get_or xs i d)) (zero-add i))

pub numbers_all : {A : Type 0} (xs : List A) → take (length xs) (enumerate_from 0 xs) ≡ enumerate_from 0 xs
numbers_all xs = ap (λ n. take n (enumerate_from 0 xs)) (sym (length-enumerate_from 0 xs)) ∙ take-length (enumerate_from 0 xs)

pub map_push : {A B : Type 0} (f : A → B) (xs : List A) (i : ℕ) (d : A) → i < length xs → map f (take (i + 1) xs) ≡ map f (take i xs) ++ f (get_or xs i d) ∷ []
map_push f xs i d l = ap (map f) (take_push xs i d l) ∙ map-append f (take i xs) (get_or xs i d ∷ [])

pub get_or-enumerated : {A B : Type 0} (f : ℕ × A → B) (n k : ℕ) (xs : List A) (d : B) (e : A) → k < length xs
    → get_or (map f (enumerate_from n xs)) k d ≡ f (n + k, get_or xs k e)
get_or-enumerated f n k [] d e l = absurd (omega (arith, l))
get_or-enumerated f n zero (x ∷ xs) d e l = let z : n ≡ n + 0 = omega arith in ap (λ m. f (m, x)) z
get_or-enumerated f n (suc k) (x ∷ xs) d e l =
    let z : n + 1 + k ≡ n + suc k = omega arith in
    get_or-enumerated f (n + 1) k xs d e (omega arith) ∙ ap (λ m. f (m, get_or xs k e)) z

pub unequal : (a b : ℕ) → (a ≡ b → ⊥) → (a == b) ≡ false
unequal a b ne = elim (which (a == b)) [ inl e ↦ absurd (ne (eqb-true a b e)) | inr e ↦ e ]

pub filter_range : {A : Type 0} (p : ℕ → Bool) (f : ℕ → A) (n : ℕ)
    → map f (filter p (range_with_len 0 (n + 1))) ≡ map f (filter p (range_with_len 0 n)) ++ map f (filter p (n ∷ []))
filter_range p f n =
    ap (λ ns. map f (filter p ns)) (range_push n) ∙ ap (map f) (filter-append p (range_with_len 0 n) (n ∷ []))
    ∙ map-append f (filter p (range_with_len 0 n)) (filter p (n ∷ []))

pub map_range : {A : Type 0} (f : ℕ → A) (n : ℕ) → map f (range_with_len 0 (n + 1)) ≡ map f (range_with_len 0 n) ++ f n ∷ []
map_range f n = ap (map f) (range_push n) ∙ map-append f (range_with_len 0 n) (n ∷ [])

pub filter_same : {A : Type 0} (p q : A → Bool) (xs : List A) → ((x : A) → Has xs x → p x ≡ q x) → filter p xs ≡ filter q xs
filter_same p q [] h = refl
filter_same p q (x ∷ xs) h =
    ap (λ b. cond b (x ∷ filter p xs) (filter p xs)) (h x (inl refl)) ∙ ap (λ ys. cond (q x) (x ∷ ys) ys) (filter_same p q xs (λ y m. h y (inr m)))

-- Facts on searches and filters of lists, which the lists of a catalogue use.
use Rattle.std.proofs.Common.{◌≡◌, ◌≢◌, ◌∙◌, ◌<◌, ◌+◌, ◌||◌, ℕ, zero, suc, Bool, true, false, not, cond, List, [], ◌∷◌, ◌++◌, length, get_or, ap, refl, sym, arith, Option, Some, None, is_some, zero-add, inl, inr}
use Rattle.std.specs.Prelude.{filter, find, option_map, remove, All, position}
use Rattle.std.specs.List.{list_any, position_from}
use Rattle.std.specs.Option.{option_or}
use Rattle.std.proofs.lemmas.Iterator.Adapters.{position_from-zero}
use Rattle.std.proofs.lemmas.Bool.{cases_order}

pub is_some-find : {X : Type 0} (p : X → Bool) (xs : List X) → is_some (find p xs) ≡ list_any p xs
is_some-find p [] = refl
is_some-find {X} p (x ∷ xs) = by (p x) (is_some-find p xs)
  where
    by : (b : Bool) → is_some (find p xs) ≡ list_any p xs → is_some (cond b (Some x) (find p xs)) ≡ (b || list_any p xs)
    by true h = refl
    by false h = h

pub is_some-map : {X Y : Type 0} (f : X → Y) (o : Option X) → is_some (option_map f o) ≡ is_some o
is_some-map f None = refl
is_some-map f (Some x) = refl

pub none_from_map : {X Y : Type 0} (f : X → Y) (o : Option X) → option_map f o ≡ None → o ≡ None
none_from_map f None e = refl
none_from_map f (Some x) e = cc

pub none_from_is_some : {X : Type 0} (o : Option X) → is_some o ≡ false → o ≡ None
none_from_is_some None e = refl
none_from_is_some (Some x) e = cc

all_cons : {X : Type 0} (P : X → Type 0) (x : X) (xs : List X) → P x → All P xs → All P (x ∷ xs)
all_cons P x xs h hs zero d l = h
all_cons P x xs h hs (suc k) d l = hs k d (omega arith)

-- where the search finds nothing, no element passes
pub find_none : {X : Type 0} (p : X → Bool) (xs : List X) → find p xs ≡ None → All (λ x. p x ≡ false) xs
find_none p [] e = λ k d l. absurd (omega (arith, l))
find_none {X} p (x ∷ xs) e = by (p x) refl e (find_none p xs)
  where
    by : (b : Bool) → p x ≡ b → cond b (Some x) (find p xs) ≡ None → (find p xs ≡ None → All (λ y. p y ≡ false) xs) → All (λ y. p y ≡ false) (x ∷ xs)
    by true t f rest = cc
    by false t f rest = all_cons (λ y. p y ≡ false) x xs t (rest f)

-- what the search finds is an element that passes
pub record IsFoundAt {X : Type 0} (p : X → Bool) (xs : List X) (x : X) : Type 0 where
  pub place : ℕ
  pub within : place < length xs
  pub at : (d : X) → get_or xs place d ≡ x
  pub passes : p x ≡ true

pub find_some : {X : Type 0} (p : X → Bool) (xs : List X) (y : X) → find p xs ≡ Some y → IsFoundAt p xs y
find_some p [] y e = cc
find_some {X} p (x ∷ xs) y e = by (p x) refl e (find_some p xs y)
  where
    further : IsFoundAt p xs y → IsFoundAt p (x ∷ xs) y
    further f = record { place = suc f.place; within = omega (arith, f.within); at = f.at; passes = f.passes }

    by : (b : Bool) → p x ≡ b → cond b (Some x) (find p xs) ≡ Some y → (find p xs ≡ Some y → IsFoundAt p xs y) → IsFoundAt p (x ∷ xs) y
    by true t f rest = let same : x ≡ y = cc in record { place = 0; within = omega arith; at = λ d. same; passes = ap p (sym same) ∙ t }
    by false t f rest = further (rest f)

pub find_first : {X : Type 0} (p : X → Bool) (xs : List X) (i : ℕ) (d : X) → i < length xs → p (get_or xs i d) ≡ true
    → ((k : ℕ) → k < i → p (get_or xs k d) ≡ false) → find p xs ≡ Some (get_or xs i d)
find_first p [] i d h t b = absurd (omega (arith, h))
find_first p (x ∷ xs) zero d h t b = ap (λ c. cond c (Some x) (find p xs)) t
find_first p (x ∷ xs) (suc i) d h t b =
    ap (λ c. cond c (Some x) (find p xs)) (b 0 (omega arith)) ∙ find_first p xs i d (omega arith) t (λ k l. b (suc k) (omega arith))

pub filter_none : {X : Type 0} (p : X → Bool) (xs : List X) → All (λ x. p x ≡ false) xs → filter p xs ≡ []
filter_none p [] h = refl
filter_none p (x ∷ xs) h = ap (λ b. cond b (x ∷ filter p xs) (filter p xs)) (h 0 x (omega arith)) ∙ filter_none p xs (λ k d l. h (suc k) d (omega arith))

-- all but the one element that passes
pub filter_but_one : {X : Type 0} (p : X → Bool) (xs : List X) (i : ℕ) (e : X) → i < length xs → p (get_or xs i e) ≡ true
    → ((k : ℕ) (d : X) → k < length xs → k ≢ i → p (get_or xs k d) ≡ false) → filter (λ x. not (p x)) xs ≡ remove xs i
filter_but_one p [] i e h t b = absurd (omega (arith, h))
filter_but_one {X} p (x ∷ xs) zero e h t b =
    ap (λ c. cond (not c) (x ∷ filter (λ y. not (p y)) xs) (filter (λ y. not (p y)) xs)) t
    ∙ all xs (λ k d l. b (suc k) d (omega arith) (λ z. absurd (omega (arith, z))))
  where
    all : (ys : List X) → All (λ y. p y ≡ false) ys → filter (λ y. not (p y)) ys ≡ ys
    all [] g = refl
    all (y ∷ ys) g =
        ap (λ c. cond (not c) (y ∷ filter (λ z. not (p z)) ys) (filter (λ z. not (p z)) ys)) (g 0 y (omega arith))
        ∙ ap (λ zs. y ∷ zs) (all ys (λ k d l. g (suc k) d (omega arith)))
filter_but_one p (x ∷ xs) (suc i) e h t b =
    ap (λ c. cond (not c) (x ∷ filter (λ y. not (p y)) xs) (filter (λ y. not (p y)) xs)) (b 0 e (omega arith) (λ z. absurd (omega (arith, z))))
    ∙ ap (λ ys. x ∷ ys) (filter_but_one p xs i e (omega arith) t (λ k d l n. b (suc k) d (omega arith) (λ z. n (omega (arith, z)))))

-- what one filter leaves out, another doesn't miss
pub filter_skips : {X : Type 0} (p r : X → Bool) (xs : List X) → All (λ x. p x ≡ true → r x ≡ false) xs → filter r (filter (λ x. not (p x)) xs) ≡ filter r xs
filter_skips p r [] h = refl
filter_skips {X} p r (x ∷ xs) h = by (p x) refl (filter_skips p r xs (λ k d l. h (suc k) d (omega arith)))
  where
    by : (b : Bool) → p x ≡ b → filter r (filter (λ y. not (p y)) xs) ≡ filter r xs
        → filter r (cond (not b) (x ∷ filter (λ y. not (p y)) xs) (filter (λ y. not (p y)) xs)) ≡ filter r (x ∷ xs)
    by true t g = g ∙ sym (ap (λ c. cond c (x ∷ filter r xs) (filter r xs)) (h 0 x (omega arith) t))
    by false t g = ap (λ ys. cond (r x) (x ∷ ys) ys) g

pub find_skips : {X : Type 0} (p r : X → Bool) (xs : List X) → ((x : X) → p x ≡ true → r x ≡ false) → find r (filter (λ x. not (p x)) xs) ≡ find r xs
find_skips p r [] h = refl
find_skips {X} p r (x ∷ xs) h = by (p x) refl (find_skips p r xs h)
  where
    by : (b : Bool) → p x ≡ b → find r (filter (λ y. not (p y)) xs) ≡ find r xs
        → find r (cond (not b) (x ∷ filter (λ y. not (p y)) xs) (filter (λ y. not (p y)) xs)) ≡ find r (x ∷ xs)
    by true t g = g ∙ sym (ap (λ c. cond c (Some x) (find r xs)) (h x t))
    by false t g = ap (λ o. cond (r x) (Some x) o) g

pub find_filtered : {X : Type 0} (p : X → Bool) (xs : List X) → find p (filter (λ x. not (p x)) xs) ≡ None
find_filtered p [] = refl
find_filtered {X} p (x ∷ xs) = by (p x) refl (find_filtered p xs)
  where
    by : (b : Bool) → p x ≡ b → find p (filter (λ y. not (p y)) xs) ≡ None
        → find p (cond (not b) (x ∷ filter (λ y. not (p y)) xs) (filter (λ y. not (p y)) xs)) ≡ None
    by true t g = g
    by false t g = ap (λ c. cond c (Some x) (find p (filter (λ y. not (p y)) xs))) t ∙ g

pub position_from-push : {X : Type 0} (p : X → Bool) (i : ℕ) (xs : List X) (y : X)
    → position_from p i (xs ++ y ∷ []) ≡ option_or (position_from p i xs) (cond (p y) (Some (i + length xs)) None)
position_from-push p i [] y = ap (λ n. cond (p y) (Some n) None) (omega arith)
position_from-push {X} p i (x ∷ xs) y = by (p x) (position_from-push p (i + 1) xs y)
  where
    by : (b : Bool) → position_from p (i + 1) (xs ++ y ∷ []) ≡ option_or (position_from p (i + 1) xs) (cond (p y) (Some ((i + 1) + length xs)) None)
        → cond b (Some i) (position_from p (i + 1) (xs ++ y ∷ []))
        ≡ option_or (cond b (Some i) (position_from p (i + 1) xs)) (cond (p y) (Some (i + length (x ∷ xs))) None)
    by true g = refl
    by false g =
        let n : (i + 1) + length xs ≡ i + length (x ∷ xs) = omega arith in
        g ∙ ap (λ m. option_or (position_from p (i + 1) xs) (cond (p y) (Some m) None)) n

pub position-push : {X : Type 0} (p : X → Bool) (xs : List X) (y : X)
    → position p (xs ++ y ∷ []) ≡ option_or (position p xs) (cond (p y) (Some (length xs)) None)
position-push p xs y =
    position_from-zero p (xs ++ y ∷ []) ∙ position_from-push p 0 xs y
    ∙ ap (λ n. option_or (position_from p 0 xs) (cond (p y) (Some n) None)) (zero-add (length xs))
    ∙ ap (λ o. option_or o (cond (p y) (Some (length xs)) None)) (sym (position_from-zero p xs))

position_from_none : {X : Type 0} (p : X → Bool) (i : ℕ) (xs : List X) → position_from p i xs ≡ None → All (λ x. p x ≡ false) xs
position_from_none p i [] e = λ k d l. absurd (omega (arith, l))
position_from_none {X} p i (x ∷ xs) e = by (p x) refl e (position_from_none p (i + 1) xs)
  where
    by : (b : Bool) → p x ≡ b → cond b (Some i) (position_from p (i + 1) xs) ≡ None → (position_from p (i + 1) xs ≡ None → All (λ y. p y ≡ false) xs)
        → All (λ y. p y ≡ false) (x ∷ xs)
    by true t f rest = cc
    by false t f rest = all_cons (λ y. p y ≡ false) x xs t (rest f)

-- where there is no such place, no element passes
pub position_none : {X : Type 0} (p : X → Bool) (xs : List X) → position p xs ≡ None → All (λ x. p x ≡ false) xs
position_none p xs e = position_from_none p 0 xs (sym (position_from-zero p xs) ∙ e)

pub option_or-none : {X : Type 0} (o : Option X) → option_or o None ≡ o
option_or-none None = refl
option_or-none (Some x) = refl

-- two elements of a list whose numbers rise stand at one place where their numbers are equal
pub one_place : {X : Type 0} (number : X → ℕ) (xs : List X) (i j : ℕ) (d : X)
    → ((i j : ℕ) (d : X) → i < j → j < length xs → number (get_or xs i d) < number (get_or xs j d))
    → i < length xs → j < length xs → number (get_or xs i d) ≡ number (get_or xs j d) → i ≡ j
one_place number xs i j d rise h g e = elim (cases_order i j) [
  | inl s ↦ s
  | inr t ↦ elim t [ inl b ↦ absurd (omega (arith, rise i j d b g, e)) | inr b ↦ absurd (omega (arith, rise j i d b h, e)) ]
]

pub some_from_map : {X Y : Type 0} (f : X → Y) (o : Option X) (y : Y) → option_map f o ≡ Some y → (x : X) × (o ≡ Some x) × (f x ≡ y)
some_from_map f None y e = cc
some_from_map f (Some x) y e = (x, refl, cc)

pub option_or-both_none : {X : Type 0} (a b : Option X) → option_or a b ≡ None → (a ≡ None) × (b ≡ None)
option_or-both_none None b e = (refl, e)
option_or-both_none (Some x) b e = cc

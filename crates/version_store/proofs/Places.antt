-- Where the first item that passes a test stands.
use Rattle.std.proofs.Common.{◌≡◌, ◌<◌, ◌+◌, ◌++◌, ◌∙◌, ℕ, Bool, true, false, not, cond, nat_lt, List, [], ◌∷◌, length, map, take, drop, get_or, set, remove, position, find, slice_get, is_some, Option, Some, None, refl, ap, sym, subst, arith, suc}
use Rattle.std.specs.Prelude.{All}
use Rattle.std.specs.List.{position_or_len}
use Rattle.std.proofs.lemmas.Bool.{ltb-true, ltb-false}
use Rattle.std.proofs.lemmas.List.{length-map, map-append, take-map, drop-map, take-set, drop-set-lt}
use Rattle.std.proofs.lemmas.List.Elements.{All-append, All-take, All-drop}
use Rattle.std.proofs.lemmas.List.Folds.{find_at}
use Rattle.std.proofs.lemmas.Option.{slice_get-get_or, slice_get_past}

pub record IsPlace {X : Type 0} (p : X → Bool) (xs : List X) (i : ℕ) : Type 0 where
  pub first : position_or_len p xs ≡ i
  pub within : i < length xs

pub place_some : {X : Type 0} (p : X → Bool) (xs : List X) (i : ℕ) → position p xs ≡ Some i → IsPlace p xs i
place_some p xs i found = by (nat_lt (position_or_len p xs) (length xs)) refl found
  where
    by : (b : Bool) → nat_lt (position_or_len p xs) (length xs) ≡ b → cond b (Some (position_or_len p xs)) None ≡ Some i → IsPlace p xs i
    by true e h =
        let same : position_or_len p xs ≡ i = cc in
        record { first = same; within = subst (λ k. k < length xs) same (ltb-true (position_or_len p xs) (length xs) e) }
    by false e h = cc

pub place_none : {X : Type 0} (p : X → Bool) (xs : List X) → position p xs ≡ None → find p xs ≡ None
place_none p xs none = by (nat_lt (position_or_len p xs) (length xs)) refl none
  where
    by : (b : Bool) → nat_lt (position_or_len p xs) (length xs) ≡ b → cond b (Some (position_or_len p xs)) None ≡ None → find p xs ≡ None
    by true e h = cc
    by false e h = find_at p xs ∙ slice_get_past xs (position_or_len p xs) (ltb-false (position_or_len p xs) (length xs) e)

pub find_there : {X : Type 0} (p : X → Bool) (xs : List X) (i : ℕ) (d : X) → IsPlace p xs i → find p xs ≡ Some (get_or xs i d)
find_there p xs i d place = find_at p xs ∙ ap (slice_get xs) place.first ∙ slice_get-get_or xs i d place.within

first-map : {X Y : Type 0} (p : Y → Bool) (f : X → Y) (xs : List X) → position_or_len p (map f xs) ≡ position_or_len (λ x. p (f x)) xs
first-map p f [] = refl
first-map p f (x ∷ xs) = ap (λ n. cond (not (p (f x))) (1 + n) 0) (first-map p f xs)

pub place-map : {X Y : Type 0} (p : Y → Bool) (f : X → Y) (xs : List X) (i : ℕ) → IsPlace (λ x. p (f x)) xs i → IsPlace p (map f xs) i
place-map p f xs i place = record {
  first = first-map p f xs ∙ place.first;
  within = subst (λ n. i < n) (sym (length-map xs f)) place.within;
}

pub position-map : {X Y : Type 0} (p : Y → Bool) (f : X → Y) (xs : List X) → position p (map f xs) ≡ position (λ x. p (f x)) xs
position-map p f xs =
    ap (λ n. cond (nat_lt n (length (map f xs))) (Some n) None) (first-map p f xs)
    ∙ ap (λ l. cond (nat_lt (position_or_len (λ x. p (f x)) xs) l) (Some (position_or_len (λ x. p (f x)) xs)) None) (length-map xs f)

-- a place is found where an item is
pub place_is_found : {X : Type 0} (p : X → Bool) (xs : List X) → is_some (position p xs) ≡ is_some (find p xs)
place_is_found p xs = by (position p xs) refl
  where
    there : (ys : List _) (i : ℕ) → IsPlace p ys i → is_some (find p ys) ≡ true
    there [] i place = absurd (let below = place.within in omega arith)
    there (y ∷ ys) i place = ap is_some (find_there p (y ∷ ys) i y place)

    by : (o : Option ℕ) → position p xs ≡ o → is_some o ≡ is_some (find p xs)
    by None e = sym (ap is_some (place_none p xs e))
    by (Some i) e = sym (there xs i (place_some p xs i e))

-- ---- one item is taken out

pub remove-map : {X Y : Type 0} (f : X → Y) (xs : List X) (i : ℕ) → map f (remove xs i) ≡ remove (map f xs) i
remove-map f xs i =
    map-append f (take i xs) (drop (suc i) xs)
    ∙ ap (λ ys. ys ++ map f (drop (suc i) xs)) (sym (take-map f i xs))
    ∙ ap (λ ys. take i (map f xs) ++ ys) (sym (drop-map f (suc i) xs))

pub remove-set : {X : Type 0} (xs : List X) (i : ℕ) (y : X) → remove (set xs i y) i ≡ remove xs i
remove-set xs i y =
    ap (λ front. front ++ drop (suc i) (set xs i y)) (take-set xs i y)
    ∙ ap (λ back. take i xs ++ back) (drop-set-lt (suc i) xs i y (omega arith))

pub All-remove : {X : Type 0} (P : X → Type 0) (xs : List X) (i : ℕ) → All P xs → All P (remove xs i)
All-remove P xs i all = All-append P (take i xs) (drop (suc i) xs) (All-take P i xs all) (All-drop P (suc i) xs all)

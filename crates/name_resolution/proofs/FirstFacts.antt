-- The first of joined lists of refusals.
use Rattle.std.proofs.Common.{◌≡◌, ℕ, ◌+◌, ◌<◌, ◌≤◌, List, [], ◌∷◌, ◌++◌, length, drop, get_or, refl, ap, arith, sym, ◌∙◌, Option, Some, None, Result, Ok, Err}
use Rattle.std.specs.Prelude.{IfOk}
use Rattle.std.specs.List.{flat_map, enumerate_from}
use Rattle.std.proofs.lemmas.List.Concat.{flat_map-append}
use Rattle.std.proofs.lemmas.List.FromFn.{length-enumerate_from, get_or-enumerate_from}
use Rattle.std.proofs.lemmas.List.{drop_more, drop_all}
use Rattle.beas_core.specs.declared.errors.Fail.{Fail}
use Rattle.beas_core.specs.declared.errors.Fail.TheVariants.{NoMemory, Refused}
use Rattle.beas_core.specs.declared.refusal.Refusal.{Refusal}
use Rattle.beas_core.specs.Results.{IsRefusedAs}
use Rattle.name_resolution.specs.Refusing.{first}

pub first_none : (xs ys : List Refusal) → first xs ≡ None → first (xs ++ ys) ≡ first ys
first_none [] ys none = refl
first_none (x ∷ xs) ys none = cc

pub first_some : (xs ys : List Refusal) (why : Refusal) → first xs ≡ Some why → first (xs ++ ys) ≡ Some why
first_some [] ys why some = cc
first_some (x ∷ xs) ys why some = some

-- the refusals of the elements from i on
unfoldable pub first_from : {X : Type 0} → (X → List Refusal) → List X → ℕ → Option Refusal
first_from f xs i = first (flat_map f (drop i xs))

pub from_start : {X : Type 0} (f : X → List Refusal) (xs : List X) → first_from f xs 0 ≡ first (flat_map f xs)
unfolding first_from
from_start f xs = refl

split_at : {X : Type 0} (f : X → List Refusal) (xs : List X) (i : ℕ) (x : X) → i < length xs → x ≡ get_or xs i x
    → first_from f xs i ≡ first (f x ++ flat_map f (drop (i + 1) xs))
unfolding first_from
split_at f xs i x below is =
    ap (λ ys. first (flat_map f ys)) (drop_more xs i x below)
    ∙ ap (λ y. first (f y ++ flat_map f (drop (i + 1) xs))) (sym is)

pub next_ok : {X : Type 0} (f : X → List Refusal) (xs : List X) (i : ℕ) (x : X) → i < length xs → x ≡ get_or xs i x → first (f x) ≡ None
    → first_from f xs i ≡ first_from f xs (i + 1)
unfolding first_from
next_ok f xs i x below is none = split_at f xs i x below is ∙ first_none (f x) (flat_map f (drop (i + 1) xs)) none

pub next_err : {X : Type 0} (f : X → List Refusal) (xs : List X) (i : ℕ) (x : X) (why : Refusal) → i < length xs → x ≡ get_or xs i x
    → first (f x) ≡ Some why → first_from f xs i ≡ Some why
next_err f xs i x why below is some = split_at f xs i x below is ∙ first_some (f x) (flat_map f (drop (i + 1) xs)) why some

pub at_end : {X : Type 0} (f : X → List Refusal) (xs : List X) (i : ℕ) → length xs ≤ i → first_from f xs i ≡ None
unfolding first_from
at_end f xs i all = ap (λ ys. first (flat_map f ys)) (drop_all i xs all)

-- ---- calls that are refused by the first

pub err_first : (T U : Type 0) (e : Fail) (xs ys : List Refusal) → IsRefusedAs {A = T} (Err e) (first xs) → IsRefusedAs {A = U} (Err e) (first (xs ++ ys))
err_first T U NoMemory xs ys refused = tt
err_first T U (Refused why) xs ys refused = first_some xs ys why refused

pub err_second : (T U : Type 0) (e : Fail) (xs ys : List Refusal) → first xs ≡ None → IsRefusedAs {A = T} (Err e) (first ys)
    → IsRefusedAs {A = U} (Err e) (first (xs ++ ys))
err_second T U NoMemory xs ys none refused = tt
err_second T U (Refused why) xs ys none refused = first_none xs ys none ∙ refused

pub err_next : (T U : Type 0) {X : Type 0} (e : Fail) (f : X → List Refusal) (xs : List X) (i : ℕ) (x : X) → first_from f xs i ≡ first (flat_map f xs)
    → i < length xs → x ≡ get_or xs i x
    → IsRefusedAs {A = T} (Err e) (first (f x)) → IsRefusedAs {A = U} (Err e) (first (flat_map f xs))
err_next T U NoMemory f xs i x so_far below is refused = tt
err_next T U (Refused why) f xs i x so_far below is refused = sym so_far ∙ next_err f xs i x why below is refused

-- a last call, after a list without refusals
pub last_call : (T : Type 0) (r : Result T Fail) (xs ys : List Refusal) → first xs ≡ None → IsRefusedAs r (first ys) → IsRefusedAs r (first (xs ++ ys))
last_call T (Ok x) xs ys none refused = first_none xs ys none ∙ refused
last_call T (Err e) xs ys none refused = err_second T T e xs ys none refused

pub flat_map_twice : {X Y : Type 0} (f : Y → List Refusal) (g : X → List Y) (xs : List X) → flat_map (λ x. flat_map f (g x)) xs ≡ flat_map f (flat_map g xs)
flat_map_twice f g [] = refl
flat_map_twice f g (x ∷ xs) = ap (λ ys. flat_map f (g x) ++ ys) (flat_map_twice f g xs) ∙ sym (flat_map-append f (g x) (flat_map g xs))

-- an element and its number, counted from 1
pub numbered_at : {X : Type 0} (xs : List X) (i : ℕ) (x : X) → i < length xs → x ≡ get_or xs i x
    → (let pair : ℕ × X = (i + 1, x) in pair) ≡ get_or (enumerate_from 1 xs) i (i + 1, x)
numbered_at {X} xs i x below is =
    let pair : ℕ → X → ℕ × X = λ n y. (n, y) in
    ap (λ y. pair (i + 1) y) is ∙ ap (λ n. pair n (get_or xs i x)) (omega arith) ∙ sym (get_or-enumerate_from 1 xs i (i + 1, x) below)

pub numbered_below : {X : Type 0} (xs : List X) (i : ℕ) → i < length xs → i < length (enumerate_from 1 xs)
numbered_below xs i below = rw (length-enumerate_from 1 xs) below

pub numbered_end : {X : Type 0} (xs : List X) (i : ℕ) → length xs ≤ i → length (enumerate_from 1 xs) ≤ i
numbered_end xs i all = rw (length-enumerate_from 1 xs) all

-- what holds of an answer and where nothing is refused holds of each answer
pub if_answered : {X : Type 0} (P Q : X → Type 0) (r : Result X Fail) (why : Option Refusal) → IsRefusedAs r why → IfOk r P
    → ((x : X) → P x → why ≡ None → Q x) → IfOk r Q
if_answered P Q (Ok x) why refused so step = step x so refused
if_answered P Q (Err e) why refused so step = tt

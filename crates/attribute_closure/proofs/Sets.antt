-- Sets of classes, as code builds them.
use Rattle.std.proofs.Common.{◌≡◌, ◌&&◌, ◌<◌, ◌≤◌, ◌+◌, ◌-◌, ℕ, zero, suc, Bool, true, false, List, [], ◌∷◌, ◌++◌, length, map, take, get_or, set, replicate, refl, ap, sym, ◌∙◌, arith, add-one}
use Rattle.std.specs.List.{slice_set}
use Rattle.std.proofs.Math.Seq.{take-suc, take-length}
use Rattle.std.proofs.lemmas.List.{map-append}
use Rattle.beas_core.specs.declared.value.Value.{Value}
use Rattle.beas_core.specs.Types.{ClassSet}
use Rattle.beas_core.specs.Coverage.{has, with_classes, holds_classes}

pub holds_broken : {A : Type 0} (set : ClassSet) (f : A → ℕ) (xs : List A) (i : ℕ) (d : A) → i < length xs → has set (f (get_or xs i d)) ≡ false
    → holds_classes set (map f xs) ≡ false
holds_broken set f [] i d l h = absurd (omega (arith, l))
holds_broken set f (x ∷ xs) zero d l h = ap (λ b. b && holds_classes set (map f xs)) h
holds_broken set f (x ∷ xs) (suc i) d l h = ap (λ b. has set (f x) && b) (holds_broken set f xs i d (omega arith) h) ∙ and_false (has set (f x))
  where
    and_false : (b : Bool) → (b && false) ≡ false
    and_false true = refl
    and_false false = refl

holds_push : (set : ClassSet) (cs : List ℕ) (c : ℕ) → holds_classes set cs ≡ true → has set c ≡ true → holds_classes set (cs ++ c ∷ []) ≡ true
holds_push set [] c h g = ap (λ b. b && true) g
holds_push set (k ∷ cs) c h g = by (has set k) h (λ r. holds_push set cs c r g)
  where
    by : (b : Bool) → (b && holds_classes set cs) ≡ true → (holds_classes set cs ≡ true → holds_classes set (cs ++ c ∷ []) ≡ true)
        → (b && holds_classes set (cs ++ c ∷ [])) ≡ true
    by true e rest = rest e
    by false e rest = cc

pub holds_more : {A : Type 0} (set : ClassSet) (f : A → ℕ) (xs : List A) (i : ℕ) (d : A) → holds_classes set (map f (take i xs)) ≡ true → i < length xs
    → has set (f (get_or xs i d)) ≡ true
    → holds_classes set (map f (take (i + 1) xs)) ≡ true
holds_more set f xs i d so l h =
    ap (λ k. holds_classes set (map f (take k xs))) (add-one i) ∙ ap (λ ys. holds_classes set (map f ys)) (take-suc xs i d l)
    ∙ ap (holds_classes set) (map-append f (take i xs) (get_or xs i d ∷ []))
    ∙ holds_push set (map f (take i xs)) (f (get_or xs i d)) so h

pub set_past : (xs : ClassSet) (i : ℕ) → length xs ≤ i → slice_set xs i true ≡ xs
set_past [] i l = refl
set_past (x ∷ xs) zero l = absurd (omega (arith, l))
set_past (x ∷ xs) (suc i) l = ap (λ ys. x ∷ ys) (set_past xs i (omega arith))

pub with_push : (set : ClassSet) (cs : List ℕ) (c : ℕ) → with_classes set (cs ++ c ∷ []) ≡ slice_set (with_classes set cs) c true
with_push set [] c = refl
with_push set (d ∷ cs) c = with_push (slice_set set d true) cs c

pub constants_more : (set : ClassSet) (cs : List (ℕ × Value)) (i : ℕ) (d : ℕ × Value) → i < length cs
    → slice_set (with_classes set (map (λ c. c.0) (take i cs))) (get_or cs i d).0 true ≡ with_classes set (map (λ c. c.0) (take (i + 1) cs))
constants_more set cs i d l = sym (with_push set (map (λ c. c.0) (take i cs)) (get_or cs i d).0)
    ∙ ap (with_classes set) (sym (ap (λ k. map (λ c. c.0) (take k cs)) (add-one i) ∙ ap (map (λ c. c.0)) (take-suc cs i d l)
    ∙ map-append (λ c. c.0) (take i cs) (get_or cs i d ∷ [])))

pub constants_past : (set : ClassSet) (cs : List (ℕ × Value)) (i : ℕ) (d : ℕ × Value) → i < length cs
    → length (with_classes set (map (λ c. c.0) (take i cs))) ≤ (get_or cs i d).0
    → with_classes set (map (λ c. c.0) (take (i + 1) cs)) ≡ with_classes set (map (λ c. c.0) (take i cs))
constants_past set cs i d l past = sym (constants_more set cs i d l) ∙ set_past (with_classes set (map (λ c. c.0) (take i cs))) (get_or cs i d).0 past

pub columns_more : {A : Type 0} (set : ClassSet) (f : A → ℕ) (xs : List A) (i : ℕ) (d : A) → i < length xs
    → slice_set (with_classes set (map f (take i xs))) (f (get_or xs i d)) true ≡ with_classes set (map f (take (i + 1) xs))
columns_more set f xs i d l = sym (with_push set (map f (take i xs)) (f (get_or xs i d)))
    ∙ ap (with_classes set) (sym (ap (λ k. map f (take k xs)) (add-one i) ∙ ap (map f) (take-suc xs i d l) ∙ map-append f (take i xs) (get_or xs i d ∷ [])))

pub set_again : (set : ClassSet) (c : ℕ) → has set c ≡ true → slice_set set c true ≡ set
set_again [] c h = refl
set_again (b ∷ set) zero h = ap (λ x. x ∷ set) (sym h)
set_again (b ∷ set) (suc c) h = ap (λ x. b ∷ x) (set_again set c h)

-- the front of one set, and nothing after it
abbrev pub front_of : ℕ → ClassSet → ClassSet
front_of n more = take n more ++ replicate (length more - n) false

pub front_none : (more : ClassSet) → front_of 0 more ≡ replicate (length more) false
front_none more = let e : length more - 0 ≡ length more = omega arith in ap (λ n. replicate n false) e

pub front_all : (more : ClassSet) → front_of (length more) more ≡ more
front_all more = ap (λ xs. xs ++ replicate (length more - length more) false) (take-length more)
    ∙ (let e : length more - length more ≡ 0 = omega arith in ap (λ n. more ++ replicate n false) e ∙ nothing more)
  where
    nothing : (xs : ClassSet) → xs ++ [] ≡ xs
    nothing [] = refl
    nothing (x ∷ xs) = ap (λ ys. x ∷ ys) (nothing xs)

pub front_held : (more : ClassSet) (n : ℕ) → n < length more → has more n ≡ true → slice_set (front_of n more) n true ≡ front_of (suc n) more
front_held [] n l h = absurd (omega (arith, l))
front_held (b ∷ more) zero l h =
    let e : suc (length more) - 1 ≡ length more = omega arith in
    let f : suc (length more) - 0 ≡ suc (length more) = omega arith in
    ap (λ k. slice_set (replicate k false) 0 true) f ∙ ap (λ x. x ∷ replicate (length more) false) (sym h) ∙ ap (λ k. b ∷ replicate k false) (sym e)
front_held (b ∷ more) (suc n) l h =
    let e : suc (length more) - suc n ≡ length more - n = omega arith in
    let f : suc (length more) - suc (suc n) ≡ length more - suc n = omega arith in
    ap (λ k. slice_set (b ∷ (take n more ++ replicate k false)) (suc n) true) e ∙ ap (λ xs. b ∷ xs) (front_held more n (omega arith) h)
    ∙ ap (λ k. b ∷ (take (suc n) more ++ replicate k false)) (sym f)

pub front_not_held : (more : ClassSet) (n : ℕ) → n < length more → has more n ≡ false → front_of n more ≡ front_of (suc n) more
front_not_held [] n l h = absurd (omega (arith, l))
front_not_held (b ∷ more) zero l h =
    let e : suc (length more) - 1 ≡ length more = omega arith in
    let f : suc (length more) - 0 ≡ suc (length more) = omega arith in
    ap (λ k. replicate k false) f ∙ ap (λ x. x ∷ replicate (length more) false) (sym h) ∙ ap (λ k. b ∷ replicate k false) (sym e)
front_not_held (b ∷ more) (suc n) l h =
    let e : suc (length more) - suc n ≡ length more - n = omega arith in
    let f : suc (length more) - suc (suc n) ≡ length more - suc n = omega arith in
    ap (λ k. b ∷ (take n more ++ replicate k false)) e ∙ ap (λ xs. b ∷ xs) (front_not_held more n (omega arith) h)
    ∙ ap (λ k. b ∷ (take (suc n) more ++ replicate k false)) (sym f)

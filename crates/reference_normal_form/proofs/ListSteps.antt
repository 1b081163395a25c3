-- One more item, at a step of a loop.
use Rattle.std.proofs.Common.{◌≡◌, ◌<◌, ◌≤◌, ◌+◌, cond, ℕ, List, [], ◌∷◌, ◌++◌, length, map, take, get_or, sym, subst, ◌∙◌, ap, refl, zero-add, add-one, append-nil, Bool, true, false}
use Rattle.std.specs.List.{filter, flat_map, enumerate_from, range_with_len}
use Rattle.std.proofs.Math.Seq.{take-suc}
use Rattle.std.proofs.lemmas.List.{map-append, take_all}
use Rattle.std.proofs.lemmas.List.Concat.{flat_map-append}
use Rattle.std.proofs.lemmas.List.Elements.{filter-append}
use Rattle.std.proofs.lemmas.List.FromFn.{map-range_with_len_more, length-enumerate_from, get_or-enumerate_from}

pub range_map_step : {A : Type 0} (f : ℕ → A) (n : ℕ) → map f (range_with_len 0 (n + 1)) ≡ map f (range_with_len 0 n) ++ f n ∷ []
range_map_step f n = map-range_with_len_more f 0 n n (zero-add n)

pub range_step : (n : ℕ) → range_with_len 0 (n + 1) ≡ range_with_len 0 n ++ n ∷ []
range_step n = sym (same (range_with_len 0 (n + 1))) ∙ range_map_step (λ k. k) n ∙ ap (λ ks. ks ++ n ∷ []) (same (range_with_len 0 n))
  where
    same : (ks : List ℕ) → map (λ k. k) ks ≡ ks
    same [] = refl
    same (k ∷ ks) = ap (λ r. k ∷ r) (same ks)

map_if : {A : Type 0} (f : ℕ → A) (b : Bool) (n : ℕ) → map f (cond b (n ∷ []) []) ≡ cond b (f n ∷ []) []
map_if f true n = refl
map_if f false n = refl

-- the numbers that pass a test, mapped
pub filter_map_step : {A : Type 0} (f : ℕ → A) (p : ℕ → Bool) (n : ℕ)
    → map f (filter p (range_with_len 0 (n + 1))) ≡ map f (filter p (range_with_len 0 n)) ++ cond (p n) (f n ∷ []) []
filter_map_step f p n =
    ap (λ ks. map f (filter p ks)) (range_step n)
    ∙ ap (map f) (filter-append p (range_with_len 0 n) (n ∷ []))
    ∙ map-append f (filter p (range_with_len 0 n)) (cond (p n) (n ∷ []) [])
    ∙ ap (λ ys. map f (filter p (range_with_len 0 n)) ++ ys) (map_if f (p n) n)

one_more : {A : Type 0} (xs : List A) (i : ℕ) (d : A) → i < length xs
    → take (i + 1) (enumerate_from 0 xs) ≡ take i (enumerate_from 0 xs) ++ (i, get_or xs i d) ∷ []
one_more {A} xs i d l =
    ap (λ k. take k (enumerate_from 0 xs)) (add-one i)
    ∙ take-suc (enumerate_from 0 xs) i (i, d) (subst (λ n. i < n) (sym (length-enumerate_from 0 xs)) l)
    ∙ ap (λ x. take i (enumerate_from 0 xs) ++ x ∷ []) (get_or-enumerate_from 0 xs i (i, d) l ∙ ap {B = ℕ × A} (λ n. (n, get_or xs i d)) (zero-add i))

all_of : {A : Type 0} (xs ys : List A) → ys ≡ xs → (i : ℕ) → length ys ≤ i → take i (enumerate_from 0 xs) ≡ enumerate_from 0 xs
all_of xs ys same i l = take_all i (enumerate_from 0 xs) (subst (λ n. n ≤ i) (ap length same ∙ sym (length-enumerate_from 0 xs)) l)

-- what the first items give, each with its number, and what one more gives; `ys` are the items as the loop has them
module _ {A B : Type 0} (f : ℕ × A → List B) (xs ys : List A) (same : ys ≡ xs) where
  pub numbered_more : (i : ℕ) (d : A) (old new more : List B) → i < length ys → old ≡ flat_map f (take i (enumerate_from 0 xs))
      → new ≡ old ++ more → more ≡ f (i, get_or ys i d) → new ≡ flat_map f (take (i + 1) (enumerate_from 0 xs))
  numbered_more i d old new more l before joined given =
      joined
      ∙ ap (λ bs. bs ++ more) before
      ∙ ap (λ bs. flat_map f (take i (enumerate_from 0 xs)) ++ bs) (given ∙ ap (λ zs. f (i, get_or zs i d)) same ∙ sym (append-nil (f (i, get_or xs i d))))
      ∙ sym (flat_map-append f (take i (enumerate_from 0 xs)) ((i, get_or xs i d) ∷ []))
      ∙ ap (flat_map f) (sym (one_more xs i d (subst (λ zs. i < length zs) same l)))

  pub numbered_end : (i : ℕ) (all : List B) → length ys ≤ i → all ≡ flat_map f (take i (enumerate_from 0 xs)) → all ≡ flat_map f (enumerate_from 0 xs)
  numbered_end i all l e = e ∙ ap (flat_map f) (all_of xs ys same i l)

-- the same where each gives one item
module _ {A B : Type 0} (f : ℕ × A → B) (xs ys : List A) (same : ys ≡ xs) where
  pub mapped_more : (i : ℕ) (d : A) (old new : List B) (b : B) → i < length ys → old ≡ map f (take i (enumerate_from 0 xs))
      → new ≡ old ++ b ∷ [] → b ≡ f (i, get_or ys i d) → new ≡ map f (take (i + 1) (enumerate_from 0 xs))
  mapped_more i d old new b l before joined given =
      joined
      ∙ ap (λ bs. bs ++ b ∷ []) before
      ∙ ap (λ x. map f (take i (enumerate_from 0 xs)) ++ x ∷ []) (given ∙ ap (λ zs. f (i, get_or zs i d)) same)
      ∙ sym (map-append f (take i (enumerate_from 0 xs)) ((i, get_or xs i d) ∷ []))
      ∙ ap (map f) (sym (one_more xs i d (subst (λ zs. i < length zs) same l)))

  pub mapped_end : (i : ℕ) (all : List B) → length ys ≤ i → all ≡ map f (take i (enumerate_from 0 xs)) → all ≡ map f (enumerate_from 0 xs)
  mapped_end i all l e = e ∙ ap (map f) (all_of xs ys same i l)

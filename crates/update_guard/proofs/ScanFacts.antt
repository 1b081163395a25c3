-- Scans of numbered lists and of pairs, from a place on.
use Rattle.std.proofs.Common.{◌≡◌, ◌∙◌, ◌<◌, ◌≤◌, ◌+◌, ◌++◌, ℕ, suc, Bool, true, false, not, cond, List, [], ◌∷◌, drop, take, length, get_or, ap, refl, sym, subst, arith, add-one, Option, Some, None, zero, ◌&&◌}
use Rattle.std.specs.Prelude.{find, zip, All}
use Rattle.std.specs.List.{enumerate_from, list_all}
use Rattle.std.proofs.Math.Seq.{drop-cons, take-suc}
use Rattle.std.proofs.lemmas.List.{take_all}
use Rattle.std.proofs.lemmas.List.Elements.{All-push}
use Rattle.std.proofs.Math.ListN.{drop_of_length-le}
use Rattle.std.proofs.lemmas.List.FromFn.{get_or-enumerate_from, length-enumerate_from}

-- a scan of a numbered list, from place i on
abbrev pub scan_from : {X : Type 0} → (ℕ × X → Bool) → ℕ → List X → ℕ → Option (ℕ × X)
scan_from p n xs i = find p (drop i (enumerate_from n xs))

pub scan_here : {X : Type 0} (p : ℕ × X → Bool) (n : ℕ) (xs : List X) (i : ℕ) (d : X) → i < length xs
    → scan_from p n xs i ≡ cond (p (n + i, get_or xs i d)) (Some (n + i, get_or xs i d)) (scan_from p n xs (i + 1))
scan_here p n xs i d h =
    let long : i < length (enumerate_from n xs) = rw (length-enumerate_from n xs) h in
    ap (find p) (drop-cons (enumerate_from n xs) i (0, d) long)
    ∙ ap (λ e. cond (p e) (Some e) (find p (drop (suc i) (enumerate_from n xs)))) (get_or-enumerate_from n xs i (0, d) h)
    ∙ ap (λ j. cond (p (n + i, get_or xs i d)) (Some (n + i, get_or xs i d)) (scan_from p n xs j)) (sym (add-one i))

pub scan_end : {X : Type 0} (p : ℕ × X → Bool) (n : ℕ) (xs : List X) (i : ℕ) → length xs ≤ i → scan_from p n xs i ≡ None
scan_end p n xs i h =
    let long : length (enumerate_from n xs) ≤ i = rw (length-enumerate_from n xs) h in
    ap (find p) (drop_of_length-le (enumerate_from n xs) long)

pub drop-zip : {X Y : Type 0} (xs : List X) (ys : List Y) (i : ℕ) (d : X) (e : Y) → i < length xs → i < length ys
    → drop i (zip xs ys) ≡ (get_or xs i d, get_or ys i e) ∷ drop (suc i) (zip xs ys)
drop-zip [] ys i d e h l = absurd (omega (arith, h))
drop-zip (x ∷ xs) [] i d e h l = absurd (omega (arith, l))
drop-zip (x ∷ xs) (y ∷ ys) zero d e h l = refl
drop-zip (x ∷ xs) (y ∷ ys) (suc i) d e h l = drop-zip xs ys i d e (omega arith) (omega arith)

pub drop-zip_end : {X Y : Type 0} (xs : List X) (ys : List Y) (i : ℕ) → length xs ≤ i → drop i (zip xs ys) ≡ []
drop-zip_end [] ys zero h = refl
drop-zip_end [] ys (suc i) h = refl
drop-zip_end (x ∷ xs) [] zero h = refl
drop-zip_end (x ∷ xs) [] (suc i) h = refl
drop-zip_end (x ∷ xs) (y ∷ ys) zero h = absurd (omega (arith, h))
drop-zip_end (x ∷ xs) (y ∷ ys) (suc i) h = drop-zip_end xs ys i (omega arith)

-- where no element fails a test, all pass it
pub list_all-from_find : {X : Type 0} (p : X → Bool) (xs : List X) → find (λ x. not (p x)) xs ≡ None → list_all p xs ≡ true
list_all-from_find p [] e = refl
list_all-from_find {X} p (x ∷ xs) e = by (p x) (list_all-from_find p xs) e
  where
    by : (b : Bool) → (find (λ y. not (p y)) xs ≡ None → list_all p xs ≡ true) → cond (not b) (Some x) (find (λ y. not (p y)) xs) ≡ None
        → (b && list_all p xs) ≡ true
    by true rest f = rest f
    by false rest f = cc

module _ {X : Type 0} (p : ℕ × X → Bool) (xs : List X) (i : ℕ) (x : X) (h : i < length xs) (is : x ≡ get_or xs i x) where
  here : scan_from p 1 xs i ≡ cond (p (i + 1, x)) (Some (i + 1, x)) (scan_from p 1 xs (i + 1))
  here =
      let n : 1 + i ≡ i + 1 = omega arith in
      scan_here p 1 xs i x h
      ∙ ap (λ y. cond (p (1 + i, y)) (Some (1 + i, y)) (scan_from p 1 xs (i + 1))) (sym is)
      ∙ ap (λ m. cond (p (m, x)) (Some (m, x)) (scan_from p 1 xs (i + 1))) n

  pub scan_found : p (i + 1, x) ≡ true → scan_from p 1 xs i ≡ Some (i + 1, x)
  scan_found e = here ∙ ap (λ b. cond b (Some (i + 1, x)) (scan_from p 1 xs (i + 1))) e

  pub scan_next : p (i + 1, x) ≡ false → scan_from p 1 xs i ≡ scan_from p 1 xs (i + 1)
  scan_next e = here ∙ ap (λ b. cond b (Some (i + 1, x)) (scan_from p 1 xs (i + 1))) e

pub all_more : {X : Type 0} (P : X → Type 0) (xs : List X) (i : ℕ) (x : X) → i < length xs → x ≡ get_or xs i x → All P (take i xs) → P x
    → All P (take (i + 1) xs)
all_more {X} P xs i x h is all px =
    let Q : List X → Type 0 = λ ys. All P ys in
    subst Q (sym (ap (λ j. take j xs) (add-one i) ∙ take-suc xs i x h ∙ ap (λ y. take i xs ++ y ∷ []) (sym is))) (All-push P (take i xs) x all px)

pub all_taken : {X : Type 0} (P : X → Type 0) (xs : List X) (i : ℕ) → length xs ≤ i → All P (take i xs) → All P xs
all_taken {X} P xs i h all = let Q : List X → Type 0 = λ ys. All P ys in subst Q (take_all i xs h) all

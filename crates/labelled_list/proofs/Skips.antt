-- A list with an item taken out at a place or put in there: the others by their places.
--     skip at k       where the item at k of a list stands once one is put in at `at`
use Rattle.std.proofs.Common.{◌≡◌, ◌≤◌, ◌<◌, ◌+◌, ℕ, zero, suc, Bool, true, false, cond, List, [], ◌∷◌, length, get_or, refl, ap, sym, arith}
use Rattle.std.specs.Prelude.{nat_lt}
use borrow.Author.Tests.{ltb-true, ltb-false}
use Rattle.std.specs.List.{insert, remove}

abbrev pub skip : ℕ → ℕ → ℕ
skip at k = cond (nat_lt k at) k (suc k)

pub not_below : (a b : ℕ) → b ≤ a → nat_lt a b ≡ false
not_below a b l = by (nat_lt a b) refl
  where
    by : (t : Bool) → nat_lt a b ≡ t → nat_lt a b ≡ false
    by true e = absurd (omega (arith, l, ltb-true a b e))
    by false e = e

pub skip_rises : (at i j : ℕ) → i < j → skip at i < skip at j
skip_rises at i j l = by (nat_lt i at) (nat_lt j at) refl refl
  where
    by : (a b : Bool) → nat_lt i at ≡ a → nat_lt j at ≡ b → cond a i (suc i) < cond b j (suc j)
    by true true p q = l
    by true false p q = omega arith
    by false true p q = absurd (omega (arith, l, ltb-false i at p, ltb-true j at q))
    by false false p q = omega arith

pub skip_same : (at i j : ℕ) → skip at i ≡ skip at j → i ≡ j
skip_same at i j = by (nat_lt i at) (nat_lt j at) refl refl
  where
    by : (a b : Bool) → nat_lt i at ≡ a → nat_lt j at ≡ b → cond a i (suc i) ≡ cond b j (suc j) → i ≡ j
    by true true p q e = e
    by true false p q e = absurd (omega (arith, e, ltb-true i at p, ltb-false j at q))
    by false true p q e = absurd (omega (arith, e, ltb-false i at p, ltb-true j at q))
    by false false p q e = omega (arith, e)

pub skip_within : (at i n : ℕ) → i + 1 < n → skip at i < n
skip_within at i n l = by (nat_lt i at)
  where
    by : (a : Bool) → cond a i (suc i) < n
    by true = omega arith
    by false = omega arith

pub skip_other : (at i : ℕ) → skip at i ≡ at → ⊥
skip_other at i = by (nat_lt i at) refl
  where
    by : (a : Bool) → nat_lt i at ≡ a → cond a i (suc i) ≡ at → ⊥
    by true p h = omega (arith, ltb-true i at p, h)
    by false p h = omega (arith, ltb-false i at p, h)

-- each place but one is skipped to
pub unskip : (at k n : ℕ) → (k ≡ at → ⊥) → k < n → at < n → (i : ℕ) × (k ≡ skip at i) × (i + 1 < n)
unskip at k n other l m = by (nat_lt k at) refl
  where
    above : (j : ℕ) → (j ≡ at → ⊥) → at ≤ j → j < n → (i : ℕ) × (j ≡ skip at i) × (i + 1 < n)
    above zero o h p = absurd (o (omega (arith, h)))
    above (suc j) o h p =
        let e = not_below j at (omega (arith, o, h)) in
        (j, sym (ap (λ b. cond b j (suc j)) e), omega (arith, p))

    by : (b : Bool) → nat_lt k at ≡ b → (i : ℕ) × (k ≡ skip at i) × (i + 1 < n)
    by true e = (k, sym (ap (λ b. cond b k (suc k)) e), omega (arith, ltb-true k at e, m))
    by false e = above k other (ltb-false k at e) l

-- a place that skips stays below where it comes from
pub skip_before : (at i : ℕ) → skip at i < at → skip at i ≡ i
skip_before at i = by (nat_lt i at) refl
  where
    by : (a : Bool) → nat_lt i at ≡ a → cond a i (suc i) < at → cond a i (suc i) ≡ i
    by true p h = refl
    by false p h = absurd (omega (arith, ltb-false i at p, h))

pub skip_after : (at i : ℕ) → at < skip at i → (skip at i ≡ i + 1) × (at ≤ i)
skip_after at i = by (nat_lt i at) refl
  where
    by : (a : Bool) → nat_lt i at ≡ a → at < cond a i (suc i) → (cond a i (suc i) ≡ i + 1) × (at ≤ i)
    by true p h = absurd (omega (arith, ltb-true i at p, h))
    by false p h = (omega arith, ltb-false i at p)

module _ {X : Type 0} where
  remove_before : (xs : List X) (at k : ℕ) (d : X) → at < length xs → k < at → get_or (remove xs at) k d ≡ get_or xs k d
  remove_before [] at k d l h = absurd (omega (arith, l))
  remove_before (x ∷ xs) zero k d l h = absurd (omega (arith, h))
  remove_before (x ∷ xs) (suc at) zero d l h = refl
  remove_before (x ∷ xs) (suc at) (suc k) d l h = remove_before xs at k d (omega arith) (omega arith)

  remove_after : (xs : List X) (at k : ℕ) (d : X) → at < length xs → at ≤ k → get_or (remove xs at) k d ≡ get_or xs (suc k) d
  remove_after [] at k d l h = absurd (omega (arith, l))
  remove_after (x ∷ xs) zero k d l h = refl
  remove_after (x ∷ xs) (suc at) zero d l h = absurd (omega (arith, h))
  remove_after (x ∷ xs) (suc at) (suc k) d l h = remove_after xs at k d (omega arith) (omega arith)

  pub remove_is : (xs : List X) (at k : ℕ) (d : X) → at < length xs → get_or (remove xs at) k d ≡ get_or xs (skip at k) d
  remove_is xs at k d l = by (nat_lt k at) refl
    where
      by : (b : Bool) → nat_lt k at ≡ b → get_or (remove xs at) k d ≡ get_or xs (cond b k (suc k)) d
      by true e = remove_before xs at k d l (ltb-true k at e)
      by false e = remove_after xs at k d l (ltb-false k at e)

  pub length_remove : (xs : List X) (at : ℕ) → at < length xs → length (remove xs at) + 1 ≡ length xs
  length_remove [] at l = absurd (omega (arith, l))
  length_remove (x ∷ xs) zero l = omega arith
  length_remove (x ∷ xs) (suc at) l = omega (arith, length_remove xs at (omega arith))

  insert_before : (xs : List X) (at k : ℕ) (x d : X) → at ≤ length xs → k < at → get_or (insert xs at x) k d ≡ get_or xs k d
  insert_before xs zero k x d l h = absurd (omega (arith, h))
  insert_before [] (suc at) k x d l h = absurd (omega (arith, l))
  insert_before (y ∷ ys) (suc at) zero x d l h = refl
  insert_before (y ∷ ys) (suc at) (suc k) x d l h = insert_before ys at k x d (omega arith) (omega arith)

  insert_after : (xs : List X) (at k : ℕ) (x d : X) → at ≤ length xs → at ≤ k → get_or (insert xs at x) (suc k) d ≡ get_or xs k d
  insert_after xs zero k x d l h = refl
  insert_after [] (suc at) k x d l h = absurd (omega (arith, l))
  insert_after (y ∷ ys) (suc at) zero x d l h = absurd (omega (arith, h))
  insert_after (y ∷ ys) (suc at) (suc k) x d l h = insert_after ys at k x d (omega arith) (omega arith)

  pub insert_is : (xs : List X) (at k : ℕ) (x d : X) → at ≤ length xs → get_or (insert xs at x) (skip at k) d ≡ get_or xs k d
  insert_is xs at k x d l = by (nat_lt k at) refl
    where
      by : (b : Bool) → nat_lt k at ≡ b → get_or (insert xs at x) (cond b k (suc k)) d ≡ get_or xs k d
      by true e = insert_before xs at k x d l (ltb-true k at e)
      by false e = insert_after xs at k x d l (ltb-false k at e)

  pub insert_at : (xs : List X) (at : ℕ) (x d : X) → at ≤ length xs → get_or (insert xs at x) at d ≡ x
  insert_at xs zero x d l = refl
  insert_at [] (suc at) x d l = absurd (omega (arith, l))
  insert_at (y ∷ ys) (suc at) x d l = insert_at ys at x d (omega arith)

  pub length_insert : (xs : List X) (at : ℕ) (x : X) → at ≤ length xs → length (insert xs at x) ≡ length xs + 1
  length_insert xs zero x l = omega arith
  length_insert [] (suc at) x l = absurd (omega (arith, l))
  length_insert (y ∷ ys) (suc at) x l = omega (arith, length_insert ys at x (omega arith))

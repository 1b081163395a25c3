-- How many members sets in order have.
use Rattle.std.proofs.Common.{◌≡◌, ◌≤◌, ◌*◌, ℕ, Bool, not, List, [], ◌∷◌, length, get_or, inl, inr, refl, sym, ◌∙◌, subst, arith}
use Rattle.std.specs.declared.cmp.Ordering.{Ordering}
use Rattle.std.specs.declared.cmp.Ordering.TheVariants.{Less}
use Rattle.std.specs.Cmp.{IsTotalOrder}
use Rattle.std.specs.List.{flat_map, filter}
use Rattle.std.proofs.lemmas.List.Concat.{length-flat_map}
use Rattle.std.proofs.lemmas.List.Filters.{length-filter_both}
use Rattle.std.proofs.lemmas.List.Sums.{sum_by-le}
use Rattle.beas_core.specs.Order.{TellsApart}
use Rattle.beas_core.specs.Sets.{distinct, IsInOrder}
use Rattle.beas_core.proofs.Sets.{Has, all_at, IsInOrder-distinct, Has-distinct, length-distinct-le, not_less_itself, not_less_both}

module _ {K : Type 0} {cmp : K → K → Ordering} (o : IsTotalOrder cmp) (tells : TellsApart cmp) where
  -- a set in order is no longer than one that has all its members
  fewer : (xs ys : List K) → IsInOrder cmp xs → IsInOrder cmp ys → ((y : K) → Has xs y → Has ys y) → length xs ≤ length ys
  fewer [] ys a b m = omega arith
  fewer (x ∷ xs) [] a b m = absurd (m x (inl refl))
  fewer (x ∷ xs) (y ∷ ys) a b m = elim (m x (inl refl)) [
    | inl e ↦ (let h = fewer xs ys a.1 b.1
        (λ z g. elim (m z (inr g)) [ inl d ↦ absurd (not_less_itself o tells x z (e ∙ sym d) (all_at (λ w. cmp x w ≡ Less) xs z a.0 g)) | inr k ↦ k ]) in
        omega arith)
    | inr h ↦ (
        let xy = all_at (λ w. cmp y w ≡ Less) ys x b.0 h in
        let k = fewer (x ∷ xs) ys a b.1 (λ z g. elim (m z g) [
          | inl d ↦ elim g [
            | inl f ↦ absurd (not_less_itself o tells y x (sym d ∙ f) xy)
            | inr f ↦ absurd (not_less_both o tells y x xy (subst (λ w. cmp x w ≡ Less) d (all_at (λ w. cmp x w ≡ Less) xs z a.0 f)))
          ]
          | inr i ↦ i
        ]) in omega arith)
  ]

  -- a set in order is no longer than any list that has all its members
  pub length_within : (xs ys : List K) → IsInOrder cmp xs → ((y : K) → Has xs y → Has ys y) → length xs ≤ length ys
  length_within xs ys a m =
      let h = fewer xs (distinct cmp ys) a (IsInOrder-distinct o tells ys) (λ y g. Has-distinct o tells ys y (m y g)) in
      let k = length-distinct-le o tells ys in
      omega arith

pub length-flat_map-le : {A B : Type 0} (f : A → List B) (n : ℕ) → ((x : A) → length (f x) ≤ n) → (xs : List A) → length (flat_map f xs) ≤ length xs * n
length-flat_map-le f n h xs =
    let e = length-flat_map f xs in
    let l = sum_by-le (λ x. length (f x)) n xs (λ i d l. h (get_or xs i d)) in
    omega (arith, e, l)

pub length-filter_le : {A : Type 0} (p : A → Bool) (xs : List A) → length (filter p xs) ≤ length xs
length-filter_le p xs = let e = length-filter_both p (λ x. not (p x)) (λ x. refl) xs in omega (arith, e)

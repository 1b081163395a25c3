-- Sums over a list and over what it is mapped to.
use Rattle.std.proofs.Common.{◌≡◌, ℕ, List, [], ◌∷◌, map, inl, inr, refl, arith, sum_by}
use Rattle.std.proofs.lemmas.List.Sums.{sum_by-cons}
use Rattle.beas_core.proofs.Sets.{Has}

pub same_sums : {A B : Type 0} (f : A → ℕ) (g : B → ℕ) (h : A → B) (xs : List A) → ((x : A) → Has xs x → f x ≡ g (h x))
    → sum_by f xs ≡ sum_by g (map h xs)
same_sums f g h [] e = refl
same_sums f g h (x ∷ xs) e =
    let first = e x (inl refl) in
    let rest = same_sums f g h xs (λ y m. e y (inr m)) in
    let a = sum_by-cons f x xs in
    let b = sum_by-cons g (h x) (map h xs) in
    omega (arith, first, rest, a, b)

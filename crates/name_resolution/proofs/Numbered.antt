-- Lists whose elements are numbered, and parts of lists.
use Rattle.std.proofs.Common.{◌≡◌, ℕ, ◌+◌, List, [], ◌∷◌, ◌++◌, length, refl, ap, arith, ◌∙◌, true}
use Rattle.std.specs.List.{enumerate_from, filter}

pub enumerate_append : {X : Type 0} (n : ℕ) (xs ys : List X) → enumerate_from n (xs ++ ys) ≡ enumerate_from n xs ++ enumerate_from (n + length xs) ys
enumerate_append n [] ys = ap (λ m. enumerate_from m ys) (omega arith)
enumerate_append n (x ∷ xs) ys =
    let shift : n + 1 + length xs ≡ n + length (x ∷ xs) = omega arith in
    ap (λ zs. (n, x) ∷ zs) (enumerate_append (n + 1) xs ys ∙ ap (λ m. enumerate_from (n + 1) xs ++ enumerate_from m ys) shift)

pub filter_all : {X : Type 0} (xs : List X) → filter (λ x. true) xs ≡ xs
filter_all [] = refl
filter_all (x ∷ xs) = ap (λ zs. x ∷ zs) (filter_all xs)

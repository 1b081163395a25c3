-- Rows with a comma and a space between them, one more at a time.
use Rattle.std.proofs.Common.{◌≡◌, ◌∙◌, ◌+◌, ◌++◌, ℕ, zero, suc, List, [], ◌∷◌, ap, append-nil, append_assoc, arith, codes, map, refl, sym}
use Rattle.std.specs.List.{flat_map, range_with_len}
use Rattle.std.proofs.lemmas.Grind.{flat_map-append}
use Rattle.std.proofs.lemmas.List.FromFn.{map-range_with_len_more}
use Rattle.beas_core.specs.Texts.{with_commas}
use Rattle.demo_gen.specs.Demo.{rows_text, separator}

pub no_rows : (row : ℕ → List ℕ) → rows_text row 0 ≡ []
unfolding rows_text
no_rows row = refl

spaced-more : (x : List ℕ) (xs : List (List ℕ)) (y : List ℕ) → with_commas (x ∷ xs ++ y ∷ []) ≡ with_commas (x ∷ xs) ++ (codes ", " ++ y)
spaced-more x xs y =
    ap (λ (after : List ℕ). x ++ after) (flat_map-append (λ other. codes ", " ++ other) xs (y ∷ [])
    ∙ ap (λ (last : List ℕ). flat_map (λ other. codes ", " ++ other) xs ++ last) (append-nil (codes ", " ++ y)))
    ∙ sym (append_assoc x (flat_map (λ other. codes ", " ++ other) xs) (codes ", " ++ y))

pub one_row : (row : ℕ → List ℕ) (n : ℕ) → rows_text row (n + 1) ≡ rows_text row n ++ (separator n ++ row n)
unfolding rows_text
one_row row zero = append-nil (row 0)
one_row row (suc n) = ap with_commas (map-range_with_len_more row 0 (suc n) (suc n) (omega arith))
    ∙ spaced-more (row 0) (map row (range_with_len 1 n)) (row (suc n))

-- a loop that has written n rows writes one more
pub row_written : (row : ℕ → List ℕ) (n : ℕ) (start before between after item : List ℕ) → before ≡ start ++ rows_text row n
    → between ≡ before ++ separator n → after ≡ between ++ item → item ≡ row n → after ≡ start ++ rows_text row (n + 1)
row_written row n start before between after item so_far apart added same =
    rw (added, apart, so_far, same, one_row row n)
    (append_assoc (start ++ rows_text row n) (separator n) (row n) ∙ append_assoc start (rows_text row n) (separator n ++ row n))

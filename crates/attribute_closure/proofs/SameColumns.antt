-- Columns that are compared one by one.
use Rattle.std.proofs.Common.{◌≡◌, ◌<◌, ◌≤◌, ◌+◌, ◌++◌, ◌∷◌, [], ℕ, List, length, take, get_or, ap, sym, ◌∙◌, arith, add-one}
use Rattle.std.proofs.Math.Seq.{take-suc}
use Rattle.std.proofs.lemmas.List.{take_all}
use Rattle.beas_core.specs.declared.schema.ColumnId.{ColumnId}

pub columns_same : (xs ys : List ColumnId) (i : ℕ) → length xs ≡ length ys → length xs ≤ i → take i xs ≡ take i ys → xs ≡ ys
columns_same xs ys i long all e = sym (take_all i xs all) ∙ e ∙ take_all i ys (omega (arith, all, long))

pub column_more : (xs ys : List ColumnId) (i : ℕ) (d : ColumnId) → i < length xs → i < length ys → (get_or xs i d).0 ≡ (get_or ys i d).0
    → take i xs ≡ take i ys → take (i + 1) xs ≡ take (i + 1) ys
column_more xs ys i d l m e h =
    let same : get_or xs i d ≡ get_or ys i d = ap (λ (n : ℕ). record { 0 = n }) e in
    ap (λ k. take k xs) (add-one i) ∙ take-suc xs i d l ∙ ap (λ zs. zs ++ get_or xs i d ∷ []) h
    ∙ ap (λ z. take i ys ++ z ∷ []) same ∙ sym (ap (λ k. take k ys) (add-one i) ∙ take-suc ys i d m)

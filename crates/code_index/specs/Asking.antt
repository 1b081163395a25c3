-- A row whose group is asked for by its codes in the columns of a key.
--     rows_alike        rows that are equal feed a hash the same
use Rattle.std.proofs.Common.{◌≡◌, ap, sym, ◌∙◌, true≢false}
use Rattle.std.specs.Prelude.{ℕ, List, [], ◌∷◌, ◌&&◌, IsTrue, true, nat_eq, slice_index_or}
use Rattle.std.specs.Cmp.{first_so, second_so, unsigned_Decides}
use Rattle.std.specs.Cmp.Lexicographic.{pointwise, bytes_decides}
use Rattle.std.specs.Hash as fed
use Rattle.beas_core.specs.declared.schema.ColumnId.{ColumnId}
use Rattle.code_index.specs.declared.asked.AskedRow.{AskedRow}
use Rattle.code_index.specs.Reading.{pick}

picks_alike : (row_codes : List ℕ) (xs ys : List ColumnId)
    → pointwise (λ a b. nat_eq a.0 b.0) xs ys ≡ true → pick xs row_codes ≡ pick ys row_codes
picks_alike row_codes [] [] h = λ i. []
picks_alike row_codes [] (y ∷ ys) h = absurd (true≢false (sym h))
picks_alike row_codes (x ∷ xs) [] h = absurd (true≢false (sym h))
picks_alike row_codes (x ∷ xs) (y ∷ ys) h =
    let first = (unsigned_Decides x.0 y.0).0 (first_so (nat_eq x.0 y.0) (pointwise (λ a b. nat_eq a.0 b.0) xs ys) h) in
    let rest = picks_alike row_codes xs ys (second_so (nat_eq x.0 y.0) (pointwise (λ a b. nat_eq a.0 b.0) xs ys) h) in
    λ i. slice_index_or row_codes (first i) 0 ∷ rest i

pub rows_alike : (x y : AskedRow) → IsTrue (pointwise (λ a b. nat_eq a.0 b.0) x.columns.now y.columns.now && pointwise nat_eq x.codes.now y.codes.now)
    → fed.slice fed.u64 (pick x.columns.now x.codes.now) ≡ fed.slice fed.u64 (pick y.columns.now y.codes.now)
rows_alike x y e =
    let columns = picks_alike x.codes.now x.columns.now y.columns.now
    (first_so (pointwise (λ a b. nat_eq a.0 b.0) x.columns.now y.columns.now) (pointwise nat_eq x.codes.now y.codes.now) e) in
    let row_codes = (bytes_decides x.codes.now y.codes.now).0
    (second_so (pointwise (λ a b. nat_eq a.0 b.0) x.columns.now y.columns.now) (pointwise nat_eq x.codes.now y.codes.now) e) in
    ap (fed.slice fed.u64) (columns) ∙ ap (λ ws. fed.slice fed.u64 (pick y.columns.now ws)) row_codes

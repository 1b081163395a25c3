-- Codes that are compared and copied one by one.
use Rattle.std.proofs.Common.{Bool, true, false, true≢false, ◌⊎◌, inl, inr, ◌≡◌, ◌≤◌, ◌<◌, ◌+◌, ℕ, zero, suc, List, [], ◌∷◌, length, take, drop, get_or, refl, ap, sym, ◌∙◌, arith, add-one}
use Rattle.std.specs.Prelude.{IsTrue, ◌↔◌, not}
use Rattle.std.proofs.lemmas.Bool.{cases_lt}
use Rattle.std.proofs.lemmas.List.{take_all}
use Rattle.std.proofs.Math.ListN.{set}
use Rattle.std.specs.declared.cmp.Ordering.TheVariants.{Less, Greater}
use Rattle.beas_core.specs.declared.value.Value.{Value}
use Rattle.beas_core.specs.declared.schema.ColumnId.{ColumnId}
use Rattle.beas_core.specs.Order.{row_cmp}
use Rattle.code_index.specs.Reading.{read, pick}

-- a tuple that goes on after the columns end
pub ended_after : (codes : List Value) (row_codes : List ℕ) (i : ℕ) (left : List ℕ) (columns : List ColumnId) → i < length left → length columns ≤ i
    → row_cmp (read codes (drop i left)) (read codes (pick (drop i columns) row_codes)) ≡ Greater
ended_after codes row_codes i [] columns l e = absurd (omega (arith, l))
ended_after codes row_codes zero (x ∷ left) [] l e = refl
ended_after codes row_codes zero (x ∷ left) (c ∷ columns) l e = absurd (omega (arith, e))
ended_after codes row_codes (suc i) (x ∷ left) [] l e =
    ap (λ cs. row_cmp (read codes (drop i left)) (read codes (pick cs row_codes))) (sym (none i))
    ∙ ended_after codes row_codes i left [] (omega arith) (omega arith)
  where
    none : (j : ℕ) → drop {A = ColumnId} j [] ≡ []
    none zero = refl
    none (suc j) = refl
ended_after codes row_codes (suc i) (x ∷ left) (c ∷ columns) l e = ended_after codes row_codes i left columns (omega arith) (omega arith)

-- a tuple that ends before the columns do
pub ended_before : (codes : List Value) (row_codes : List ℕ) (i : ℕ) (left : List ℕ) (columns : List ColumnId) → length left ≤ i → i < length columns
    → row_cmp (read codes (drop i left)) (read codes (pick (drop i columns) row_codes)) ≡ Less
ended_before codes row_codes i left [] l e = absurd (omega (arith, e))
ended_before codes row_codes zero [] (c ∷ columns) l e = refl
ended_before codes row_codes zero (x ∷ left) (c ∷ columns) l e = absurd (omega (arith, l))
ended_before codes row_codes (suc i) [] (c ∷ columns) l e =
    ap (λ ws. row_cmp (read codes ws) (read codes (pick (drop i columns) row_codes))) (sym (none i))
    ∙ ended_before codes row_codes i [] columns (omega arith) (omega arith)
  where
    none : (j : ℕ) → drop {A = ℕ} j [] ≡ []
    none zero = refl
    none (suc j) = refl
ended_before codes row_codes (suc i) (x ∷ left) (c ∷ columns) l e = ended_before codes row_codes i left columns (omega arith) (omega arith)

-- a test that fails
pub not_within : (b : Bool) (i n : ℕ) → (IsTrue b ↔ (i < n)) → b ≡ false → n ≤ i
not_within b i n e f = by (cases_lt i n)
  where
    by : (i < n) ⊎ (n ≤ i) → n ≤ i
    by (inl l) = absurd (true≢false (sym (e.1 l) ∙ f))
    by (inr g) = g

write_at : (xs ys : List ℕ) (i w : ℕ) → length ys ≤ length xs → i < length ys → w ≡ get_or ys i w → take i xs ≡ take i ys
    → take (suc i) (set xs i w) ≡ take (suc i) ys
write_at xs [] i w n l e h = absurd (omega (arith, l))
write_at [] (y ∷ ys) i w n l e h = absurd (omega (arith, n))
write_at (x ∷ xs) (y ∷ ys) zero w n l e h = ap (λ z. z ∷ []) e
write_at (x ∷ xs) (y ∷ ys) (suc i) w n l e h =
    let first : x ≡ y = cc in
    let rest : take i xs ≡ take i ys = cc in
    let more = write_at xs ys i w (omega (arith, n)) (omega arith) e rest in λ j. first j ∷ more j

-- a code written after those that are right
pub write_next : (xs ys : List ℕ) (i w : ℕ) → length ys ≤ length xs → i < length ys → w ≡ get_or ys i w → take i xs ≡ take i ys
    → take (i + 1) (set xs i w) ≡ take (i + 1) ys
write_next xs ys i w n l e h =
    ap (λ j. take j (set xs i w)) (add-one i) ∙ write_at xs ys i w n l e h ∙ ap (λ j. take j ys) (sym (add-one i))

-- tuples that are alike so far, of which one ends
pub ended_alike : (b : Bool) (i : ℕ) (tuple own : List ℕ) → length tuple ≡ i → i ≤ length own → (IsTrue b ↔ (length tuple < length own)) → take i tuple ≡ take i own
    → IsTrue (not b) ↔ (tuple ≡ own)
ended_alike true i tuple own end within goes_on same = (λ t. absurd (true≢false (sym t)), λ e. absurd (omega (arith, goes_on.0 refl, ap length e)))
ended_alike false i tuple own end within goes_on same = (
  λ t. sym (take_all i tuple (omega (arith, end))) ∙ same ∙ take_all i own (omega (arith, end, not_within false (length tuple) (length own) goes_on refl)),
  λ e. refl,
)

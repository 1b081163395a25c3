-- Rows that are read value by value.
use Rattle.std.proofs.Common.{◌≡◌, ◌≤◌, ◌<◌, ◌+◌, ℕ, zero, suc, Bool, true, false, cond, List, [], ◌∷◌, length, drop, get_or, refl, ap, subst, ◌∙◌, arith}
use Rattle.std.specs.declared.cmp.Ordering.TheVariants.{Less}
use Rattle.std.specs.Prelude.{◌==◌, ◌||◌}
use Rattle.std.proofs.lemmas.Bool.{eqb-true}
use Rattle.beas_core.specs.declared.value.Value.{Value}
use Rattle.beas_core.specs.declared.schema.ColumnId.{ColumnId}
use Rattle.beas_core.specs.Order.{row_cmp}
use Rattle.beas_core.specs.Groups.{has_column}

nil_less : (ys : List Value) (i : ℕ) → i < length ys → row_cmp [] (drop i ys) ≡ Less
nil_less [] i l = absurd (omega (arith, l))
nil_less (y ∷ ys) zero l = refl
nil_less (y ∷ ys) (suc i) l = nil_less ys i (omega arith)

pub ended_before : (xs ys : List Value) (i : ℕ) → length xs ≤ i → i < length ys → row_cmp (drop i xs) (drop i ys) ≡ Less
ended_before xs [] i h l = absurd (omega (arith, l))
ended_before [] (y ∷ ys) zero h l = refl
ended_before [] (y ∷ ys) (suc i) h l = nil_less ys i (omega arith)
ended_before (x ∷ xs) (y ∷ ys) zero h l = absurd (omega (arith, h))
ended_before (x ∷ xs) (y ∷ ys) (suc i) h l = ended_before xs ys i (omega arith) (omega arith)

-- past a column that isn't the one that is looked for, whatever a tuple has in its columns
pub record IsPast {A : Type 0} (item_in : List ColumnId → List A → ColumnId → A) (columns : List ColumnId) (tuple : List A) (column : ColumnId) (i next : ℕ)
    : Type 0 where
  pub same : item_in (drop i columns) (drop i tuple) column ≡ item_in (drop next columns) (drop next tuple) column
  pub there : has_column (drop i columns) column ≡ has_column (drop next columns) column

tests_false : (m n : ℕ) → (m ≡ n → ⊥) → (m == n) ≡ false
tests_false m n h = by (m == n) refl
  where
    by : (b : Bool) → (m == n) ≡ b → (m == n) ≡ false
    by true e = absurd (h (eqb-true m n e))
    by false e = e

module _ {A : Type 0} (item_in : List ColumnId → List A → ColumnId → A)
    (first : (c : ColumnId) (cs : List ColumnId) (v : A) (vs : List A) (column : ColumnId)
    → item_in (c ∷ cs) (v ∷ vs) column ≡ cond (c.0 == column.0) v (item_in cs vs column)) where
  past_suc : (columns : List ColumnId) (tuple : List A) (column : ColumnId) (i : ℕ) → i < length columns → length tuple ≡ length columns
      → ((get_or columns i (record { 0 = 0 })).0 ≡ column.0 → ⊥) → IsPast item_in columns tuple column i (suc i)
  past_suc [] tuple column i l w h = absurd (omega (arith, l))
  past_suc (c ∷ cs) [] column i l w h = absurd (omega (arith, w))
  past_suc (c ∷ cs) (v ∷ vs) column zero l w h =
      let e = tests_false c.0 column.0 h in record {
        same = first c cs v vs column ∙ ap (λ b. cond b v (item_in cs vs column)) e;
        there = ap (λ b. b || has_column cs column) e;
      }
  past_suc (c ∷ cs) (v ∷ vs) column (suc i) l w h =
      let p = past_suc cs vs column i (omega arith) (omega arith) h in record { same = p.same; there = p.there }

  pub past : (columns : List ColumnId) (tuple : List A) (column : ColumnId) (i : ℕ) → i < length columns → length tuple ≡ length columns
      → ((get_or columns i (record { 0 = 0 })).0 ≡ column.0 → ⊥) → IsPast item_in columns tuple column i (i + 1)
  past columns tuple column i l w h =
      let e : suc i ≡ i + 1 = omega arith in subst (IsPast item_in columns tuple column i) e (past_suc columns tuple column i l w h)

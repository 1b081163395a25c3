-- Where a column stands in a constraint's tuples.
use Rattle.std.proofs.Common.{true, false, true≢false, cond, ◌⊎◌, inl, inr, ◌≡◌, ◌≤◌, ◌<◌, ◌+◌, ◌-◌, ◌++◌, ℕ, zero, suc, List, [], ◌∷◌, length, get_or, refl, ap, sym, ◌∙◌, arith}
use Rattle.std.specs.Prelude.{◌==◌, ◌||◌, Some, None, position}
use Rattle.std.specs.List.{position_or_len}
use Rattle.std.proofs.lemmas.Bool.{cases_lt}
use Rattle.std.proofs.lemmas.Grind.{common_steps}
use Rattle.std.proofs.lemmas.List.Quantifiers.{position-Some}
use Rattle.std.proofs.lemmas.List.Sums.{fails_before_first}
use Rattle.beas_core.specs.declared.schema.ColumnId.{ColumnId}
use Rattle.beas_core.specs.Groups.{has_column}
use Rattle.code_index.specs.Reading.{code_in}
use Rattle.code_index.proofs.Members.{members_long, in_key, in_fetched}

-- a column's code in a tuple is the one at its first place
code_at : (columns : List ColumnId) (tuple : List ℕ) (column : ColumnId) (at : ℕ) (d : ColumnId) → length tuple ≡ length columns → at < length columns
    → ((get_or columns at d).0 == column.0) ≡ true → ((k : ℕ) → k < at → ((get_or columns k d).0 == column.0) ≡ false)
    → code_in columns tuple column ≡ get_or tuple at 0
code_at [] tuple column at d w l hit misses = absurd (omega (arith, l))
code_at (c ∷ columns) [] column at d w l hit misses = absurd (omega (arith, w))
code_at (c ∷ columns) (x ∷ tuple) column zero d w l hit misses = ap (λ b. cond b x (code_in columns tuple column)) hit
code_at (c ∷ columns) (x ∷ tuple) column (suc at) d w l hit misses =
    ap (λ b. cond b x (code_in columns tuple column)) (misses zero (omega arith))
    ∙ code_at columns tuple column at d (omega arith) (omega arith) hit (λ k h. misses (suc k) (omega arith))

pub record IsPlace (columns : List ColumnId) (column : ColumnId) (at : ℕ) : Type 0 where
  pub within : at < length columns
  pub code : (tuple : List ℕ) → length tuple ≡ length columns → code_in columns tuple column ≡ get_or tuple at 0

-- columns among which it has no place
missed : (columns : List ColumnId) (column : ColumnId) (k : ℕ) (d : ColumnId) → None ≡ position (λ (c : ColumnId). c.0 == column.0) columns → k < length columns
    → ((get_or columns k d).0 == column.0) ≡ false
missed columns column k d e l =
    let past : length columns ≤ position_or_len (λ (c : ColumnId). c.0 == column.0) columns = grind (arith, common_steps) in
    fails_before_first (λ (c : ColumnId). c.0 == column.0) columns k d (omega (arith, past, l))

same_in_key : (key fetched : List ColumnId) (column : ColumnId) (k : ℕ) (d : ColumnId) → k < length key
    → ((get_or (key ++ fetched) k d).0 == column.0) ≡ ((get_or key k d).0 == column.0)
same_in_key key fetched column k d l = ap (λ (c : ColumnId). c.0 == column.0) (in_key key fetched k d l)

same_after_key : (key fetched : List ColumnId) (column : ColumnId) (k : ℕ) (d : ColumnId) → length key ≤ k
    → ((get_or (key ++ fetched) k d).0 == column.0) ≡ ((get_or fetched (k - length key) d).0 == column.0)
same_after_key key fetched column k d l = ap (λ (c : ColumnId). c.0 == column.0) (in_fetched key fetched k d l)

-- before its place among the fetched columns of a constraint
missed_before : (key fetched : List ColumnId) (column : ColumnId) (at k : ℕ) (d : ColumnId) → None ≡ position (λ (c : ColumnId). c.0 == column.0) key
    → ((j : ℕ) → j < at → ((get_or fetched j d).0 == column.0) ≡ false) → k < length key + at → ((get_or (key ++ fetched) k d).0 == column.0) ≡ false
missed_before key fetched column at k d none misses h = by (cases_lt k (length key))
  where
    by : (k < length key) ⊎ (length key ≤ k) → ((get_or (key ++ fetched) k d).0 == column.0) ≡ false
    by (inl l) = same_in_key key fetched column k d l ∙ missed key column k d none l
    by (inr l) = same_after_key key fetched column k d l ∙ misses (k - length key) (omega (arith, h, l))

pub place_in_key : (key fetched : List ColumnId) (column : ColumnId) (at : ℕ) → Some at ≡ position (λ (c : ColumnId). c.0 == column.0) key
    → IsPlace (key ++ fetched) column at
place_in_key key fetched column at e =
    let d : ColumnId = record { 0 = 0 } in
    let p = position-Some (λ (c : ColumnId). c.0 == column.0) key at d (sym e) in
    let within : at < length (key ++ fetched) = omega (arith, p.0, members_long key fetched) in
    record {
      within = within;
      code = λ tuple w.
          code_at (key ++ fetched) tuple column at d w within (same_in_key key fetched column at d p.0 ∙ p.1)
          (λ k h. same_in_key key fetched column k d (omega (arith, h, p.0)) ∙ p.2 k h);
    }

pub place_after_key : (key fetched : List ColumnId) (column : ColumnId) (at : ℕ) → None ≡ position (λ (c : ColumnId). c.0 == column.0) key
    → Some at ≡ position (λ (c : ColumnId). c.0 == column.0) fetched → IsPlace (key ++ fetched) column (length key + at)
place_after_key key fetched column at none e =
    let d : ColumnId = record { 0 = 0 } in
    let p = position-Some (λ (c : ColumnId). c.0 == column.0) fetched at d (sym e) in
    let within : length key + at < length (key ++ fetched) = omega (arith, p.0, members_long key fetched) in
    let back : length key + at - length key ≡ at = omega arith in
    record {
      within = within;
      code = λ tuple w.
          code_at (key ++ fetched) tuple column (length key + at) d w within
          (same_after_key key fetched column (length key + at) d (omega arith) ∙ ap (λ n. (get_or fetched n d).0 == column.0) back ∙ p.1)
          (λ k h. missed_before key fetched column at k d none p.2 h);
    }

missing : (columns : List ColumnId) (column : ColumnId) → ((k : ℕ) (d : ColumnId) → k < length columns → ((get_or columns k d).0 == column.0) ≡ false)
    → has_column columns column ≡ false
missing [] column h = refl
missing (c ∷ columns) column h =
    ap (λ b. b || has_column columns column) (h zero c (omega arith)) ∙ missing columns column (λ k d l. h (suc k) d (omega arith))

-- a column of the tuples has a place
pub no_place : (key fetched : List ColumnId) (column : ColumnId) → has_column (key ++ fetched) column ≡ true
    → None ≡ position (λ (c : ColumnId). c.0 == column.0) key → None ≡ position (λ (c : ColumnId). c.0 == column.0) fetched → ⊥
no_place key fetched column has none none_after =
    true≢false (sym has ∙ missing (key ++ fetched) column (λ k d l. by k d l (cases_lt k (length key))))
  where
    by : (k : ℕ) (d : ColumnId) → k < length (key ++ fetched) → (k < length key) ⊎ (length key ≤ k) → ((get_or (key ++ fetched) k d).0 == column.0) ≡ false
    by k d l (inl h) = same_in_key key fetched column k d h ∙ missed key column k d none h
    by k d l (inr h) =
        same_after_key key fetched column k d h
        ∙ missed fetched column (k - length key) d none_after (omega (arith, l, h, members_long key fetched))

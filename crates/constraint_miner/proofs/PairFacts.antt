-- The pairs of columns, one column after the other, and groups of rows that are seen by two columns alone.
use Rattle.std.proofs.Common.{Bor, ◌≡◌, ◌<◌, ◌≤◌, ◌+◌, ◌-◌, ◌==◌, nat_le, ℕ, suc, max, Bool, true, false, cond, List, [], ◌∷◌, ◌++◌, length, map, drop, get_or, Option, Some, None, refl, ap, sym, ◌∙◌, arith, append_assoc}
use Rattle.std.specs.List.{filter, filter_map, flat_map, fold, cons_option}
use Rattle.std.specs.Option.{option_to_list}
use Rattle.std.proofs.lemmas.Bool.{le-leb, lt-leb}
use Rattle.std.proofs.lemmas.List.{drop_more}
use Rattle.beas_core.specs.declared.value.Value.{Value}
use Rattle.beas_core.specs.declared.schema.ColumnId.{ColumnId}
use Rattle.beas_core.specs.Order.{row_cmp}
use Rattle.beas_core.specs.Sets.{distinct}
use Rattle.beas_core.specs.Groups.{project, same_row, group, greatest}
use Rattle.constraint_miner.specs.Pairs.{columns_from, pair_in}

pub columns_at : (column width : ℕ) → column < width
    → columns_from column (width - column) ≡ record { 0 = column } ∷ columns_from (column + 1) (width - (column + 1))
columns_at column width l =
    let e : width - column ≡ suc (width - (column + 1)) = omega arith in
    ap (columns_from column) e

next_at : (columns : List ColumnId) (i : ℕ) (d : ColumnId) → i < length columns → drop i columns ≡ get_or columns i d ∷ drop (i + 1) columns
next_at columns i d l = drop_more columns i d l

-- one column more
module _ {P : Type 0} (f : ColumnId → Option P) (columns : List ColumnId) (i : ℕ) (d : ColumnId) (l : i < length columns) (found all : List P) where
  pub pair_added : (pair : Option P) → pair ≡ f (get_or columns i d) → found ++ filter_map f (drop i columns) ≡ all
      → (found ++ option_to_list pair) ++ filter_map f (drop (i + 1) columns) ≡ all
  pair_added pair e h =
      append_assoc found (option_to_list pair) (filter_map f (drop (i + 1) columns))
      ∙ ap (λ xs. found ++ xs) (by pair ∙ ap (λ o. cons_option o (filter_map f (drop (i + 1) columns))) e ∙ ap (filter_map f) (sym (next_at columns i d l)))
      ∙ h
    where
      by : (o : Option P) → option_to_list o ++ filter_map f (drop (i + 1) columns) ≡ cons_option o (filter_map f (drop (i + 1) columns))
      by None = refl
      by (Some p) = refl

module _ {P : Type 0} (f : ColumnId → List P) (columns : List ColumnId) (i : ℕ) (d : ColumnId) (l : i < length columns) (found all : List P) where
  pub pairs_added : (pairs : List P) → pairs ≡ f (get_or columns i d) → found ++ flat_map f (drop i columns) ≡ all
      → (found ++ pairs) ++ flat_map f (drop (i + 1) columns) ≡ all
  pairs_added pairs e h =
      append_assoc found pairs (flat_map f (drop (i + 1) columns))
      ∙ ap (λ xs. found ++ xs) (ap (λ xs. xs ++ flat_map f (drop (i + 1) columns)) e ∙ ap (flat_map f) (sym (next_at columns i d l)))
      ∙ h

-- rows that are seen through a map have the same groups
module _ {R : Type 0} (f g : R → List Value) (key fetched own rest : List ColumnId) (keys : (r : R) → project own (f r) ≡ project key (g r))
    (tuples : (r : R) → project (own ++ rest) (f r) ≡ project (key ++ fetched) (g r)) where
  tuples_same : (rows : List R) (value : List Value)
      → map (project (own ++ rest)) (filter (λ row. same_row (project own row) value) (map f rows))
      ≡ map (project (key ++ fetched)) (filter (λ row. same_row (project key row) value) (map g rows))
  tuples_same [] value = refl
  tuples_same (r ∷ rs) value = by (same_row (project own (f r)) value) (same_row (project key (g r)) value) (ap (λ k. same_row k value) (keys r))
      (tuples_same rs value)
    where
      by : (a b : Bool) → a ≡ b
          → map (project (own ++ rest)) (filter (λ row. same_row (project own row) value) (map f rs))
          ≡ map (project (key ++ fetched)) (filter (λ row. same_row (project key row) value) (map g rs))
          → map (project (own ++ rest)) (cond a (f r ∷ filter (λ row. same_row (project own row) value) (map f rs))
          (filter (λ row. same_row (project own row) value) (map f rs)))
          ≡ map (project (key ++ fetched)) (cond b (g r ∷ filter (λ row. same_row (project key row) value) (map g rs))
          (filter (λ row. same_row (project key row) value) (map g rs)))
      by true true e h = let t = tuples r in cc
      by true false e h = cc
      by false true e h = cc
      by false false e h = h

  group_seen : (rows : List R) (value : List Value) → group (map f rows) own rest value ≡ group (map g rows) key fetched value
  group_seen rows value = ap (distinct row_cmp) (tuples_same rows value)

  sizes_seen : (all rows : List R)
      → map (λ row. length (group (map f all) own rest (project own row))) (map f rows)
      ≡ map (λ row. length (group (map g all) key fetched (project key row))) (map g rows)
  sizes_seen all [] = refl
  sizes_seen all (r ∷ rs) =
      let here = ap (λ v. length (group (map f all) own rest v)) (keys r) ∙ ap length (group_seen all (project key (g r))) in
      let more = sizes_seen all rs in
      cc

  pub greatest_seen : (rows : List R) → greatest (map f rows) own rest ≡ greatest (map g rows) key fetched
  greatest_seen rows = ap (fold max 0) (sizes_seen rows rows)

pub pair_size : {P : Type 0} (row_of : P → List Value) (tuples : List P) (rows : List (Bor (List Value))) (first second : ColumnId)
    → map row_of tuples ≡ map (λ row. project (first ∷ second ∷ []) row.now) rows
    → greatest (map row_of tuples) (record { 0 = 0 } ∷ []) (record { 0 = 1 } ∷ []) ≡ greatest (map (λ row. row.now) rows) (first ∷ []) (second ∷ [])
pair_size row_of tuples rows first second e =
    ap (λ all. greatest all (record { 0 = 0 } ∷ []) (record { 0 = 1 } ∷ [])) e
    ∙ greatest_seen (λ row. project (first ∷ second ∷ []) row.now) (λ row. row.now) (first ∷ []) (second ∷ []) (record { 0 = 0 } ∷ []) (record { 0 = 1 } ∷ [])
    (λ row. refl) (λ row. refl) rows

pub pair_within : (rows : List (List Value)) (limit : ℕ) (first second : ColumnId) (most : ℕ) → most ≡ greatest rows (first ∷ []) (second ∷ [])
    → (first.0 == second.0) ≡ false → most ≤ limit → Some (first, second, most) ≡ pair_in rows limit first second
pair_within rows limit first second most e n l =
    ap (λ b. cond b (Some (first, second, most)) None) (sym (le-leb most limit l))
    ∙ ap (λ m. cond (nat_le m limit) (Some (first, second, m)) None) e
    ∙ ap (λ b. cond b None (cond (nat_le (greatest rows (first ∷ []) (second ∷ [])) limit) (Some (first, second, greatest rows (first ∷ []) (second ∷ [])))
    None)) (sym n)

pub pair_above : (rows : List (List Value)) (limit : ℕ) (first second : ColumnId) (most : ℕ) → most ≡ greatest rows (first ∷ []) (second ∷ [])
    → (first.0 == second.0) ≡ false → limit < most → None ≡ pair_in rows limit first second
pair_above rows limit first second most e n l =
    ap (λ b. cond b (Some (first, second, most)) None) (sym (lt-leb most limit l))
    ∙ ap (λ m. cond (nat_le m limit) (Some (first, second, m)) None) e
    ∙ ap (λ b. cond b None (cond (nat_le (greatest rows (first ∷ []) (second ∷ [])) limit) (Some (first, second, greatest rows (first ∷ []) (second ∷ [])))
    None)) (sym n)

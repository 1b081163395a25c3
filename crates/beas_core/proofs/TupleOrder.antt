-- How a tuple stands to a row's values in some columns, by place.
use Rattle.std.proofs.Common.{◌≡◌, ◌<◌, ◌+◌, ℕ, List, [], ◌∷◌, length, drop, get_or, ap, ◌∙◌}
use Rattle.std.specs.declared.cmp.Ordering.TheVariants.{Less, Greater}
use Rattle.std.specs.Ordering.{ordering_then}
use Rattle.std.proofs.Math.Seq.{drop-length}
use Rattle.std.proofs.lemmas.List.{drop_more}
use Rattle.beas_core.specs.declared.value.Value.{Value}
use Rattle.beas_core.specs.declared.schema.ColumnId.{ColumnId}
use Rattle.beas_core.specs.Order.{value_cmp, row_cmp}
use Rattle.beas_core.specs.Groups.{value_at, project}

-- one place more on both sides
pub next_place : (tuple : List Value) (columns : List ColumnId) (row : List Value) (i : ℕ) (d : Value) (e : ColumnId) → i < length tuple → i < length columns
    → row_cmp (drop i tuple) (project (drop i columns) row)
    ≡ ordering_then (value_cmp (get_or tuple i d) (value_at row (get_or columns i e))) (row_cmp (drop (i + 1) tuple) (project (drop (i + 1) columns) row))
next_place tuple columns row i d e l m =
    ap (λ t. row_cmp t (project (drop i columns) row)) (drop_more tuple i d l)
    ∙ ap (λ cs. row_cmp (get_or tuple i d ∷ drop (i + 1) tuple) (project cs row)) (drop_more columns i e m)

-- a tuple that ends first comes first
pub tuple_ends : (tuple : List Value) (columns : List ColumnId) (row : List Value) (i : ℕ) (e : ColumnId) → i ≡ length tuple → i < length columns
    → row_cmp (drop i tuple) (project (drop i columns) row) ≡ Less
tuple_ends tuple columns row i e l m =
    ap (λ t. row_cmp t (project (drop i columns) row)) (ap (λ n. drop n tuple) l ∙ drop-length tuple)
    ∙ ap (λ cs. row_cmp [] (project cs row)) (drop_more columns i e m)

-- and one that goes on after the columns comes last
pub columns_end : (tuple : List Value) (columns : List ColumnId) (row : List Value) (i : ℕ) (d : Value) → i ≡ length columns → i < length tuple
    → row_cmp (drop i tuple) (project (drop i columns) row) ≡ Greater
columns_end tuple columns row i d e l =
    ap (λ cs. row_cmp (drop i tuple) (project cs row)) (ap (λ n. drop n columns) e ∙ drop-length columns)
    ∙ ap (λ t. row_cmp t []) (drop_more tuple i d l)

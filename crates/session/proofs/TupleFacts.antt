-- How many rows tuples give, and how wide they are.
use Rattle.std.proofs.Common.{◌≡◌, ◌^◌, ◌<◌, ◌≤◌, List, [], ◌∷◌, length, All, arith, Option, Some, None}
use Rattle.std.proofs.lemmas.List.{length-map}
use Rattle.std.proofs.lemmas.List.Elements.{All-map, All-weaker}
use Rattle.std.specs.List.{filter_map, cons_option}
use Rattle.beas_core.specs.declared.value.Value.{Value}
use Rattle.sql_text.specs.declared.tree.Literal.{Literal}
use Rattle.name_resolution.specs.Binding.{bound_row, bound_rows, value_of}
use Rattle.name_resolution.specs.Meanings.{literal_meaning}

pub fewer : {X Y : Type 0} (f : X → Option Y) (xs : List X) → length (filter_map f xs) ≤ length xs
fewer f [] = omega arith
fewer {X} {Y} f (x ∷ xs) = by (f x) (fewer f xs)
  where
    by : (o : Option Y) → length (filter_map f xs) ≤ length xs → length (cons_option o (filter_map f xs)) ≤ length (x ∷ xs)
    by None l = omega (arith, l)
    by (Some y) l = omega (arith, l)

pub tuples_give_few : (tuples : List (List Literal)) → length (bound_rows tuples) ≡ length tuples
tuples_give_few tuples = length-map tuples bound_row

pub tuples_give_narrow : (tuples : List (List Literal)) → All (λ tuple. length tuple < 2 ^ 32) tuples → All (λ row. length row < 2 ^ 32) (bound_rows tuples)
tuples_give_narrow tuples narrow =
    All-map (λ (row : List Value). length row < 2 ^ 32) bound_row tuples
    (All-weaker (λ (tuple : List Literal). length tuple < 2 ^ 32) (λ (tuple : List Literal). length (bound_row tuple) < 2 ^ 32)
    (λ tuple l. omega (arith, l, fewer (λ literal. value_of (literal_meaning literal)) tuple)) tuples narrow)

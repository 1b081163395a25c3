-- Rows that come after all others are counted one by one, or taken out again.
use Rattle.std.proofs.Common.{◌≡◌, ◌∙◌, ◌<◌, ◌+◌, ◌++◌, ◌∷◌, ℕ, suc, Bool, true, false, List, [], length}
use Rattle.std.proofs.Common.{map, take, drop, get_or, ap, subst, sym, arith, add-one, append_assoc}
use Rattle.std.specs.Prelude.{IsTrue, ◌↔◌, if◌then◌else◌}
use Rattle.std.specs.List.Sorted.{IsPermutation}
use Rattle.std.proofs.Math.Seq.{drop-cons}
use Rattle.std.proofs.lemmas.List.{append-nil, length-map, take_more, get_or-map, take-append-drop}
use Rattle.std.proofs.lemmas.List.Sorted.{IsPermutation-append_right, IsPermutation-sym}
use Rattle.beas_core.specs.declared.value.Value.{Value}
use Rattle.beas_core.specs.declared.schema.Access.{Access}
use Rattle.beas_core.specs.Groups.{Holds}
use Rattle.access_index.specs.Index.{Index, IsIndexOf}
use Rattle.access_index.proofs.FewerRows.{Holds-front, Holds-permutation}
use Rattle.access_index.proofs.Indexing.{index_of_permutation}

-- the row at one place
module _ {X : Type 0} (f : X → List Value) (rows : List X) (i : ℕ) (row : X) (lt : i < length rows) (is : row ≡ get_or rows i row) where
  there : get_or (map f rows) i (f row) ≡ f row
  there = get_or-map f rows i row (f row) lt ∙ ap f (sym is)

  within : i < length (map f rows)
  within = omega (arith, lt, length-map rows f)

  pub left_from : drop i (map f rows) ≡ f row ∷ drop (i + 1) (map f rows)
  left_from =
      drop-cons (map f rows) i (f row) within
      ∙ ap (λ (x : List Value). x ∷ drop (suc i) (map f rows)) there ∙ ap (λ j. f row ∷ drop j (map f rows)) (sym (add-one i))

  with_row : (front : List (List Value)) → (front ++ take i (map f rows)) ++ f row ∷ [] ≡ front ++ take (i + 1) (map f rows)
  with_row front =
      append_assoc front (take i (map f rows)) (f row ∷ [])
      ∙ ap (λ rs. front ++ rs) (sym (take_more (map f rows) i (f row) within ∙ ap (λ (x : List Value). take i (map f rows) ++ x ∷ []) there))

  -- the index of the rows up to it, and with it
  pub one_row_more : (old new : Index) (front : List (List Value))
      → ((before after : List (List Value)) → IsIndexOf old (before ++ after) → IsIndexOf new (before ++ f row ∷ after))
      → IsIndexOf old (front ++ take i (map f rows)) → IsIndexOf new (front ++ take (i + 1) (map f rows))
  one_row_more old new front step h =
      let before = front ++ take i (map f rows) in
      subst (IsIndexOf new) (with_row front) (step before [] (subst (IsIndexOf old) (sym (append-nil before)) h))

  -- whether the constraint holds with it
  pub holds_with : (index : Index) (access : Access) (answer : Bool) (front : List (List Value)) → index.access ≡ access
      → ((rs : List (List Value)) → IsIndexOf index rs → Holds rs index.access → (IsTrue answer ↔ Holds (rs ++ f row ∷ []) index.access))
      → IsIndexOf index (front ++ take i (map f rows)) → Holds (front ++ take i (map f rows)) access
      → IsTrue answer ↔ Holds (front ++ take (i + 1) (map f rows)) access
  holds_with index access answer front same tells counted held =
      let before = front ++ take i (map f rows) in
      let t = tells before counted (subst (λ (a : Access). Holds before a) (sym same) held) in
      subst (λ rs. IsTrue answer ↔ Holds rs access) (with_row front) (subst (λ (a : Access). IsTrue answer ↔ Holds (before ++ f row ∷ []) a) same t)

-- where the constraint holds with all rows, it does with the first ones
pub holds_up_to : (front rows : List (List Value)) (i : ℕ) (access : Access) → Holds (front ++ rows) access → Holds (front ++ take i rows) access
holds_up_to front rows i access h =
    Holds-front (front ++ take i rows) (drop i rows) access
    (subst (λ rs. Holds rs access) (sym (append_assoc front (take i rows) (drop i rows) ∙ ap (λ rs. front ++ rs) (take-append-drop i rows))) h)

-- the rows in the order in which they were counted, and in their own
module _ {X : Type 0} (f : X → List Value) (lent slice : List X) (rows : List (List Value)) (p : IsPermutation (map f lent) rows) (e : slice ≡ lent) where
  in_order : (front : List (List Value)) → IsPermutation (front ++ map f slice) (front ++ rows)
  in_order front = subst (λ (ls : List X). IsPermutation (front ++ map f ls) (front ++ rows)) (sym e) (IsPermutation-append_right front (map f lent) rows p)

  pub index_in_order : (index : Index) (all : Bool) (front : List (List Value))
      → IsIndexOf index (if all then front ++ map f slice else front) → IsIndexOf index (if all then front ++ rows else front)
  index_in_order index true front h = index_of_permutation index (front ++ map f slice) (front ++ rows) (in_order front) h
  index_in_order index false front h = h

  pub holds_in_order : (access : Access) (all : Bool) (front : List (List Value)) → (IsTrue all ↔ Holds (front ++ map f slice) access)
      → IsTrue all ↔ Holds (front ++ rows) access
  holds_in_order access all front h = (
    λ t. Holds-permutation (front ++ map f slice) (front ++ rows) access (in_order front) (h.0 t),
    λ g. h.1 (Holds-permutation (front ++ rows) (front ++ map f slice) access (IsPermutation-sym (front ++ map f slice) (front ++ rows) (in_order front)) g),
  )

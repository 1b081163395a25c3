-- What is known of codes by their values.
use Rattle.std.proofs.Common.{◌≡◌, ℕ, suc, Bool, true, false, cond, List, [], ◌∷◌, length, refl, ap, sym, ◌∙◌, arith}
use Rattle.std.specs.Prelude.{nat_eq, nat_lt, not, ◌+◌, pos, position, Option, Some, None}
use Rattle.std.specs.Option.{option_map, option_map_or}
use Rattle.std.specs.List.{AllByRecursion, IsDistinct, position_or_len, swap_remove}
use Rattle.std.specs.Map.{keys_of, lookup, set_value}
use Rattle.std.specs.Cmp.Lexicographic.{pointwise, bytes_decides}
use Rattle.indexmap.specs.IndexMap.{swap_remove_entry}
use Rattle.indexmap.proofs.SetLemmas.{map-swap_remove}
use Rattle.beas_core.specs.declared.value.Value.{Value}
use Rattle.beas_core.specs.declared.value.Value.TheVariants.{Int}
use Rattle.std.specs.declared.cmp.Ordering.{Ordering}
use Rattle.std.specs.declared.cmp.Ordering.TheVariants.{Less, Equal, Greater}
use Rattle.beas_core.specs.Order.{value_cmp, value_cmp_total}
use Rattle.beas_core.specs.Groups.{same_row}
use Rattle.beas_core.proofs.Groups.{same_row_true, same_row_itself}
use Rattle.labelled_list.specs.declared.coded.Coded.{Coded}
use Rattle.code_index.specs.Codes.{value_of, AreDistinct}
use Rattle.code_index.specs.Reading.{read, read_group, read_entry, read_entries, AllKnown}

-- the values of codes tell the codes
pub read_tells : (codes : List Value) → AreDistinct codes → (a b : List ℕ) → AllKnown codes a → AllKnown codes b → read codes a ≡ read codes b → a ≡ b
read_tells codes d [] [] k l e = refl
read_tells codes d [] (y ∷ ys) k l e = cc
read_tells codes d (x ∷ xs) [] k l e = cc
read_tells codes d (x ∷ xs) (y ∷ ys) k l e =
    let first : value_of codes x ≡ value_of codes y = cc in
    let rest : read codes xs ≡ read codes ys = cc in
    let a = d x y (Int (pos 0)) k.0 l.0 first in
    let b = read_tells codes d xs ys k.1 l.1 rest in cc

module _ (codes : List Value) (distinct : AreDistinct codes) where
  alike : (a b : List ℕ) → AllKnown codes a → AllKnown codes b → pointwise nat_eq a b ≡ same_row (read codes a) (read codes b)
  alike a b k l = by (pointwise nat_eq a b) (same_row (read codes a) (read codes b)) refl refl
    where
      by : (p q : Bool) → pointwise nat_eq a b ≡ p → same_row (read codes a) (read codes b) ≡ q → p ≡ q
      by true true e f = refl
      by false false e f = refl
      by true false e f =
          let same = ap (λ c. same_row (read codes a) (read codes c)) (sym ((bytes_decides a b).0 e)) ∙ same_row_itself (read codes a) in
          sym same ∙ f
      by false true e f =
          let same = (bytes_decides a b).1 (read_tells codes distinct a b k l (same_row_true (read codes a) (read codes b) f)) in
          sym e ∙ same

  pub distinct_read : (es : List (List ℕ × List Coded)) → AllByRecursion (λ e. AllKnown codes e.0) es → IsDistinct (pointwise nat_eq) (keys_of es)
      → IsDistinct same_row (keys_of (read_entries codes es))
  unfolding IsDistinct
  distinct_read [] k d = tt
  distinct_read (e ∷ es) k d = (others es k.1 d.0, distinct_read es k.1 d.1)
    where
      others : (fs : List (List ℕ × List Coded)) → AllByRecursion (λ f. AllKnown codes f.0) fs
          → AllByRecursion (λ y. pointwise nat_eq e.0 y ≡ false) (keys_of fs)
          → AllByRecursion (λ y. same_row (read codes e.0) y ≡ false) (keys_of (read_entries codes fs))
      others [] l a = tt
      others (f ∷ fs) l a = (sym (alike e.0 f.0 k.0 l.0) ∙ a.0, others fs l.1 a.1)

  module _ (key : List ℕ) (known : AllKnown codes key) where
    pub lookup_read : (es : List (List ℕ × List Coded)) → AllByRecursion (λ e. AllKnown codes e.0) es
        → lookup (same_row (read codes key)) (read_entries codes es) ≡ option_map (read_group codes) (lookup (pointwise nat_eq key) es)
    lookup_read [] k = refl
    lookup_read (e ∷ es) k =
        ap (λ b. cond b (Some (read_group codes e.1)) (lookup (same_row (read codes key)) (read_entries codes es))) (sym (alike key e.0 known k.0))
        ∙ ap (λ o. cond (pointwise nat_eq key e.0) (Some (read_group codes e.1)) o) (lookup_read es k.1) ∙ by (pointwise nat_eq key e.0)
      where
        by : (b : Bool) → cond b (Some (read_group codes e.1)) (option_map (read_group codes) (lookup (pointwise nat_eq key) es))
            ≡ option_map (read_group codes) (cond b (Some e.1) (lookup (pointwise nat_eq key) es))
        by true = refl
        by false = refl

    pub set_read : (es : List (List ℕ × List Coded)) (g : List Coded) → AllByRecursion (λ e. AllKnown codes e.0) es
        → read_entries codes (set_value (pointwise nat_eq key) es g) ≡ set_value (same_row (read codes key)) (read_entries codes es) (read_group codes g)
    set_read [] g k = refl
    set_read (e ∷ es) g k =
        by (pointwise nat_eq key e.0) (set_read es g k.1)
        ∙ ap (λ b. cond b ((read codes e.0, read_group codes g) ∷ read_entries codes es)
        ((read codes e.0, read_group codes e.1) ∷ set_value (same_row (read codes key)) (read_entries codes es) (read_group codes g))) (alike key e.0 known k.0)
      where
        by : (b : Bool) → read_entries codes (set_value (pointwise nat_eq key) es g) ≡ set_value (same_row (read codes key)) (read_entries codes es) (read_group codes g)
            → read_entries codes (cond b ((e.0, g) ∷ es) (e ∷ set_value (pointwise nat_eq key) es g))
            ≡ cond b ((read codes e.0, read_group codes g) ∷ read_entries codes es)
            ((read codes e.0, read_group codes e.1) ∷ set_value (same_row (read codes key)) (read_entries codes es) (read_group codes g))
        by true h = refl
        by false h = ap (λ fs. (read codes e.0, read_group codes e.1) ∷ fs) h

    place_read : (es : List (List ℕ × List Coded)) → AllByRecursion (λ e. AllKnown codes e.0) es
        → position_or_len (same_row (read codes key)) (keys_of (read_entries codes es)) ≡ position_or_len (pointwise nat_eq key) (keys_of es)
    place_read [] k = refl
    place_read (e ∷ es) k = λ i. cond (not (sym (alike key e.0 known k.0) i)) (1 + place_read es k.1 i) 0

    length_read : (es : List (List ℕ × List Coded)) → length (keys_of (read_entries codes es)) ≡ length (keys_of es)
    length_read [] = refl
    length_read (e ∷ es) = ap suc (length_read es)

    pub position_read : (es : List (List ℕ × List Coded)) → AllByRecursion (λ e. AllKnown codes e.0) es
        → position (same_row (read codes key)) (keys_of (read_entries codes es)) ≡ position (pointwise nat_eq key) (keys_of es)
    position_read es k = λ i. cond (nat_lt (place_read es k i) (length_read es i)) (Some (place_read es k i)) None

    pub swap_read : (es : List (List ℕ × List Coded)) → AllByRecursion (λ e. AllKnown codes e.0) es
        → read_entries codes (swap_remove_entry (pointwise nat_eq key) es) ≡ swap_remove_entry (same_row (read codes key)) (read_entries codes es)
    swap_read [] k = refl
    swap_read (e ∷ es) k =
        by (position (pointwise nat_eq key) (keys_of (e ∷ es))) refl
        ∙ ap (λ o. option_map_or (λ i. swap_remove (read_entries codes (e ∷ es)) i (read_entry codes e)) o (read_entries codes (e ∷ es)))
        (sym (position_read (e ∷ es) k))
      where
        by : (o : Option ℕ) → position (pointwise nat_eq key) (keys_of (e ∷ es)) ≡ o
            → read_entries codes (option_map_or (λ i. swap_remove (e ∷ es) i e) o (e ∷ es))
            ≡ option_map_or (λ i. swap_remove (read_entries codes (e ∷ es)) i (read_entry codes e)) o (read_entries codes (e ∷ es))
        by None h = refl
        by (Some i) h = map-swap_remove (read_entry codes) (e ∷ es) i e (omega arith)

-- a value compared with itself
pub value_itself : (v : Value) → value_cmp v v ≡ Equal
value_itself v = by (value_cmp v v) refl
  where
    by : (o : Ordering) → value_cmp v v ≡ o → value_cmp v v ≡ Equal
    by Equal e = e
    by Less e = let r = value_cmp_total.antisymm v v in cc
    by Greater e = let r = value_cmp_total.antisymm v v in cc

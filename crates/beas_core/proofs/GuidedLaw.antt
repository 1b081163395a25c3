-- Guided or not, a query has its full answer.
use Rattle.std.proofs.Common.{◌≡◌, ℕ, Bool, true, false, not, cond, List, ◌++◌, map, ◌⊎◌, inl, inr, Some, None, refl, sym, subst}
use Rattle.std.specs.List.{list_any, filter}
use Rattle.std.specs.Ordering.{is_eq}
use Rattle.std.specs.declared.cmp.Ordering.{Ordering}
use Rattle.std.specs.declared.cmp.Ordering.TheVariants.{Less, Equal, Greater}
use Rattle.beas_core.specs.Types.{Row, TableRows, Guide}
use Rattle.beas_core.specs.Order.{row_cmp, row_cmp_total}
use Rattle.beas_core.specs.Sets.{IsInOrder}
use Rattle.beas_core.specs.Groups.{same_row}
use Rattle.beas_core.specs.Full.{meets, choices, choice_value, full_of, full_of_block, set_union, set_difference}
use Rattle.beas_core.specs.Trees.{QueryTree, Single, Either, Minus}
use Rattle.beas_core.proofs.Sets.{Has, Has-append_left, Has-append_right, Has-append_cases, Has-filter, Has-from_filter, Has-distinct, Has-from_distinct, IsInOrder-distinct, IsInOrder-filter, same_sets}
use Rattle.beas_core.proofs.ValueOrder.{row_cmp_tells}
use Rattle.beas_core.proofs.MemberTests.{any_has, any_by, none_by, from_not, to_not, which}
use Rattle.beas_core.proofs.BindingFacts.{same_row_to}
use Rattle.beas_core.specs.Guiding.{after}
use Rattle.beas_core.specs.Queries.{guide_of, is_guided, inside, answers, query_answers}

same_row_from : (a b : Row) → same_row a b ≡ true → a ≡ b
same_row_from a b e = by (row_cmp a b) refl e
  where
    by : (d : Ordering) → row_cmp a b ≡ d → is_eq d ≡ true → a ≡ b
    by Less h t = cc
    by Equal h t = row_cmp_tells a b h
    by Greater h t = cc

-- difference and union by members
Has-difference : (left right : List Row) (y : Row) → Has left y → (Has right y → ⊥) → Has (set_difference left right) y
Has-difference left right y h none = Has-filter (λ row. not (list_any (same_row row) right)) left y h
    (to_not (list_any (same_row y) right) (none_by (same_row y) right (λ z m. elim (which (same_row y z)) [
      | inl e ↦ absurd (none (subst (Has right) (sym (same_row_from y z e)) m))
      | inr e ↦ e
    ])))

Has-from_difference : (left right : List Row) (y : Row) → Has (set_difference left right) y → (Has left y) × (Has right y → ⊥)
Has-from_difference left right y h =
    let f = Has-from_filter (λ row. not (list_any (same_row row) right)) left y h in
    let e = from_not (list_any (same_row y) right) f.1 in
    (f.0, λ m. let t = any_by (same_row y) right y m (same_row_to y y refl) in cc)

Has-union : (left right : List Row) (y : Row) → Has left y ⊎ Has right y → Has (set_union left right) y
Has-union left right y (inl h) = Has-distinct row_cmp_total row_cmp_tells (left ++ right) y (Has-append_left left right y h)
Has-union left right y (inr h) = Has-distinct row_cmp_total row_cmp_tells (left ++ right) y (Has-append_right left right y h)

Has-from_union : (left right : List Row) (y : Row) → Has (set_union left right) y → Has left y ⊎ Has right y
Has-from_union left right y h = Has-append_cases left right y (Has-from_distinct row_cmp_total row_cmp_tells (left ++ right) y h)

abbrev pub InGuide : Guide → Row → Type 0
InGuide None y = Unit {0}
InGuide (Some found) y = Has found y

pub Has-inside : (guide : Guide) (found : List Row) (y : Row) → InGuide guide y → Has found y → Has (inside guide found) y
Has-inside None found y g h = h
Has-inside (Some rows) found y g h = Has-filter (λ row. list_any (same_row row) rows) found y h (any_by (same_row y) rows y g (same_row_to y y refl))

pub Has-from_inside : (guide : Guide) (found : List Row) (y : Row) → Has (inside guide found) y → (Has found y) × InGuide guide y
Has-from_inside None found y h = (h, tt)
Has-from_inside (Some rows) found y h =
    let f = Has-from_filter (λ row. list_any (same_row row) rows) found y h in
    let a = any_has (same_row y) rows f.1 in
    (f.0, subst (Has rows) (sym (same_row_from y a.0 a.2)) a.1)

chosen : (b : Bool) (guide : Guide) (y : Row) → InGuide guide y → InGuide (cond b guide None) y
chosen true guide y g = g
chosen false guide y g = tt

pub in_order-inside : (guide : Guide) (found : List Row) → IsInOrder row_cmp found → IsInOrder row_cmp (inside guide found)
in_order-inside None found h = h
in_order-inside (Some rows) found h = IsInOrder-filter row_cmp (λ row. list_any (same_row row) rows) found h

module _ (rows : TableRows) where
  block_in_order : (t : QueryTree) → IsInOrder row_cmp (full_of rows t)
  unfolding full_of_block
  block_in_order (Single block) = IsInOrder-distinct row_cmp_total row_cmp_tells
      (map (λ choice. map (choice_value choice) block.output) (filter (meets block) (choices rows block.atoms)))
  block_in_order (Either l r) = IsInOrder-distinct row_cmp_total row_cmp_tells (full_of rows l ++ full_of rows r)
  block_in_order (Minus l r) = IsInOrder-filter row_cmp (λ row. not (list_any (same_row row) (full_of rows r))) (full_of rows l) (block_in_order l)

  module _ (guided : List Bool) where
    pub answers_in_order : (n : ℕ) (guide : Guide) (t : QueryTree) → IsInOrder row_cmp (answers rows guided n guide t)
    answers_in_order n guide (Single block) = in_order-inside (guide_of guided n guide) (full_of_block rows block) (block_in_order (Single block))
    answers_in_order n guide (Either l r) = IsInOrder-distinct row_cmp_total row_cmp_tells
        (answers rows guided n guide l ++ answers rows guided (after n l) guide r)
    answers_in_order n guide (Minus l r) = IsInOrder-filter row_cmp
        (λ row. not (list_any (same_row row) (answers rows guided (after n l) (Some (answers rows guided n guide l)) r)))
        (answers rows guided n guide l) (answers_in_order n guide l)

    -- inside the guide, a tree answers what it answers in full
    pub alike : (n : ℕ) (guide : Guide) (t : QueryTree) (y : Row) → InGuide guide y
        → (Has (answers rows guided n guide t) y → Has (full_of rows t) y) × (Has (full_of rows t) y → Has (answers rows guided n guide t) y)
    alike n guide (Single block) y g = (
      λ h. (Has-from_inside (guide_of guided n guide) (full_of_block rows block) y h).0,
      λ h. Has-inside (guide_of guided n guide) (full_of_block rows block) y (chosen (is_guided guided n) guide y g) h,
    )
    alike n guide (Either l r) y g =
        let left = alike n guide l y g in
        let right = alike (after n l) guide r y g in
        let left_found = answers rows guided n guide l in
        let right_found = answers rows guided (after n l) guide r in (
          λ h. Has-union (full_of rows l) (full_of rows r) y
              (elim (Has-from_union left_found right_found y h) [ inl m ↦ inl (left.0 m) | inr m ↦ inr (right.0 m) ]),
          λ h. Has-union left_found right_found y
              (elim (Has-from_union (full_of rows l) (full_of rows r) y h) [ inl m ↦ inl (left.1 m) | inr m ↦ inr (right.1 m) ]),
        )
    alike n guide (Minus l r) y g =
        let left = alike n guide l y g in
        let found = answers rows guided n guide l in
        let right : Has found y → (Has (answers rows guided (after n l) (Some found) r) y → Has (full_of rows r) y) × (Has (full_of rows r) y
        → Has (answers rows guided (after n l) (Some found) r) y) = λ m. alike (after n l) (Some found) r y m in (
          λ h. (
              let d = Has-from_difference found (answers rows guided (after n l) (Some found) r) y h in
              Has-difference (full_of rows l) (full_of rows r) y (left.0 d.0) (λ k. d.1 ((right d.0).1 k))),
          λ h. (
              let d = Has-from_difference (full_of rows l) (full_of rows r) y h in
              let m = left.1 d.0 in
              Has-difference found (answers rows guided (after n l) (Some found) r) y m (λ k. d.1 ((right m).0 k))),
        )

    pub guided_answers_are_full : (t : QueryTree) → query_answers rows guided t ≡ full_of rows t
    guided_answers_are_full t = same_sets row_cmp_total row_cmp_tells (query_answers rows guided t) (full_of rows t)
        (answers_in_order 0 None t) (block_in_order t) (λ y. alike 0 None t y tt)

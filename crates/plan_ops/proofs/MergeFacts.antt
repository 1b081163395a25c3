-- What merging two sets in order, row by row, gives.
use Rattle.std.proofs.Common.{◌≡◌, ◌||◌, Bool, true, false, not, cond, Option, None, Some, MatchOption, List, [], ◌∷◌, ◌++◌, length, drop, ◌⊎◌, inl, inr, refl, ap, sym, ◌∙◌, subst, append_assoc, arith}
use Rattle.std.specs.Option.{option_to_list}
use Rattle.std.specs.declared.cmp.Ordering.{Ordering}
use Rattle.std.specs.declared.cmp.Ordering.TheVariants.{Less, Equal, Greater}
use Rattle.std.specs.List.{AllByRecursion, list_any}
use Rattle.std.specs.Ordering.{is_eq}
use Rattle.std.proofs.lemmas.Cmp.{tied_itself}
use Rattle.std.proofs.lemmas.List.{append-nil}
use Rattle.beas_core.specs.Types.{Row}
use Rattle.beas_core.specs.Order.{row_cmp, row_cmp_total}
use Rattle.beas_core.specs.Sets.{distinct, by_order, IsInOrder}
use Rattle.beas_core.specs.Groups.{same_row}
use Rattle.beas_core.specs.Full.{set_union, set_difference}
use Rattle.beas_core.proofs.ValueOrder.{row_cmp_tells}
use Rattle.beas_core.proofs.Sets.{Has, Has-append_left, Has-append_right, Has-append_cases, Has-distinct, Has-from_distinct, IsInOrder-distinct, all_at, all_from, distinct_is, less_from_greater, greater_from_less}
use Rattle.plan_ops.specs.Merging.{compared_fronts, from_row, begins_with}

-- a row that stands before all of both sets is the first of their union
least_first : (x : Row) (all xs ys : List Row) → AllByRecursion (λ y. row_cmp x y ≡ Less) xs → AllByRecursion (λ y. row_cmp x y ≡ Less) ys
    → ((r : Row) → Has all r → (r ≡ x) ⊎ Has (xs ++ ys) r) → Has all x → ((r : Row) → Has (xs ++ ys) r → Has all r)
    → distinct row_cmp all ≡ x ∷ set_union xs ys
least_first x all xs ys a b there first back =
    sym (distinct_is row_cmp_total row_cmp_tells all (x ∷ set_union xs ys) (before, IsInOrder-distinct row_cmp_total row_cmp_tells (xs ++ ys))
    (λ r. (into r, from r)))
  where
    before : AllByRecursion (λ y. row_cmp x y ≡ Less) (set_union xs ys)
    before = all_from (λ y. row_cmp x y ≡ Less) (set_union xs ys) (λ y h.
        elim (Has-append_cases xs ys y (Has-from_distinct row_cmp_total row_cmp_tells (xs ++ ys) y h)) [
          | inl g ↦ all_at (λ y. row_cmp x y ≡ Less) xs y a g
          | inr g ↦ all_at (λ y. row_cmp x y ≡ Less) ys y b g
        ])

    into : (r : Row) → Has (x ∷ set_union xs ys) r → Has all r
    into r (inl e) = subst (Has all) (sym e) first
    into r (inr h) = back r (Has-from_distinct row_cmp_total row_cmp_tells (xs ++ ys) r h)

    from : (r : Row) → Has all r → Has (x ∷ set_union xs ys) r
    from r h = elim (there r h) [ inl e ↦ inl e | inr g ↦ inr (Has-distinct row_cmp_total row_cmp_tells (xs ++ ys) r g) ]

abbrev Before : Row → List Row → Type 0
Before x xs = AllByRecursion (λ y. row_cmp x y ≡ Less) xs

-- what stands before the first of a set in order stands before all of it
before_all : (x y : Row) (ys : List Row) → row_cmp x y ≡ Less → Before y ys → Before x (y ∷ ys)
before_all x y ys e h = (e, all_from (λ z. row_cmp x z ≡ Less) ys (λ z g. row_cmp_total.trans x y z e (all_at (λ z. row_cmp y z ≡ Less) ys z h g)))

pub union_left_only : (x : Row) (xs : List Row) → IsInOrder row_cmp (x ∷ xs) → set_union (x ∷ xs) [] ≡ x ∷ set_union xs []
union_left_only x xs h = least_first x ((x ∷ xs) ++ []) xs [] h.0 tt (λ r g. g) (inl refl) (λ r g. inr g)

pub union_right_only : (y : Row) (ys : List Row) → IsInOrder row_cmp (y ∷ ys) → set_union [] (y ∷ ys) ≡ y ∷ set_union [] ys
union_right_only y ys h = least_first y (y ∷ ys) [] ys tt h.0 (λ r g. g) (inl refl) (λ r g. inr g)

pub union_left : (x y : Row) (xs ys : List Row) → IsInOrder row_cmp (x ∷ xs) → IsInOrder row_cmp (y ∷ ys) → row_cmp x y ≡ Less
    → set_union (x ∷ xs) (y ∷ ys) ≡ x ∷ set_union xs (y ∷ ys)
union_left x y xs ys h g e = least_first x ((x ∷ xs) ++ y ∷ ys) xs (y ∷ ys) h.0 (before_all x y ys e g.0) (λ r m. m) (inl refl) (λ r m. inr m)

pub union_right : (x y : Row) (xs ys : List Row) → IsInOrder row_cmp (x ∷ xs) → IsInOrder row_cmp (y ∷ ys) → row_cmp x y ≡ Greater
    → set_union (x ∷ xs) (y ∷ ys) ≡ y ∷ set_union (x ∷ xs) ys
union_right x y xs ys h g e =
    least_first y ((x ∷ xs) ++ y ∷ ys) (x ∷ xs) ys (before_all y x xs (less_from_greater row_cmp_total row_cmp_tells x y e) h.0) g.0
    there (Has-append_right (x ∷ xs) (y ∷ ys) y (inl refl)) back
  where
    there : (r : Row) → Has ((x ∷ xs) ++ y ∷ ys) r → (r ≡ y) ⊎ Has ((x ∷ xs) ++ ys) r
    there r m = elim (Has-append_cases (x ∷ xs) (y ∷ ys) r m) [
      | inl n ↦ inr (Has-append_left (x ∷ xs) ys r n)
      | inr n ↦ elim n [ inl d ↦ inl d | inr k ↦ inr (Has-append_right (x ∷ xs) ys r k) ]
    ]

    back : (r : Row) → Has ((x ∷ xs) ++ ys) r → Has ((x ∷ xs) ++ y ∷ ys) r
    back r m = elim (Has-append_cases (x ∷ xs) ys r m) [
      | inl n ↦ Has-append_left (x ∷ xs) (y ∷ ys) r n
      | inr n ↦ Has-append_right (x ∷ xs) (y ∷ ys) r (inr n)
    ]

pub union_both : (x y : Row) (xs ys : List Row) → IsInOrder row_cmp (x ∷ xs) → IsInOrder row_cmp (y ∷ ys) → row_cmp x y ≡ Equal
    → set_union (x ∷ xs) (y ∷ ys) ≡ x ∷ set_union xs ys
union_both x y xs ys h g e =
    let same = row_cmp_tells x y e in
    least_first x ((x ∷ xs) ++ y ∷ ys) xs ys h.0 (subst (λ z. Before z ys) (sym same) g.0) (there same) (inl refl) back
  where
    there : x ≡ y → (r : Row) → Has ((x ∷ xs) ++ y ∷ ys) r → (r ≡ x) ⊎ Has (xs ++ ys) r
    there same r (inl d) = inl d
    there same r (inr m) = elim (Has-append_cases xs (y ∷ ys) r m) [
      | inl n ↦ inr (Has-append_left xs ys r n)
      | inr n ↦ elim n [ inl d ↦ inl (d ∙ sym same) | inr k ↦ inr (Has-append_right xs ys r k) ]
    ]

    back : (r : Row) → Has (xs ++ ys) r → Has ((x ∷ xs) ++ y ∷ ys) r
    back r m = elim (Has-append_cases xs ys r m) [
      | inl n ↦ inr (Has-append_left xs (y ∷ ys) r n)
      | inr n ↦ inr (Has-append_right xs (y ∷ ys) r (inr n))
    ]

-- rows that stand before a row are no later row
pub any_from : (row y : Row) (others : List Row) → row_cmp row y ≡ Less
    → list_any (same_row y) others ≡ list_any (same_row y) (from_row row others)
any_from row y [] l = refl
any_from row y (x ∷ xs) l = by (row_cmp x row) refl (any_from row y xs l)
  where
    by : (d : Ordering) → row_cmp x row ≡ d → list_any (same_row y) xs ≡ list_any (same_row y) (from_row row xs)
        → list_any (same_row y) (x ∷ xs) ≡ list_any (same_row y) (by_order d (from_row row xs) (x ∷ xs) (x ∷ xs))
    by Less e rest =
        let g = greater_from_less row_cmp_total row_cmp_tells x y (row_cmp_total.trans x row y e l) in
        let f : same_row y x ≡ false = ap is_eq g in
        ap (λ b. b || list_any (same_row y) xs) f ∙ rest
    by Equal e rest = refl
    by Greater e rest = refl

-- and what is left begins with the row exactly where the row was there
pub any_begins : (row : Row) (others : List Row) → IsInOrder row_cmp others
    → list_any (same_row row) others ≡ begins_with row (from_row row others)
any_begins row [] h = refl
any_begins row (x ∷ xs) h = by (row_cmp x row) refl (any_begins row xs h.1)
  where
    none : (ys : List Row) → Before row ys → list_any (same_row row) ys ≡ false
    none [] a = refl
    none (y ∷ ys) a = let f : same_row row y ≡ false = ap is_eq a.0 in ap (λ b. b || list_any (same_row row) ys) f ∙ none ys a.1

    by : (d : Ordering) → row_cmp x row ≡ d → list_any (same_row row) xs ≡ begins_with row (from_row row xs)
        → list_any (same_row row) (x ∷ xs) ≡ begins_with row (by_order d (from_row row xs) (x ∷ xs) (x ∷ xs))
    by Less e rest =
        let f : same_row row x ≡ false = ap is_eq (greater_from_less row_cmp_total row_cmp_tells x row e) in
        ap (λ b. b || list_any (same_row row) xs) f ∙ rest
    by Equal e rest =
        let same = row_cmp_tells x row e in
        let t : same_row row x ≡ true = ap (same_row row) same ∙ ap is_eq (tied_itself row_cmp_total row) in
        ap (λ b. b || list_any (same_row row) xs) t ∙ sym t
    by Greater e rest =
        let l = less_from_greater row_cmp_total row_cmp_tells x row e in
        let f : same_row row x ≡ false = ap is_eq l in
        ap (λ b. b || list_any (same_row row) xs) f ∙ none xs (before_all row x xs l h.0).1 ∙ sym f

pub in_order_from : (row : Row) (others : List Row) → IsInOrder row_cmp others → IsInOrder row_cmp (from_row row others)
in_order_from row [] h = tt
in_order_from row (x ∷ xs) h = by (row_cmp x row) (in_order_from row xs h.1)
  where
    by : (d : Ordering) → IsInOrder row_cmp (from_row row xs) → IsInOrder row_cmp (by_order d (from_row row xs) (x ∷ xs) (x ∷ xs))
    by Less rest = rest
    by Equal rest = h
    by Greater rest = h

-- one row of a difference
pub difference_step : (row : Row) (left others : List Row) → IsInOrder row_cmp (row ∷ left) → IsInOrder row_cmp others
    → set_difference (row ∷ left) others
    ≡ cond (begins_with row (from_row row others)) [] (row ∷ []) ++ set_difference left (from_row row others)
difference_step row left others h g =
    by (list_any (same_row row) others) (begins_with row (from_row row others)) (any_begins row others g) (rest left h.0)
  where
    rest : (ys : List Row) → Before row ys → set_difference ys others ≡ set_difference ys (from_row row others)
    rest [] a = refl
    rest (y ∷ ys) a = each (list_any (same_row y) others) (list_any (same_row y) (from_row row others)) (any_from row y others a.0) (rest ys a.1)
      where
        each : (b c : Bool) → b ≡ c → set_difference ys others ≡ set_difference ys (from_row row others)
            → cond (not b) (y ∷ set_difference ys others) (set_difference ys others)
            ≡ cond (not c) (y ∷ set_difference ys (from_row row others)) (set_difference ys (from_row row others))
        each true true d e = e
        each true false d e = cc
        each false true d e = cc
        each false false d e = ap (λ zs. y ∷ zs) e

    by : (b c : Bool) → b ≡ c → set_difference left others ≡ set_difference left (from_row row others)
        → cond (not b) (row ∷ set_difference left others) (set_difference left others)
        ≡ cond c [] (row ∷ []) ++ set_difference left (from_row row others)
    by true true d e = e
    by true false d e = cc
    by false true d e = cc
    by false false d e = ap (λ zs. row ∷ zs) e

-- what is taken out of the fronts of two sets in order is the first of their union
pub taken_left : (r : Option Row) (xs ys rest : List Row) → compared_fronts xs ys ≡ Less → xs ≡ option_to_list r ++ rest → rest ≡ drop 1 xs
    → IsInOrder row_cmp xs → IsInOrder row_cmp ys
    → MatchOption r (set_union xs ys ≡ []) (λ row. set_union xs ys ≡ row ∷ set_union rest ys)
taken_left r [] [] rest c e d h g = cc
taken_left r [] (y ∷ ys) rest c e d h g = cc
taken_left None (x ∷ xs) ys rest c e d h g = absurd (omega (arith, ap length e, ap length d))
taken_left (Some row) (x ∷ xs) [] rest c e d h g = let u = union_left_only x xs h in cc
taken_left (Some row) (x ∷ xs) (y ∷ ys) rest c e d h g = let u = union_left x y xs ys h g c in cc

pub taken_right : (r : Option Row) (xs ys rest : List Row) → compared_fronts xs ys ≡ Greater → ys ≡ option_to_list r ++ rest → rest ≡ drop 1 ys
    → IsInOrder row_cmp xs → IsInOrder row_cmp ys
    → MatchOption r (set_union xs ys ≡ []) (λ row. set_union xs ys ≡ row ∷ set_union xs rest)
taken_right r [] [] rest c e d h g = cc
taken_right r (x ∷ xs) [] rest c e d h g = cc
taken_right None xs (y ∷ ys) rest c e d h g = absurd (omega (arith, ap length e, ap length d))
taken_right (Some row) [] (y ∷ ys) rest c e d h g = let u = union_right_only y ys g in cc
taken_right (Some row) (x ∷ xs) (y ∷ ys) rest c e d h g = let u = union_right x y xs ys h g c in cc

pub taken_both : (r s : Option Row) (xs ys rest later : List Row) → compared_fronts xs ys ≡ Equal → xs ≡ option_to_list r ++ rest → rest ≡ drop 1 xs
    → ys ≡ option_to_list s ++ later → later ≡ drop 1 ys → IsInOrder row_cmp xs → IsInOrder row_cmp ys
    → MatchOption r (set_union xs ys ≡ []) (λ row. set_union xs ys ≡ row ∷ set_union rest later)
taken_both None s [] [] rest later c e d f k h g = refl
taken_both (Some row) s [] [] rest later c e d f k h g = cc
taken_both r s [] (y ∷ ys) rest later c e d f k h g = cc
taken_both r s (x ∷ xs) [] rest later c e d f k h g = cc
taken_both None s (x ∷ xs) (y ∷ ys) rest later c e d f k h g = absurd (omega (arith, ap length e, ap length d))
taken_both (Some row) s (x ∷ xs) (y ∷ ys) rest later c e d f k h g = let u = union_both x y xs ys h g c in cc

-- one turn of a difference: the rows that are kept so far, and what is left of both answers
pub record Turn (kept rows others whole : List Row) : Type 0 where
  pub left : IsInOrder row_cmp rows
  pub right : IsInOrder row_cmp others
  pub all : kept ++ set_difference rows others ≡ whole

after : (kept all others : List Row) (row : Row) (rest : List Row) → Turn kept (row ∷ rest) others all
    → (b : Bool) → begins_with row (from_row row others) ≡ b → Turn (kept ++ cond b [] (row ∷ [])) rest (from_row row others) all
after kept all others row rest t b e = record {
  left = t.left.1;
  right = in_order_from row others t.right;
  all =
      append_assoc kept (cond b [] (row ∷ [])) (set_difference rest (from_row row others))
      ∙ ap (λ c. kept ++ (cond c [] (row ∷ []) ++ set_difference rest (from_row row others))) (sym e)
      ∙ ap (λ rows. kept ++ rows) (sym (difference_step row rest others t.left t.right))
      ∙ t.all;
}

pub after_kept : (kept all left others from : List Row) (row : Row) (rest : List Row) → Turn kept left others all → left ≡ row ∷ rest
    → from ≡ from_row row others → begins_with row from ≡ false → Turn (kept ++ row ∷ []) rest from all
after_kept kept all left others from row rest t e d b =
    subst (λ later. Turn (kept ++ row ∷ []) rest later all) (sym d)
    (after kept all others row rest (subst (λ xs. Turn kept xs others all) e t) false (ap (begins_with row) (sym d) ∙ b))

pub after_dropped : (kept all left others from : List Row) (row : Row) (rest : List Row) → Turn kept left others all → left ≡ row ∷ rest
    → from ≡ from_row row others → begins_with row from ≡ true → Turn kept rest from all
after_dropped kept all left others from row rest t e d b =
    subst (λ later. Turn kept rest later all) (sym d)
    (subst (λ rows. Turn rows rest (from_row row others) all) (append-nil kept)
    (after kept all others row rest (subst (λ xs. Turn kept xs others all) e t) true (ap (begins_with row) (sym d) ∙ b)))

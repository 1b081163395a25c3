-- Groups: as the part of an index that begins with the key, one row more, and the greatest of them.
--     begins key tuple      the tuple's first values are the key
use Rattle.std.proofs.Common.{◌≡◌, ◌≤◌, ℕ, max, Bool, true, false, cond, List, [], ◌∷◌, ◌++◌, length, map, ◌⊎◌, inl, inr, refl, ap, sym, ◌∙◌, subst, arith}
use Rattle.std.specs.Ordering.{eq_by_cmp, is_eq}
use Rattle.std.specs.declared.cmp.Ordering.{Ordering}
use Rattle.std.specs.declared.cmp.Ordering.TheVariants.{Less, Equal, Greater}
use Rattle.std.specs.Cmp.Lexicographic.{lists_ties, pointwise}
use Rattle.std.specs.List.{filter, fold, starts_with}
use Rattle.std.proofs.lemmas.Cmp.{eq_by_cmp_equiv, tied_itself}
use Rattle.std.proofs.lemmas.List.{take_at, append-nil, map-append, length-map}
use Rattle.std.proofs.lemmas.List.Elements.{filter_agree, filter-append}
use Rattle.beas_core.specs.declared.value.Value.{Value}
use Rattle.beas_core.specs.declared.schema.ColumnId.{ColumnId}
use Rattle.beas_core.specs.declared.schema.Access.{Access}
use Rattle.beas_core.specs.Order.{value_cmp, row_cmp, row_cmp_total}
use Rattle.beas_core.specs.Sets.{distinct, add_in_order}
use Rattle.beas_core.specs.Groups.{value_at, project, same_row, group, group_of, Holds, greatest}
use Rattle.beas_core.specs.Telling.{row_cmp_tells}
use Rattle.beas_core.proofs.Sets.{Has, Has-map, Has-from_map, distinct-filter, distinct_push}

abbrev pub begins : List Value → List Value → Bool
begins key tuple = starts_with (eq_by_cmp value_cmp) tuple key

pub same_row_true : (a b : List Value) → same_row a b ≡ true → a ≡ b
same_row_true a b e = by (row_cmp a b) refl e
  where
    by : (d : Ordering) → row_cmp a b ≡ d → is_eq d ≡ true → a ≡ b
    by Less h t = cc
    by Equal h t = row_cmp_tells a b h
    by Greater h t = cc

pub same_row_itself : (a : List Value) → same_row a a ≡ true
same_row_itself a = ap is_eq (tied_itself row_cmp_total a)

pub length-project : (columns : List ColumnId) (row : List Value) → length (project columns row) ≡ length columns
length-project columns row = length-map columns (value_at row)

pub project-append : (xs ys : List ColumnId) (row : List Value) → project (xs ++ ys) row ≡ project xs row ++ project ys row
project-append xs ys row = map-append (value_at row) xs ys

pub begins_project : (key fetched : List ColumnId) (row value : List Value) → length value ≡ length key
    → same_row (project key row) value ≡ begins value (project (key ++ fetched) row)
begins_project key fetched row value l =
    let n : length (project key row) ≡ length value = length-project key row ∙ sym l in
    (eq_by_cmp_equiv row_cmp_total).symm (project key row) value
    ∙ sym (lists_ties value_cmp (λ x y. refl) value (project key row))
    ∙ ap (pointwise (eq_by_cmp value_cmp) value) (sym (take_at (project key row) (project fetched row) (length value) n))
    ∙ ap (begins value) (sym (project-append key fetched row))

filter-map : {A B : Type 0} (p : B → Bool) (f : A → B) (xs : List A) → filter p (map f xs) ≡ map f (filter (λ x. p (f x)) xs)
filter-map p f [] = refl
filter-map {A} {B} p f (x ∷ xs) = by (p (f x)) (filter-map p f xs)
  where
    by : (b : Bool) → filter p (map f xs) ≡ map f (filter (λ x. p (f x)) xs)
        → cond b (f x ∷ filter p (map f xs)) (filter p (map f xs)) ≡ map f (cond b (x ∷ filter (λ x. p (f x)) xs) (filter (λ x. p (f x)) xs))
    by true e = ap (λ t. f x ∷ t) e
    by false e = e

-- a group is what begins with the key among the distinct tuples of all rows
pub group_is_filter : (rows : List (List Value)) (key fetched : List ColumnId) (value : List Value) → length value ≡ length key
    → group rows key fetched value ≡ filter (begins value) (distinct row_cmp (map (project (key ++ fetched)) rows))
group_is_filter rows key fetched value l =
    ap (λ kept. distinct row_cmp (map (project (key ++ fetched)) kept))
    (filter_agree (λ row. same_row (project key row) value) (λ row. begins value (project (key ++ fetched) row)) (λ row. begins_project key fetched row value l)
    rows)
    ∙ ap (distinct row_cmp) (sym (filter-map (begins value) (project (key ++ fetched)) rows))
    ∙ sym (distinct-filter row_cmp_total row_cmp_tells (begins value) (map (project (key ++ fetched)) rows))

-- one row more, at its own key and at any other
filter_push : {A : Type 0} (p : A → Bool) (xs : List A) (x : A) (b : Bool) → p x ≡ b → filter p (xs ++ x ∷ []) ≡ filter p xs ++ cond b (x ∷ []) []
filter_push p xs x b e = filter-append p xs (x ∷ []) ∙ ap (λ c. filter p xs ++ cond c (x ∷ []) []) e

pub group_push_own : (rows : List (List Value)) (key fetched : List ColumnId) (row : List Value)
    → group (rows ++ row ∷ []) key fetched (project key row) ≡ add_in_order row_cmp (project (key ++ fetched) row) (group rows key fetched (project key row))
group_push_own rows key fetched row =
    let kept = filter (λ r. same_row (project key r) (project key row)) rows in
    ap (λ k. distinct row_cmp (map (project (key ++ fetched)) k))
    (filter_push (λ r. same_row (project key r) (project key row)) rows row true (same_row_itself (project key row)))
    ∙ ap (distinct row_cmp) (map-append (project (key ++ fetched)) kept (row ∷ []))
    ∙ distinct_push row_cmp_total row_cmp_tells (map (project (key ++ fetched)) kept) (project (key ++ fetched) row)

pub group_push_other : (rows : List (List Value)) (key fetched : List ColumnId) (row value : List Value) → same_row (project key row) value ≡ false
    → group (rows ++ row ∷ []) key fetched value ≡ group rows key fetched value
group_push_other rows key fetched row value e =
    ap (λ k. distinct row_cmp (map (project (key ++ fetched)) k))
    (filter_push (λ r. same_row (project key r) value) rows row false e ∙ append-nil (filter (λ r. same_row (project key r) value) rows))

-- a constraint holds with one row more exactly where the group of that row fits
pub Holds-push : (rows : List (List Value)) (access : Access) (row : List Value) → Holds rows access
    → length (group_of (rows ++ row ∷ []) access (project access.key row)) ≤ access.bound → Holds (rows ++ row ∷ []) access
Holds-push rows access row h fits value = by (same_row (project access.key row) value) refl
  where
    by : (b : Bool) → same_row (project access.key row) value ≡ b → length (group_of (rows ++ row ∷ []) access value) ≤ access.bound
    by true e = let P : List Value → Type 0 = λ v. length (group_of (rows ++ row ∷ []) access v) ≤ access.bound in
        subst P (same_row_true (project access.key row) value e) fits
    by false e = let P : List (List Value) → Type 0 = λ g. length g ≤ access.bound in
        subst P (sym (group_push_other rows access.key access.fetched row value e)) (h value)

pub Holds-nil : (access : Access) → Holds [] access
Holds-nil access value = omega arith

-- the greatest group
fold_max-from : (a : ℕ) (xs : List ℕ) → a ≤ fold max a xs
fold_max-from a [] = omega arith
fold_max-from a (x ∷ xs) = omega (arith, fold_max-from (max a x) xs)

fold_max-member : (a : ℕ) (xs : List ℕ) (x : ℕ) → Has xs x → x ≤ fold max a xs
fold_max-member a [] x h = absurd h
fold_max-member a (y ∷ ys) x (inl e) = omega (arith, fold_max-from (max a y) ys, e)
fold_max-member a (y ∷ ys) x (inr h) = fold_max-member (max a y) ys x h

fold_max-le : (b a : ℕ) (xs : List ℕ) → a ≤ b → ((x : ℕ) → Has xs x → x ≤ b) → fold max a xs ≤ b
fold_max-le b a [] l h = l
fold_max-le b a (x ∷ xs) l h = let here = h x (inl refl) in fold_max-le b (max a x) xs (omega arith) (λ y g. h y (inr g))

some_or_none : {A : Type 0} (p : A → Bool) (xs : List A) → (filter p xs ≡ []) ⊎ ((x : A) × (Has xs x) × (p x ≡ true))
some_or_none p [] = inl refl
some_or_none {A} p (x ∷ xs) = by (p x) refl (some_or_none p xs)
  where
    by : (b : Bool) → p x ≡ b → (filter p xs ≡ []) ⊎ ((y : A) × (Has xs y) × (p y ≡ true))
        → (cond b (x ∷ filter p xs) (filter p xs) ≡ []) ⊎ ((y : A) × (Has (x ∷ xs) y) × (p y ≡ true))
    by true e rest = inr (x, inl refl, e)
    by false e (inl n) = inl n
    by false e (inr r) = inr (r.0, inr r.1, r.2)

pub group_le-greatest : (rows : List (List Value)) (key fetched : List ColumnId) (value : List Value)
    → length (group rows key fetched value) ≤ greatest rows key fetched
group_le-greatest rows key fetched value = elim (some_or_none (λ row. same_row (project key row) value) rows) [
  | inl n ↦ let e = ap (λ kept. length (distinct row_cmp (map (project (key ++ fetched)) kept))) n in omega arith
  | inr r ↦ let P : List Value → Type 0 = λ v. length (group rows key fetched v) ≤ greatest rows key fetched in
      subst P (same_row_true (project key r.0) value r.2)
      (fold_max-member 0 (map (λ row. length (group rows key fetched (project key row))) rows) (length (group rows key fetched (project key r.0)))
      (Has-map (λ row. length (group rows key fetched (project key row))) rows r.0 r.1))
]

pub Holds-from_greatest : (rows : List (List Value)) (access : Access) → greatest rows access.key access.fetched ≤ access.bound → Holds rows access
Holds-from_greatest rows access l value = omega (arith, group_le-greatest rows access.key access.fetched value)

pub greatest-from_Holds : (rows : List (List Value)) (access : Access) → Holds rows access → greatest rows access.key access.fetched ≤ access.bound
greatest-from_Holds rows access h =
    fold_max-le access.bound 0 (map (λ row. length (group rows access.key access.fetched (project access.key row))) rows) (omega arith)
    (λ x g. let r = Has-from_map (λ row. length (group rows access.key access.fetched (project access.key row))) rows x g in
    let l = h (project access.key r.0) in let e = r.2 in omega arith)

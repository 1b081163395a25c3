-- Sets in order: what `distinct` keeps, and that a set in order is known by its members.
--     Has xs x               x is a member of xs
--     SameMembers xs ys      each member of one is a member of the other
use Rattle.std.proofs.Common.{◌≡◌, ◌≤◌, ◌<◌, ◌+◌, ℕ, zero, suc, Bool, true, false, cond, List, [], ◌∷◌, ◌++◌, length, map, take, drop, get_or, ◌⊎◌, inl, inr, refl, ap, sym, ◌∙◌, subst, arith}
use Rattle.std.specs.declared.cmp.Ordering.{Ordering}
use Rattle.std.specs.declared.cmp.Ordering.TheVariants.{Less, Equal, Greater}
use Rattle.std.specs.Ordering.{ordering_reverse, eq_by_cmp, is_eq}
use Rattle.std.specs.Cmp.{IsTotalOrder}
use Rattle.std.specs.List.{AllByRecursion, Contains, filter, dedup}
use Rattle.std.specs.List.Sorted.{IsPermutation, IsSorted, IsStrictlySortedBy}
use Rattle.std.proofs.lemmas.Cmp.{tied_itself, eq_by_cmp_equiv}
use Rattle.std.proofs.lemmas.List.Kept.{IsStrictlySortedBy-dedup, Contains-dedup, Contains-from_dedup}
use Rattle.std.proofs.lemmas.List.Sorted.{Contains-permutation, IsPermutation-sym}
use Rattle.beas_core.specs.Order.{TellsApart}
use Rattle.beas_core.specs.Sets.{by_order, add_in_order, distinct, IsInOrder}

abbrev pub Has : {K : Type 0} → List K → K → Type 0
Has [] y = ⊥
Has (x ∷ xs) y = (y ≡ x) ⊎ Has xs y

abbrev pub SameMembers : {K : Type 0} → List K → List K → Type 0
SameMembers {K} xs ys = (y : K) → (Has xs y → Has ys y) × (Has ys y → Has xs y)

pub Has-from_contains : {K : Type 0} (xs : List K) (y : K) → Contains xs y → Has xs y
Has-from_contains [] y h = absurd (omega (arith, h.1))
Has-from_contains {K} (x ∷ xs) y h = by h.0 h.1 h.2 (Has-from_contains xs y)
  where
    by : (k : ℕ) → k < length (x ∷ xs) → get_or (x ∷ xs) k y ≡ y → (Contains xs y → Has xs y) → Has (x ∷ xs) y
    by zero l e rest = inl (sym e)
    by (suc k) l e rest = inr (rest (k, omega arith, e))

pub Contains-from_has : {K : Type 0} (xs : List K) (y : K) → Has xs y → Contains xs y
Contains-from_has [] y h = absurd h
Contains-from_has {K} (x ∷ xs) y (inl e) = (0, omega arith, sym e)
Contains-from_has {K} (x ∷ xs) y (inr h) = let c = Contains-from_has xs y h in (suc c.0, omega (arith, c.1), c.2)

pub Has-append_left : {K : Type 0} (xs ys : List K) (y : K) → Has xs y → Has (xs ++ ys) y
Has-append_left [] ys y h = absurd h
Has-append_left (x ∷ xs) ys y (inl e) = inl e
Has-append_left (x ∷ xs) ys y (inr h) = inr (Has-append_left xs ys y h)

pub Has-append_right : {K : Type 0} (xs ys : List K) (y : K) → Has ys y → Has (xs ++ ys) y
Has-append_right [] ys y h = h
Has-append_right (x ∷ xs) ys y h = inr (Has-append_right xs ys y h)

pub Has-append_cases : {K : Type 0} (xs ys : List K) (y : K) → Has (xs ++ ys) y → Has xs y ⊎ Has ys y
Has-append_cases [] ys y h = inr h
Has-append_cases (x ∷ xs) ys y (inl e) = inl (inl e)
Has-append_cases (x ∷ xs) ys y (inr h) = elim (Has-append_cases xs ys y h) [ inl g ↦ inl (inr g) | inr g ↦ inr g ]

pub Has-map : {K J : Type 0} (f : J → K) (xs : List J) (x : J) → Has xs x → Has (map f xs) (f x)
Has-map f [] x h = absurd h
Has-map f (y ∷ ys) x (inl e) = inl (ap f e)
Has-map f (y ∷ ys) x (inr h) = inr (Has-map f ys x h)

pub Has-from_map : {K J : Type 0} (f : J → K) (xs : List J) (y : K) → Has (map f xs) y → (x : J) × (Has xs x) × (y ≡ f x)
Has-from_map f [] y h = absurd h
Has-from_map f (x ∷ xs) y (inl e) = (x, inl refl, e)
Has-from_map f (x ∷ xs) y (inr h) = let r = Has-from_map f xs y h in (r.0, inr r.1, r.2)

pub Has-filter : {K : Type 0} (p : K → Bool) (xs : List K) (y : K) → Has xs y → p y ≡ true → Has (filter p xs) y
Has-filter p [] y h t = absurd h
Has-filter {K} p (x ∷ xs) y h t = by (p x) refl h (λ g. Has-filter p xs y g t)
  where
    by : (b : Bool) → p x ≡ b → Has (x ∷ xs) y → (Has xs y → Has (filter p xs) y) → Has (cond b (x ∷ filter p xs) (filter p xs)) y
    by true e (inl d) rest = inl d
    by true e (inr g) rest = inr (rest g)
    by false e (inl d) rest = let c = ap p d in cc
    by false e (inr g) rest = rest g

pub Has-from_filter : {K : Type 0} (p : K → Bool) (xs : List K) (y : K) → Has (filter p xs) y → (Has xs y) × (p y ≡ true)
Has-from_filter p [] y h = absurd h
Has-from_filter {K} p (x ∷ xs) y h = by (p x) refl h (Has-from_filter p xs y)
  where
    by : (b : Bool) → p x ≡ b → Has (cond b (x ∷ filter p xs) (filter p xs)) y → (Has (filter p xs) y → (Has xs y) × (p y ≡ true))
        → (Has (x ∷ xs) y) × (p y ≡ true)
    by true e (inl d) rest = (inl d, ap p d ∙ e)
    by true e (inr g) rest = let r = rest g in (inr r.0, r.1)
    by false e g rest = let r = rest g in (inr r.0, r.1)

-- what holds of each member, and back
pub all_at : {K : Type 0} (P : K → Type 0) (xs : List K) (y : K) → AllByRecursion P xs → Has xs y → P y
all_at P [] y a h = absurd h
all_at P (x ∷ xs) y a (inl e) = subst P (sym e) a.0
all_at P (x ∷ xs) y a (inr h) = all_at P xs y a.1 h

pub all_from : {K : Type 0} (P : K → Type 0) (xs : List K) → ((y : K) → Has xs y → P y) → AllByRecursion P xs
all_from P [] f = tt
all_from P (x ∷ xs) f = (f x (inl refl), all_from P xs (λ y h. f y (inr h)))

pub Has-get_or : {K : Type 0} (xs : List K) (i : ℕ) (d : K) → i < length xs → Has xs (get_or xs i d)
Has-get_or [] i d l = absurd (omega (arith, l))
Has-get_or (x ∷ xs) zero d l = inl refl
Has-get_or (x ∷ xs) (suc i) d l = inr (Has-get_or xs i d (omega arith))

-- each member stands before all later ones, by places
pub IsInOrder-at : {K : Type 0} (cmp : K → K → Ordering) (xs : List K) (i j : ℕ) (d : K) → IsInOrder cmp xs → i < j → j < length xs
    → cmp (get_or xs i d) (get_or xs j d) ≡ Less
IsInOrder-at cmp [] i j d h l m = absurd (omega (arith, m))
IsInOrder-at cmp (x ∷ xs) i zero d h l m = absurd (omega (arith, l))
IsInOrder-at cmp (x ∷ xs) zero (suc j) d h l m = all_at (λ y. cmp x y ≡ Less) xs (get_or xs j d) h.0 (Has-get_or xs j d (omega arith))
IsInOrder-at cmp (x ∷ xs) (suc i) (suc j) d h l m = IsInOrder-at cmp xs i j d h.1 (omega arith) (omega arith)

pub IsInOrder-filter : {K : Type 0} (cmp : K → K → Ordering) (p : K → Bool) (xs : List K) → IsInOrder cmp xs → IsInOrder cmp (filter p xs)
IsInOrder-filter cmp p [] h = tt
IsInOrder-filter {K} cmp p (x ∷ xs) h = by (p x) (IsInOrder-filter cmp p xs h.1)
  where
    by : (b : Bool) → IsInOrder cmp (filter p xs) → IsInOrder cmp (cond b (x ∷ filter p xs) (filter p xs))
    by true rest = (all_from (λ y. cmp x y ≡ Less) (filter p xs) (λ y g. all_at (λ y. cmp x y ≡ Less) xs y h.0 (Has-from_filter p xs y g).0), rest)
    by false rest = rest

IsInOrder-from_strict : {K : Type 0} (cmp : K → K → Ordering) (xs : List K) → IsStrictlySortedBy cmp xs → IsInOrder cmp xs
unfolding IsStrictlySortedBy
IsInOrder-from_strict cmp [] h = tt
IsInOrder-from_strict cmp (x ∷ xs) h = (h.0, IsInOrder-from_strict cmp xs h.1)

module _ {K : Type 0} {cmp : K → K → Ordering} (o : IsTotalOrder cmp) (tells : TellsApart cmp) where
  pub less_from_greater : (a b : K) → cmp a b ≡ Greater → cmp b a ≡ Less
  less_from_greater a b e = o.antisymm b a ∙ ap ordering_reverse e

  pub greater_from_less : (a b : K) → cmp a b ≡ Less → cmp b a ≡ Greater
  greater_from_less a b e = o.antisymm b a ∙ ap ordering_reverse e

  pub not_less_itself : (a b : K) → a ≡ b → cmp a b ≡ Less → ⊥
  not_less_itself a b e l = let t = tied_itself o a in let s = ap (cmp a) e in cc

  pub not_less_both : (a b : K) → cmp a b ≡ Less → cmp b a ≡ Less → ⊥
  not_less_both a b l m = let g = greater_from_less a b l in cc

  same_from_eq : (x y : K) → eq_by_cmp cmp x y ≡ true → x ≡ y
  same_from_eq x y e = by (cmp x y) refl e
    where
      by : (d : Ordering) → cmp x y ≡ d → is_eq d ≡ true → x ≡ y
      by Less h t = cc
      by Equal h t = tells x y h
      by Greater h t = cc

  pub Has-added : (k : K) (xs : List K) → Has (add_in_order cmp k xs) k
  Has-added k [] = inl refl
  Has-added k (x ∷ xs) = by (cmp k x) refl (Has-added k xs)
    where
      by : (d : Ordering) → cmp k x ≡ d → Has (add_in_order cmp k xs) k → Has (by_order d (k ∷ x ∷ xs) (x ∷ xs) (x ∷ add_in_order cmp k xs)) k
      by Less e h = inl refl
      by Equal e h = inl (tells k x e)
      by Greater e h = inr h

  pub Has-added_old : (k : K) (xs : List K) (y : K) → Has xs y → Has (add_in_order cmp k xs) y
  Has-added_old k [] y h = absurd h
  Has-added_old k (x ∷ xs) y h = by (cmp k x) h (Has-added_old k xs y)
    where
      by : (d : Ordering) → Has (x ∷ xs) y → (Has xs y → Has (add_in_order cmp k xs) y) → Has (by_order d (k ∷ x ∷ xs) (x ∷ xs) (x ∷ add_in_order cmp k xs)) y
      by Less g rest = inr g
      by Equal g rest = g
      by Greater (inl e) rest = inl e
      by Greater (inr g) rest = inr (rest g)

  pub Has-added_cases : (k : K) (xs : List K) (y : K) → Has (add_in_order cmp k xs) y → (y ≡ k) ⊎ Has xs y
  Has-added_cases k [] y (inl e) = inl e
  Has-added_cases k [] y (inr h) = absurd h
  Has-added_cases k (x ∷ xs) y h = by (cmp k x) h (Has-added_cases k xs y)
    where
      by : (d : Ordering) → Has (by_order d (k ∷ x ∷ xs) (x ∷ xs) (x ∷ add_in_order cmp k xs)) y → (Has (add_in_order cmp k xs) y → (y ≡ k) ⊎ Has xs y)
          → (y ≡ k) ⊎ Has (x ∷ xs) y
      by Less (inl e) rest = inl e
      by Less (inr g) rest = inr g
      by Equal g rest = inr g
      by Greater (inl e) rest = inr (inl e)
      by Greater (inr g) rest = elim (rest g) [ inl e ↦ inl e | inr i ↦ inr (inr i) ]

  pub IsInOrder-add : (k : K) (xs : List K) → IsInOrder cmp xs → IsInOrder cmp (add_in_order cmp k xs)
  IsInOrder-add k [] h = (tt, tt)
  IsInOrder-add k (x ∷ xs) h = by (cmp k x) refl (IsInOrder-add k xs h.1)
    where
      by : (d : Ordering) → cmp k x ≡ d → IsInOrder cmp (add_in_order cmp k xs) → IsInOrder cmp (by_order d (k ∷ x ∷ xs) (x ∷ xs) (x ∷ add_in_order cmp k xs))
      by Less e rest = ((e, all_from (λ y. cmp k y ≡ Less) xs (λ y g. o.trans k x y e (all_at (λ y. cmp x y ≡ Less) xs y h.0 g))), h)
      by Equal e rest = h
      by Greater e rest = (
        all_from (λ y. cmp x y ≡ Less) (add_in_order cmp k xs) (λ y g. elim (Has-added_cases k xs y g) [
          | inl d ↦ subst (λ z. cmp x z ≡ Less) (sym d) (less_from_greater k x e)
          | inr i ↦ all_at (λ y. cmp x y ≡ Less) xs y h.0 i
        ]),
        rest,
      )

  -- `distinct` is in order and has the same members
  pub IsInOrder-distinct : (xs : List K) → IsInOrder cmp (distinct cmp xs)
  IsInOrder-distinct [] = tt
  IsInOrder-distinct (x ∷ xs) = IsInOrder-add x (distinct cmp xs) (IsInOrder-distinct xs)

  pub Has-distinct : (xs : List K) (y : K) → Has xs y → Has (distinct cmp xs) y
  Has-distinct [] y h = absurd h
  Has-distinct (x ∷ xs) y (inl e) = subst (Has (add_in_order cmp x (distinct cmp xs))) (sym e) (Has-added x (distinct cmp xs))
  Has-distinct (x ∷ xs) y (inr h) = Has-added_old x (distinct cmp xs) y (Has-distinct xs y h)

  pub Has-from_distinct : (xs : List K) (y : K) → Has (distinct cmp xs) y → Has xs y
  Has-from_distinct [] y h = absurd h
  Has-from_distinct (x ∷ xs) y h = elim (Has-added_cases x (distinct cmp xs) y h) [ inl e ↦ inl e | inr g ↦ inr (Has-from_distinct xs y g) ]

  -- a set in order is known by its members
  pub same_sets : (xs ys : List K) → IsInOrder cmp xs → IsInOrder cmp ys → SameMembers xs ys → xs ≡ ys
  same_sets [] [] a b m = refl
  same_sets [] (y ∷ ys) a b m = absurd ((m y).1 (inl refl))
  same_sets (x ∷ xs) [] a b m = absurd ((m x).0 (inl refl))
  same_sets (x ∷ xs) (y ∷ ys) a b m =
      let e = heads in
      let rest = same_sets xs ys a.1 b.1 (λ z. (λ h. left e z h, λ h. right e z h)) in
      cc
    where
      heads : x ≡ y
      heads = elim ((m x).0 (inl refl)) [
        | inl e ↦ e
        | inr h ↦ elim ((m y).1 (inl refl)) [
          | inl e ↦ sym e
          | inr g ↦ absurd (not_less_both x y (all_at (λ z. cmp x z ≡ Less) xs y a.0 g) (all_at (λ z. cmp y z ≡ Less) ys x b.0 h))
        ]
      ]

      left : x ≡ y → (z : K) → Has xs z → Has ys z
      left e z h = elim ((m z).0 (inr h))
          [ inl d ↦ absurd (not_less_itself x z (e ∙ sym d) (all_at (λ w. cmp x w ≡ Less) xs z a.0 h)) | inr g ↦ g ]

      right : x ≡ y → (z : K) → Has ys z → Has xs z
      right e z h = elim ((m z).1 (inr h))
          [ inl d ↦ absurd (not_less_itself y z (sym e ∙ sym d) (all_at (λ w. cmp y w ≡ Less) ys z b.0 h)) | inr g ↦ g ]

  pub distinct_is : (xs ys : List K) → IsInOrder cmp ys → SameMembers ys xs → ys ≡ distinct cmp xs
  distinct_is xs ys h m = same_sets ys (distinct cmp xs) h (IsInOrder-distinct xs)
      (λ y. (λ g. Has-distinct xs y ((m y).0 g), λ g. (m y).1 (Has-from_distinct xs y g)))

  pub distinct_same : (xs ys : List K) → SameMembers xs ys → distinct cmp xs ≡ distinct cmp ys
  distinct_same xs ys m = distinct_is ys (distinct cmp xs) (IsInOrder-distinct xs)
      (λ y. (λ g. (m y).0 (Has-from_distinct xs y g), λ g. Has-distinct xs y ((m y).1 g)))

  pub distinct_in_order : (xs : List K) → IsInOrder cmp xs → distinct cmp xs ≡ xs
  distinct_in_order xs h = sym (distinct_is xs xs h (λ y. (λ g. g, λ g. g)))

  pub distinct-distinct : (xs : List K) → distinct cmp (distinct cmp xs) ≡ distinct cmp xs
  distinct-distinct xs = distinct_in_order (distinct cmp xs) (IsInOrder-distinct xs)

  -- adding a member changes nothing
  pub add_known : (k : K) (xs : List K) → IsInOrder cmp xs → Has xs k → add_in_order cmp k xs ≡ xs
  add_known k xs h m = same_sets (add_in_order cmp k xs) xs (IsInOrder-add k xs h) h
      (λ y. (λ g. elim (Has-added_cases k xs y g) [ inl e ↦ subst (Has xs) (sym e) m | inr i ↦ i ], λ g. Has-added_old k xs y g))

  -- a new member goes after those that are less
  pub add_between : (k : K) (front rest : List K) → AllByRecursion (λ x. cmp x k ≡ Less) front → AllByRecursion (λ x. cmp k x ≡ Less) rest
      → add_in_order cmp k (front ++ rest) ≡ front ++ k ∷ rest
  add_between k [] [] a b = refl
  add_between k [] (r ∷ rs) a b = ap (λ d. by_order d (k ∷ r ∷ rs) (r ∷ rs) (r ∷ add_in_order cmp k rs)) b.0
  add_between k (x ∷ xs) rest a b =
      ap (λ d. by_order d (k ∷ x ∷ xs ++ rest) (x ∷ xs ++ rest) (x ∷ add_in_order cmp k (xs ++ rest))) (greater_from_less x k a.0)
      ∙ ap (λ t. x ∷ t) (add_between k xs rest a.1 b)

  -- the order of adding is no matter
  pub distinct_push : (xs : List K) (x : K) → distinct cmp (xs ++ x ∷ []) ≡ add_in_order cmp x (distinct cmp xs)
  distinct_push xs x = distinct_same (xs ++ x ∷ []) (x ∷ xs) (λ y. (there y, back y))
    where
      there : (y : K) → Has (xs ++ x ∷ []) y → Has (x ∷ xs) y
      there y h = elim (Has-append_cases xs (x ∷ []) y h) [ inl g ↦ inr g | inr g ↦ elim g [ inl e ↦ inl e | inr n ↦ absurd n ] ]

      back : (y : K) → Has (x ∷ xs) y → Has (xs ++ x ∷ []) y
      back y (inl e) = Has-append_right xs (x ∷ []) y (inl e)
      back y (inr h) = Has-append_left xs (x ∷ []) y h

  pub distinct-filter : (p : K → Bool) (xs : List K) → filter p (distinct cmp xs) ≡ distinct cmp (filter p xs)
  distinct-filter p xs = distinct_is (filter p xs) (filter p (distinct cmp xs)) (IsInOrder-filter cmp p (distinct cmp xs) (IsInOrder-distinct xs))
      (λ y. (
        λ g. let r = Has-from_filter p (distinct cmp xs) y g in Has-filter p xs y (Has-from_distinct xs y r.0) r.1,
        λ g. let r = Has-from_filter p xs y g in Has-filter p (distinct cmp xs) y (Has-distinct xs y r.0) r.1,
      ))

  -- the same by places
  pub add_at : (k : K) (i : ℕ) (xs : List K) → ((j : ℕ) (d : K) → j < i → cmp (get_or xs j d) k ≡ Less)
      → ((j : ℕ) (d : K) → i ≤ j → j < length xs → cmp k (get_or xs j d) ≡ Less) → i ≤ length xs
      → add_in_order cmp k xs ≡ take i xs ++ k ∷ drop i xs
  add_at k zero [] a b l = refl
  add_at k zero (x ∷ xs) a b l = ap (λ d. by_order d (k ∷ x ∷ xs) (x ∷ xs) (x ∷ add_in_order cmp k xs)) (b 0 x (omega arith) (omega arith))
  add_at k (suc i) [] a b l = absurd (omega (arith, l))
  add_at k (suc i) (x ∷ xs) a b l =
      ap (λ d. by_order d (k ∷ x ∷ xs) (x ∷ xs) (x ∷ add_in_order cmp k xs)) (greater_from_less x k (a 0 x (omega arith)))
      ∙ ap (λ t. x ∷ t) (add_at k i xs (λ j d h. a (suc j) d (omega arith)) (λ j d h g. b (suc j) d (omega arith) (omega arith)) (omega arith))

  pub length-add-le : (k : K) (xs : List K) → length (add_in_order cmp k xs) ≤ length xs + 1
  length-add-le k [] = omega arith
  length-add-le k (x ∷ xs) = by (cmp k x) (length-add-le k xs)
    where
      by : (d : Ordering) → length (add_in_order cmp k xs) ≤ length xs + 1
          → length (by_order d (k ∷ x ∷ xs) (x ∷ xs) (x ∷ add_in_order cmp k xs)) ≤ length (x ∷ xs) + 1
      by Less h = omega arith
      by Equal h = omega arith
      by Greater h = omega arith

  pub length-add-ge : (k : K) (xs : List K) → length xs ≤ length (add_in_order cmp k xs)
  length-add-ge k [] = omega arith
  length-add-ge k (x ∷ xs) = by (cmp k x) (length-add-ge k xs)
    where
      by : (d : Ordering) → length xs ≤ length (add_in_order cmp k xs) → length (x ∷ xs) ≤ length (by_order d (k ∷ x ∷ xs) (x ∷ xs) (x ∷ add_in_order cmp k xs))
      by Less h = omega arith
      by Equal h = omega arith
      by Greater h = omega arith

  pub length-distinct-le : (xs : List K) → length (distinct cmp xs) ≤ length xs
  length-distinct-le [] = omega arith
  length-distinct-le (x ∷ xs) = let h = length-distinct-le xs in omega (arith, length-add-le x (distinct cmp xs))

  -- a list that is sorted, with equal neighbours merged, is the set
  pub distinct-dedup : (xs : List K) → IsSorted cmp xs → dedup (eq_by_cmp cmp) xs ≡ distinct cmp xs
  distinct-dedup xs s = distinct_is xs (dedup (eq_by_cmp cmp) xs)
      (IsInOrder-from_strict cmp (dedup (eq_by_cmp cmp) xs) (IsStrictlySortedBy-dedup o (λ x y. refl) xs s))
      (λ y. (
        λ g. Has-from_contains xs y (Contains-from_dedup (eq_by_cmp cmp) xs y (Contains-from_has (dedup (eq_by_cmp cmp) xs) y g)),
        λ g. Has-from_contains (dedup (eq_by_cmp cmp) xs) y (Contains-dedup (eq_by_cmp_equiv o) same_from_eq xs y (Contains-from_has xs y g)),
      ))

  pub distinct_permutation : (xs ys : List K) → IsPermutation xs ys → distinct cmp ys ≡ distinct cmp xs
  distinct_permutation xs ys p = distinct_same ys xs
      (λ y. (
        λ g. Has-from_contains xs y (Contains-permutation ys xs y (IsPermutation-sym xs ys p) (Contains-from_has ys y g)),
        λ g. Has-from_contains ys y (Contains-permutation xs ys y p (Contains-from_has xs y g)),
      ))

  -- sort, then merge equal neighbours
  pub distinct_by_sort : (xs ys : List K) → IsPermutation xs ys → IsSorted cmp ys → dedup (eq_by_cmp cmp) ys ≡ distinct cmp xs
  distinct_by_sort xs ys p s = distinct-dedup ys s ∙ distinct_permutation xs ys p

-- a map may be taken of the distinct members alone
pub distinct-map : {J K : Type 0} {cmp : K → K → Ordering} {below : J → J → Ordering} → IsTotalOrder cmp → TellsApart cmp → IsTotalOrder below
    → TellsApart below
    → (f : J → K) (xs : List J) → distinct cmp (map f (distinct below xs)) ≡ distinct cmp (map f xs)
distinct-map {J} {K} {cmp} {below} o tells q apart f xs = distinct_same o tells (map f (distinct below xs)) (map f xs) (λ y. (there y, back y))
  where
    there : (y : K) → Has (map f (distinct below xs)) y → Has (map f xs) y
    there y h = let r = Has-from_map f (distinct below xs) y h in subst (Has (map f xs)) (sym r.2) (Has-map f xs r.0 (Has-from_distinct q apart xs r.0 r.1))

    back : (y : K) → Has (map f xs) y → Has (map f (distinct below xs)) y
    back y h = let r = Has-from_map f xs y h in subst (Has (map f (distinct below xs))) (sym r.2)
        (Has-map f (distinct below xs) r.0 (Has-distinct q apart xs r.0 r.1))

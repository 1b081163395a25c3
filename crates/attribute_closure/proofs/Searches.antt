-- Searches through lists, element by element.
use Rattle.std.proofs.Common.{◌≡◌, ◌==◌, ◌&&◌, ◌||◌, ◌<◌, ◌≤◌, ◌+◌, ◌-◌, ℕ, zero, suc, Bool, true, false, cond, List, [], ◌∷◌, ◌++◌, length, map, take, drop, get_or, Some, None, refl, ap, sym, ◌∙◌, subst, arith, add-one, zero-add, append_assoc, drop-cons}
use Rattle.std.specs.List.{list_any, list_all, find, filter, flat_map, enumerate_from, range_with_len}
use Rattle.std.specs.Option.{option_or}
use Rattle.std.proofs.Math.Seq.{take-suc}
use Rattle.std.proofs.lemmas.List.{map-append, append-nil, take-append-drop, take_all}
use Rattle.std.proofs.lemmas.Bool.{eq-eqb}
use Rattle.std.proofs.lemmas.Bool.Decides.{nat_tests}
use Rattle.std.proofs.lemmas.List.Folds.{list_any-append, list_all-append, find-append}
use Rattle.std.proofs.lemmas.List.FromFn.{length-enumerate_from, get_or-enumerate_from, map-range_with_len_more}
use Rattle.beas_core.specs.declared.schema.ColumnId.{ColumnId}
use Rattle.beas_core.specs.declared.schema.Access.{Access}
use Rattle.beas_core.specs.declared.query.Atom.{Atom}
use Rattle.beas_core.specs.declared.query.Place.{Place}
use Rattle.beas_core.specs.declared.plan.Normal.{Normal}
use Rattle.beas_core.specs.Types.{ClassSet, Use}
use Rattle.beas_core.specs.Groups.{has_column}
use Rattle.beas_core.specs.Coverage.{is_open, is_served, serves, needed_places}
use Rattle.attribute_closure.proofs.Listed.{numbered, use_of_access, uses_on}

-- any, all and the first of the elements so far
module _ {A : Type 0} (p : A → Bool) (xs : List A) (i : ℕ) (d : A) (l : i < length xs) where
  one_more : take (i + 1) xs ≡ take i xs ++ get_or xs i d ∷ []
  one_more = ap (λ k. take k xs) (add-one i) ∙ take-suc xs i d l

  pub any_on : list_any p (take i xs) ≡ false → p (get_or xs i d) ≡ false → list_any p (take (i + 1) xs) ≡ false
  any_on h g = ap (list_any p) one_more ∙ list_any-append p (take i xs) (get_or xs i d ∷ []) ∙ ap (λ b. b || list_any p (get_or xs i d ∷ [])) h
      ∙ ap (λ b. b || false) g

  pub all_on : list_all p (take i xs) ≡ true → p (get_or xs i d) ≡ true → list_all p (take (i + 1) xs) ≡ true
  all_on h g = ap (list_all p) one_more ∙ list_all-append p (take i xs) (get_or xs i d ∷ []) ∙ ap (λ b. b && list_all p (get_or xs i d ∷ [])) h
      ∙ ap (λ b. b && true) g

pub any_there : {A : Type 0} (p : A → Bool) (xs : List A) (i : ℕ) (d : A) → i < length xs → p (get_or xs i d) ≡ true → list_any p xs ≡ true
any_there p [] i d l h = absurd (omega (arith, l))
any_there p (x ∷ xs) zero d l h = ap (λ b. b || list_any p xs) h
any_there p (x ∷ xs) (suc i) d l h = ap (λ b. p x || b) (any_there p xs i d (omega arith) h) ∙ or_true (p x)
  where
    or_true : (b : Bool) → (b || true) ≡ true
    or_true true = refl
    or_true false = refl

pub not_all_there : {A : Type 0} (p : A → Bool) (xs : List A) (i : ℕ) (d : A) → i < length xs → p (get_or xs i d) ≡ false → list_all p xs ≡ false
not_all_there p [] i d l h = absurd (omega (arith, l))
not_all_there p (x ∷ xs) zero d l h = ap (λ b. b && list_all p xs) h
not_all_there p (x ∷ xs) (suc i) d l h = ap (λ b. p x && b) (not_all_there p xs i d (omega arith) h) ∙ and_false (p x)
  where
    and_false : (b : Bool) → (b && false) ≡ false
    and_false true = refl
    and_false false = refl

pub any_more : (columns : List ColumnId) (column : ColumnId) (i : ℕ) (d : ColumnId) → has_column (take i columns) column ≡ false → i < length columns
    → ((get_or columns i d).0 == column.0) ≡ false
    → has_column (take (i + 1) columns) column ≡ false
any_more columns column i d h l g = any_on (λ c. c.0 == column.0) columns i d l h g

pub any_here : (columns : List ColumnId) (column : ColumnId) (i : ℕ) (d : ColumnId) → i < length columns → ((get_or columns i d).0 == column.0) ≡ true
    → has_column columns column ≡ true
any_here columns column i d l h = any_there (λ c. c.0 == column.0) columns i d l h

pub stands_either : (key fetched : List ColumnId) (column : ColumnId)
    → has_column (key ++ fetched) column ≡ (has_column key column || has_column fetched column)
stands_either key fetched column = list_any-append (λ c. c.0 == column.0) key fetched

pub all_more : (columns needed : List ColumnId) (i : ℕ) (d : ColumnId) → list_all (has_column columns) (take i needed) ≡ true → i < length needed
    → has_column columns (get_or needed i d) ≡ true
    → list_all (has_column columns) (take (i + 1) needed) ≡ true
all_more columns needed i d h l g = all_on (has_column columns) needed i d l h g

pub all_broken : (columns needed : List ColumnId) (i : ℕ) (d : ColumnId) → i < length needed → has_column columns (get_or needed i d) ≡ false
    → list_all (has_column columns) needed ≡ false
all_broken columns needed i d l g = not_all_there (has_column columns) needed i d l g

abbrev pub place_of : ℕ → ColumnId → Place
place_of atom column = record { atom = atom; column = column }

abbrev pub places_on : ℕ × List ColumnId → List Place
places_on n = map (place_of n.0) n.1

-- the first of the elements, where none of those so far passes
some_here : {A : Type 0} (p : A → Bool) (x : A) (xs : List A) → p x ≡ true → find p (x ∷ xs) ≡ Some x
some_here p x xs h = ap (λ b. cond b (Some x) (find p xs)) h

pub find_on : {A : Type 0} (p : A → Bool) (xs ys : List A) → find p xs ≡ None → find p (xs ++ ys) ≡ find p ys
find_on p xs ys h = find-append p xs ys ∙ ap (λ o. option_or o (find p ys)) h

split : {A : Type 0} (xs : List A) (i : ℕ) (d : A) → i < length xs → xs ≡ take i xs ++ get_or xs i d ∷ drop (i + 1) xs
split xs i d l = sym (take-append-drop i xs) ∙ ap (λ ys. take i xs ++ ys) (drop-cons xs i d l ∙ ap (λ k. get_or xs i d ∷ drop k xs) (sym (add-one i)))

module _ {A B : Type 0} (p : B → Bool) (g : A → List B) (xs : List A) (i : ℕ) (d : A) (l : i < length xs) (so : find p (flat_map g (take i xs)) ≡ None) where
  flat_append : (ys zs : List A) → flat_map g (ys ++ zs) ≡ flat_map g ys ++ flat_map g zs
  flat_append [] zs = refl
  flat_append (y ∷ ys) zs = ap (λ r. g y ++ r) (flat_append ys zs) ∙ sym (append_assoc (g y) (flat_map g ys) (flat_map g zs))

  pub find_flat_more : find p (g (get_or xs i d)) ≡ None → find p (flat_map g (take (i + 1) xs)) ≡ None
  find_flat_more h =
      ap (λ k. find p (flat_map g (take k xs))) (add-one i) ∙ ap (λ ys. find p (flat_map g ys)) (take-suc xs i d l)
      ∙ ap (find p) (flat_append (take i xs) (get_or xs i d ∷ []))
      ∙ find_on p (flat_map g (take i xs)) (g (get_or xs i d) ++ []) so ∙ ap (find p) (append-nil (g (get_or xs i d))) ∙ h

  pub find_flat_there : (y : B) → find p (g (get_or xs i d)) ≡ Some y → find p (flat_map g xs) ≡ Some y
  find_flat_there y h =
      ap (λ ys. find p (flat_map g ys)) (split xs i d l) ∙ ap (find p) (flat_append (take i xs) (get_or xs i d ∷ drop (i + 1) xs))
      ∙ find_on p (flat_map g (take i xs)) (g (get_or xs i d) ++ flat_map g (drop (i + 1) xs)) so
      ∙ find-append p (g (get_or xs i d)) (flat_map g (drop (i + 1) xs)) ∙ ap (λ o. option_or o (find p (flat_map g (drop (i + 1) xs)))) h

module _ {A B : Type 0} (p : B → Bool) (f : A → B) (xs : List A) (i : ℕ) (d : A) (l : i < length xs) (so : find p (map f (take i xs)) ≡ None) where
  pub find_map_more : p (f (get_or xs i d)) ≡ false → find p (map f (take (i + 1) xs)) ≡ None
  find_map_more h =
      ap (λ k. find p (map f (take k xs))) (add-one i) ∙ ap (λ ys. find p (map f ys)) (take-suc xs i d l)
      ∙ ap (find p) (map-append f (take i xs) (get_or xs i d ∷ []))
      ∙ find_on p (map f (take i xs)) (f (get_or xs i d) ∷ []) so ∙ ap (λ b. cond b (Some (f (get_or xs i d))) None) h

  pub find_map_there : p (f (get_or xs i d)) ≡ true → find p (map f xs) ≡ Some (f (get_or xs i d))
  find_map_there h =
      ap (λ ys. find p (map f ys)) (split xs i d l) ∙ ap (find p) (map-append f (take i xs) (get_or xs i d ∷ drop (i + 1) xs))
      ∙ find_on p (map f (take i xs)) (f (get_or xs i d) ∷ map f (drop (i + 1) xs)) so ∙ some_here p (f (get_or xs i d)) (map f (drop (i + 1) xs)) h

-- over numbers
range_more : (n : ℕ) → range_with_len 0 (n + 1) ≡ range_with_len 0 n ++ n ∷ []
range_more n = sym (same (range_with_len 0 (n + 1))) ∙ map-range_with_len_more (λ k. k) 0 n n (zero-add n) ∙ ap (λ ks. ks ++ n ∷ []) (same (range_with_len 0 n))
  where
    same : (ks : List ℕ) → map (λ k. k) ks ≡ ks
    same [] = refl
    same (k ∷ ks) = ap (λ r. k ∷ r) (same ks)

pub find_range_more : (p : ℕ → Bool) (n : ℕ) → find p (range_with_len 0 n) ≡ None → p n ≡ false → find p (range_with_len 0 (n + 1)) ≡ None
find_range_more p n so h = ap (find p) (range_more n) ∙ find_on p (range_with_len 0 n) (n ∷ []) so ∙ ap (λ b. cond b (Some n) None) h

pub find_range_there : (p : ℕ → Bool) (m n : ℕ) → n < m → find p (range_with_len 0 n) ≡ None → p n ≡ true → find p (range_with_len 0 m) ≡ Some n
find_range_there p m n l so h =
    let e : n + suc (m - suc n) ≡ m = omega arith in
    ap (λ k. find p (range_with_len 0 k)) (sym e) ∙ ap (find p) (range_append 0 n (suc (m - suc n)))
    ∙ find_on p (range_with_len 0 n) (range_with_len (0 + n) (suc (m - suc n))) so
    ∙ ap (λ k. find p (k ∷ range_with_len (k + 1) (m - suc n))) (zero-add n) ∙ some_here p n (range_with_len (n + 1) (m - suc n)) h
  where
    range_append : (a k j : ℕ) → range_with_len a (k + j) ≡ range_with_len a k ++ range_with_len (a + k) j
    range_append a zero j = let e : zero + j ≡ j = omega arith in let f : a + zero ≡ a = omega arith in ap (range_with_len a) e
        ∙ ap (λ b. range_with_len b j) (sym f)
    range_append a (suc k) j =
        let e : suc k + j ≡ suc (k + j) = omega arith in
        let f : a + 1 + k ≡ a + suc k = omega arith in
        ap (range_with_len a) e ∙ ap (λ r. a ∷ r) (range_append (a + 1) k j ∙ ap (λ b. range_with_len (a + 1) k ++ range_with_len b j) f)

-- whether an atom is served, by the constraints on its table
module _ (normal : Normal) (accesses : List Access) (set : ClassSet) (atom : ℕ) where
  abbrev at_atom : Use → Bool
  at_atom u = (u.atom == atom) && serves normal set u

  abbrev by_table : ℕ → Access → Bool
  by_table table access = (access.table.0 == table) && serves normal set (use_of_access atom access)

  on_other : (n : ℕ) (cs : List Access) → (n == atom) ≡ false → list_any at_atom (map (use_of_access n) cs) ≡ false
  on_other n [] h = refl
  on_other n (c ∷ cs) h = ap (λ b. (b && serves normal set (use_of_access n c)) || list_any at_atom (map (use_of_access n) cs)) h ∙ on_other n cs h

  on_atom : (table : ℕ) (cs : List Access) → list_any at_atom (map (use_of_access atom) (filter (λ access. access.table.0 == table) cs))
      ≡ list_any (by_table table) cs
  on_atom table [] = refl
  on_atom table (c ∷ cs) = by (c.table.0 == table) (on_atom table cs)
    where
      by : (b : Bool) → list_any at_atom (map (use_of_access atom) (filter (λ access. access.table.0 == table) cs)) ≡ list_any (by_table table) cs
          → list_any at_atom (map (use_of_access atom) (cond b (c ∷ filter (λ access. access.table.0 == table) cs) (filter
          (λ access. access.table.0 == table) cs))) ≡ ((b && serves normal set (use_of_access atom c)) || list_any (by_table table) cs)
      by true h = ap (λ b. (b && serves normal set (use_of_access atom c)) || list_any at_atom (map (use_of_access atom) (filter
          (λ access. access.table.0 == table) cs))) (eq-eqb atom atom refl)
          ∙ ap (λ b. serves normal set (use_of_access atom c) || b) h
      by false h = h

  after_it : (n : ℕ) (atoms : List Atom) → atom < n → list_any at_atom (flat_map (uses_on accesses) (enumerate_from n atoms)) ≡ false
  after_it n [] l = refl
  after_it n (a ∷ atoms) l =
      list_any-append at_atom (uses_on accesses (numbered n a)) (flat_map (uses_on accesses) (enumerate_from (n + 1) atoms))
      ∙ ap (λ b. b || list_any at_atom (flat_map (uses_on accesses) (enumerate_from (n + 1) atoms))) (on_other n (filter
      (λ access. access.table.0 == a.table.0) accesses) (apart n atom l))
      ∙ after_it (n + 1) atoms (omega arith)
    where
      apart : (x y : ℕ) → y < x → (x == y) ≡ false
      apart x y h = grind (arith, nat_tests)

  served_from : (n : ℕ) (atoms : List Atom) (k : ℕ) (d : Atom) → k < length atoms → n + k ≡ atom
      → list_any at_atom (flat_map (uses_on accesses) (enumerate_from n atoms)) ≡ list_any (by_table (get_or atoms k d).table.0) accesses
  served_from n [] k d l e = absurd (omega (arith, l))
  served_from n (a ∷ atoms) zero d l e =
      let same : n ≡ atom = omega arith in
      list_any-append at_atom (uses_on accesses (numbered n a)) (flat_map (uses_on accesses) (enumerate_from (n + 1) atoms))
      ∙ ap (λ b. list_any at_atom (uses_on accesses (numbered n a)) || b) (after_it (n + 1) atoms (omega arith))
      ∙ or_false (list_any at_atom (uses_on accesses (numbered n a)))
      ∙ ap (λ m. list_any at_atom (map (use_of_access m) (filter (λ access. access.table.0 == a.table.0) accesses))) same ∙ on_atom a.table.0 accesses
    where
      or_false : (b : Bool) → (b || false) ≡ b
      or_false true = refl
      or_false false = refl
  served_from n (a ∷ atoms) (suc k) d l e =
      list_any-append at_atom (uses_on accesses (numbered n a)) (flat_map (uses_on accesses) (enumerate_from (n + 1) atoms))
      ∙ ap (λ b. b || list_any at_atom (flat_map (uses_on accesses) (enumerate_from (n + 1) atoms))) (on_other n (filter
      (λ access. access.table.0 == a.table.0) accesses) (before n atom (omega arith)))
      ∙ served_from (n + 1) atoms k d (omega arith) (omega arith)
    where
      before : (x y : ℕ) → x < y → (x == y) ≡ false
      before x y h = grind (arith, nat_tests)

  pub served_by_table : (d : Atom) → atom < length normal.atoms
      → list_any (by_table (get_or normal.atoms atom d).table.0) accesses ≡ is_served normal accesses set atom
  served_by_table d l = sym (served_from 0 normal.atoms atom d l (zero-add atom))

  pub served_there : (d : Atom) → atom < length normal.atoms → (i : ℕ) (item : Access) → i < length accesses → item ≡ get_or accesses i item
      → (table : ℕ) → table ≡ (get_or normal.atoms atom d).table.0
      → item.table.0 ≡ table → serves normal set (use_of_access atom item) ≡ true → true ≡ is_served normal accesses set atom
  served_there d l i item below is table te same sv =
      sym (any_there (by_table (get_or normal.atoms atom d).table.0) accesses i item below
      (ap (by_table (get_or normal.atoms atom d).table.0) (sym is)
      ∙ ap (λ b. b && serves normal set (use_of_access atom item)) (eq-eqb item.table.0 (get_or normal.atoms atom d).table.0 (same ∙ te)) ∙ sv))
      ∙ served_by_table d l

  pub served_nowhere : (d : Atom) → atom < length normal.atoms → (i : ℕ) → length accesses ≤ i → (table : ℕ) → table ≡ (get_or normal.atoms atom d).table.0
      → list_any (λ access. (access.table.0 == table) && serves normal set (use_of_access atom access)) (take i accesses) ≡ false
      → false ≡ is_served normal accesses set atom
  served_nowhere d l i all table te h =
      sym (ap (list_any (by_table (get_or normal.atoms atom d).table.0)) (sym (take_all i accesses all))
      ∙ ap (λ t. list_any (by_table t) (take i accesses)) (sym te) ∙ h)
      ∙ served_by_table d l

-- the first open place, list by list
module _ (normal : Normal) (set : ClassSet) (items : List (List ColumnId)) (same : items ≡ normal.needed) (i : ℕ) where
  abbrev opens : Place → Bool
  opens = is_open normal set

  module _ (item : List ColumnId) (l : i < length items) (at : item
      ≡ get_or items i item) (so : find opens (flat_map places_on (take i (enumerate_from 0 normal.needed)))
      ≡ None) (slice : List ColumnId) (is : slice ≡ item) where
    below : i < length normal.needed
    below = subst (λ xs. i < length xs) same l

    below_all : i < length (enumerate_from 0 normal.needed)
    below_all = subst (λ n. i < n) (sym (length-enumerate_from 0 normal.needed)) below

    abbrev paired : ℕ → List ColumnId → ℕ × List ColumnId
    paired n xs = (n, xs)

    places_here : places_on (get_or (enumerate_from 0 normal.needed) i (paired i item)) ≡ map (place_of i) slice
    places_here = ap places_on (get_or-enumerate_from 0 normal.needed i (paired i item) below ∙ ap (λ n. paired n (get_or normal.needed i item)) (zero-add i))
        ∙ ap (map (place_of i)) (ap (λ xs. get_or xs i item) (sym same) ∙ sym at ∙ sym is)

    pub needed_more : find opens (map (place_of i) slice) ≡ None → find opens (flat_map places_on (take (i + 1) (enumerate_from 0 normal.needed))) ≡ None
    needed_more h = find_flat_more opens places_on (enumerate_from 0 normal.needed) i (paired i item) below_all so (ap (find opens) places_here ∙ h)

    pub needed_there : (column : ColumnId) → find opens (map (place_of i) slice) ≡ Some (place_of i column)
        → find opens (needed_places normal) ≡ Some (place_of i column)
    needed_there column h = find_flat_there opens places_on (enumerate_from 0 normal.needed) i (paired i item) below_all so (place_of i column) (ap
        (find opens) places_here ∙ h)

  pub needed_end : length items ≤ i → find opens (flat_map places_on (take i (enumerate_from 0 normal.needed))) ≡ None
      → find opens (needed_places normal) ≡ None
  needed_end l so =
      let len : length (enumerate_from 0 normal.needed) ≤ i = subst (λ n. n ≤ i) (ap length same ∙ sym (length-enumerate_from 0 normal.needed)) l in
      ap (λ xs. find opens (flat_map places_on xs)) (sym (take_all i (enumerate_from 0 normal.needed) len)) ∙ so

-- Joined rows are the extensions of valuations.
use Rattle.std.specs.Ordering.{nat_cmp}
use Rattle.std.proofs.Common.{◌≡◌, ◌==◌, ◌&&◌, ◌<◌, ◌≤◌, ◌+◌, ◌*◌, ℕ, suc, pos, Bool, true, false, not, cond, List, [], ◌∷◌, ◌++◌, length, get_or, take, map, All, inl, inr, refl, ap, sym, subst, ◌∙◌, arith, add-one, Contains, ◌-◌, get_or-append-add, zero}
use Rattle.std.specs.List.{filter, range_with_len, list_all, zip, flat_map, sum_by}
use Rattle.std.proofs.Math.Seq.{take-suc}
use Rattle.std.proofs.lemmas.Bool.{eqb-true}
use Rattle.std.proofs.lemmas.Nat.{mul-le}
use Rattle.std.proofs.lemmas.List.{length-map, length-append, ext_get_or, append_assoc, append-nil, get_or_append_left, get_or-map}
use Rattle.std.proofs.lemmas.List.Folds.{list_all-map, list_all-append}
use Rattle.std.proofs.lemmas.List.FromFn.{length-map-range_with_len, get_or-map-range_with_len}
use Rattle.std.proofs.lemmas.Slice.Zip.{get_or-zip}
use Rattle.beas_core.specs.declared.value.Value.TheVariants.{Int}
use Rattle.beas_core.specs.declared.schema.ColumnId.{ColumnId}
use Rattle.beas_core.specs.declared.schema.Access.{Access}
use Rattle.beas_core.specs.declared.plan.DStep.{DStep}
use Rattle.beas_core.specs.declared.plan.Normal.{Normal}
use Rattle.beas_core.specs.Types.{Row, TableRows, ClassSet, Binding}
use Rattle.beas_core.specs.Order.{row_cmp, row_cmp_total}
use Rattle.beas_core.specs.Sets.{distinct, IsInOrder}
use Rattle.beas_core.specs.Full.{same_value}
use Rattle.beas_core.specs.Groups.{group_of, member_columns, project}
use Rattle.beas_core.specs.Coverage.{has, class_at, key_classes}
use Rattle.beas_core.specs.Derivations.{access_in, member_classes, use_of, bound_by, key_is_bound}
use Rattle.beas_core.specs.Reads.{key_for, keys_for, probe_reads, step_reads}
use Rattle.beas_core.specs.Valuations.{value_of, agrees, classes_in, as_bindings}
use Rattle.beas_core.proofs.Groups.{length-project}
use Rattle.beas_core.proofs.Sets.{Has, Has-get_or, Has-map, Has-distinct, Has-from_distinct, Has-from_map, Has-from_filter, IsInOrder-distinct, Contains-from_has, length-distinct-le}
use Rattle.beas_core.proofs.ValueOrder.{row_cmp_tells}
use Rattle.beas_core.specs.Extensions.{bindings_with, fits, extended_row, extensions_of, extensions}
use Rattle.beas_core.proofs.BindingFacts.{map_same, same_value_to, Has-classes_in, from_range}
use Rattle.beas_core.proofs.MemberTests.{all_has, Has-from_flat_map, all_by}
use Rattle.plan_ops.specs.declared.joining.Join.{Join}
use Rattle.plan_ops.specs.Joins.{at_place, joined_by, fits_by, joins, checks_of, joined_classes, IsJoin, IsTuple}
use Rattle.plan_ops.specs.Over.{set_of}
use Rattle.plan_ops.specs.Places.{place_of, column_of}
use Rattle.plan_ops.proofs.MeetFacts.{filter_alike, wide_member, picked_values}
use Rattle.plan_ops.proofs.PlaceFacts.{value_by_place, place-in, place-own, place-front, classes_rise, below_or_not}
use Rattle.plan_ops.proofs.ProbeFacts.{group_tuples, group_begins}

all_alike : {K : Type 0} (f g : K → Bool) (xs : List K) → ((x : K) → f x ≡ g x) → list_all f xs ≡ list_all g xs
all_alike f g [] h = refl
all_alike f g (x ∷ xs) h =
    let a = h x in
    let b = all_alike f g xs h in
    cc

-- a test that holds wherever the filter drops needs no filter
all-filter : {K : Type 0} (p test : K → Bool) (xs : List K) → ((x : K) → p x ≡ false → test x ≡ true) → list_all test (filter p xs) ≡ list_all test xs
all-filter p test [] h = refl
all-filter {K} p test (x ∷ xs) h = by (p x) refl (all-filter p test xs h)
  where
    by : (b : Bool) → p x ≡ b → list_all test (filter p xs) ≡ list_all test xs
        → list_all test (cond b (x ∷ filter p xs) (filter p xs)) ≡ (test x && list_all test xs)
    by true e r = ap (λ b. test x && b) r
    by false e r = r ∙ ap (λ b. b && list_all test xs) (sym (h x e))

zip-append : {A B : Type 0} (ks : List A) (vs : List B) (js : List A) (ws : List B) → length vs ≡ length ks
    → zip ks vs ++ zip js ws ≡ zip (ks ++ js) (vs ++ ws)
zip-append [] [] js ws e = refl
zip-append [] (v ∷ vs) js ws e = absurd (omega (arith, e))
zip-append (k ∷ ks) [] js ws e = absurd (omega (arith, e))
zip-append (k ∷ ks) (v ∷ vs) js ws e = ap (λ bs. (k, v) ∷ bs) (zip-append ks vs js ws (omega arith))

length-zip : {A B : Type 0} (ks : List A) (vs : List B) → length vs ≡ length ks → length (zip ks vs) ≡ length ks
length-zip [] vs e = refl
length-zip (k ∷ ks) [] e = absurd (omega (arith, e))
length-zip (k ∷ ks) (v ∷ vs) e = ap suc (length-zip ks vs (omega arith))

map-map : {A B C : Type 0} (f : B → C) (g : A → B) (xs : List A) → map f (map g xs) ≡ map (λ x. f (g x)) xs
map-map f g [] = refl
map-map f g (x ∷ xs) = ap (λ ys. f (g x) ∷ ys) (map-map f g xs)

-- the bindings of classes, each by its index
zip_by_index : (cs : List ℕ) (vs : Row) → length vs ≡ length cs
    → zip cs vs ≡ map (λ i. (get_or cs i 0, get_or vs i (Int (pos 0)))) (range_with_len 0 (length cs))
zip_by_index cs vs e =
    let pair : ℕ → Binding = λ i. (get_or cs i 0, get_or vs i (Int (pos 0))) in
    ext_get_or (0, Int (pos 0)) (zip cs vs) (map pair (range_with_len 0 (length cs)))
    (length-zip cs vs e ∙ sym (length-map-range_with_len pair 0 (length cs)))
    (λ k l.
    let n = length-zip cs vs e in
    let inside : k < length cs = omega (arith, l, n) in
    get_or-zip cs vs k (0, Int (pos 0)) inside (omega (arith, inside, e))
    ∙ sym (get_or-map-range_with_len pair 0 (length cs) k k (0, Int (pos 0)) inside (omega arith)))

range-append : (a m n : ℕ) → range_with_len a (m + n) ≡ range_with_len a m ++ range_with_len (a + m) n
range-append a zero n = ap (λ k. range_with_len a k) (zero_plus n) ∙ ap (λ k. range_with_len k n) (plus_zero a)
  where
    zero_plus : (n : ℕ) → 0 + n ≡ n
    zero_plus n = omega arith

    plus_zero : (a : ℕ) → a ≡ a + 0
    plus_zero a = omega arith
range-append a (suc m) n = ap (range_with_len a) (next m n)
    ∙ ap (λ ks. a ∷ ks) (range-append (a + 1) m n ∙ ap (λ k. range_with_len (a + 1) m ++ range_with_len k n) (moved a m))
  where
    next : (m n : ℕ) → suc m + n ≡ suc (m + n)
    next m n = omega arith

    moved : (a m : ℕ) → (a + 1) + m ≡ a + suc m
    moved a m = omega arith

-- bindings agree where the values of each class are equal; the places below `known` are known to be so
agrees_by_place : (cs : List ℕ) (vs : Row) (known : ℕ) → length vs ≡ length cs → known ≤ length cs
    → ((i : ℕ) → i < known → get_or vs i (Int (pos 0)) ≡ get_or vs (place_of cs (get_or cs i 0)) (Int (pos 0)))
    → agrees (zip cs vs) ≡ list_all (λ c. same_value (get_or vs c.0 (Int (pos 0))) (get_or vs c.1 (Int (pos 0)))) (checks_of known cs)
agrees_by_place cs vs known e few same_below =
    let pair : ℕ → Binding = λ i. (get_or cs i 0, get_or vs i (Int (pos 0))) in
    let check : ℕ → ℕ × ℕ = λ i. (i, place_of cs (get_or cs i 0)) in
    let agree : Binding → Bool = λ b. same_value b.1 (value_of (zip cs vs) b.0) in
    let test : ℕ × ℕ → Bool = λ c. same_value (get_or vs c.0 (Int (pos 0))) (get_or vs c.1 (Int (pos 0))) in
    let first = range_with_len 0 known in
    let rest = range_with_len known (length cs - known) in
    let checked : ℕ → Bool = λ i. test (check i) in
    ap (list_all agree) (zip_by_index cs vs e)
    ∙ list_all-map agree pair (range_with_len 0 (length cs))
    ∙ all_alike (λ i. agree (pair i)) checked (range_with_len 0 (length cs))
    (λ i. ap (same_value (get_or vs i (Int (pos 0)))) (value_by_place cs vs (get_or cs i 0) (omega (arith, e))))
    ∙ ap (λ n. list_all checked (range_with_len 0 n)) (parts known (length cs) few)
    ∙ ap (list_all checked) (range-append 0 known (length cs - known))
    ∙ list_all-append checked first (range_with_len (0 + known) (length cs - known))
    ∙ ap (λ b. b && list_all checked (range_with_len (0 + known) (length cs - known))) (all_by checked first (λ i m.
    same_value_to (get_or vs i (Int (pos 0))) (get_or vs (place_of cs (get_or cs i 0)) (Int (pos 0)))
    (same_below i (let l = from_range known 0 i m in omega (arith, l)))))
    ∙ ap (λ k. list_all checked (range_with_len k (length cs - known))) (zero_plus known)
    ∙ sym (list_all-map test check rest)
    ∙ sym (all-filter (λ c. not (c.0 == c.1)) test (map check rest) (λ c h.
    same_value_to (get_or vs c.0 (Int (pos 0))) (get_or vs c.1 (Int (pos 0))) (ap (λ n. get_or vs n (Int (pos 0))) (eqb-true c.0 c.1 (same (c.0 == c.1) h)))))
  where
    same : (b : Bool) → not b ≡ false → b ≡ true
    same true h = refl
    same false h = cc

    parts : (k n : ℕ) → k ≤ n → n ≡ k + (n - k)
    parts k n l = omega (arith, l)

    zero_plus : (n : ℕ) → 0 + n ≡ n
    zero_plus n = omega arith

module _ (normal : Normal) (accesses : List Access) (s : DStep) (classes : List ℕ) (are : classes ≡ classes_in (set_of normal classes)) (join : Join)
    (is : IsJoin normal (use_of accesses s) classes join) where
  abbrev set : ClassSet
  set = set_of normal classes

  abbrev joined : List ℕ
  joined = joined_classes normal (use_of accesses s) classes

  abbrev of_step : Access
  of_step = access_in accesses s.access

  module _ (row tuple : Row) (wide : length row ≡ length classes) (fit : length tuple ≡ length (member_columns (access_in accesses s.access)))
      (bound : key_is_bound normal accesses set s ≡ true)
      (begins : (j : ℕ) → j < length (access_in accesses s.access).key → get_or tuple j (Int (pos 0)) ≡ get_or (key_for normal accesses s set row) j
      (Int (pos 0))) where
    bindings_are : bindings_with normal accesses s set row tuple ≡ zip joined (row ++ tuple)
    bindings_are = ap (λ cs. zip cs row ++ zip (member_classes normal (use_of accesses s)) tuple) (sym are)
        ∙ zip-append classes row (member_classes normal (use_of accesses s)) tuple wide

    joined_wide : length (row ++ tuple) ≡ length joined
    joined_wide =
        let a = length-append row tuple in
        let b = length-append classes (member_classes normal (use_of accesses s)) in
        let c = length-map (member_columns (access_in accesses s.access)) (class_at normal s.atom) in
        omega (arith, a, b, c, fit, wide)

    -- the places of the valuation are the first of their classes
    own_place : (i : ℕ) → i < length classes → place_of joined (get_or joined i 0) ≡ i
    own_place i l =
        let own = place-own classes (subst (IsInOrder nat_cmp) (sym are) (classes_rise set)) i l in
        ap (place_of joined) (get_or_append_left classes (member_classes normal (use_of accesses s)) 0 i l)
        ∙ place-front classes (member_classes normal (use_of accesses s)) (get_or classes i 0) (omega (arith, own, l)) ∙ own

    -- and those of the key have the valuation's values
    key_place : (j : ℕ) → j < length of_step.key
        → get_or (row ++ tuple) (length classes + j) (Int (pos 0)) ≡ at_place row tuple (place_of joined (get_or joined (length classes + j) 0))
    key_place j l =
        let members = member_classes normal (use_of accesses s) in
        let zero_value = Int (pos 0) in
        let column : ColumnId = record { 0 = 0 } in
        let k = get_or of_step.key j column in
        let class = class_at normal s.atom k in
        let both = length-append of_step.key of_step.fetched in
        let class_is = get_or-append-add classes members j 0
        ∙ get_or-map (class_at normal s.atom) (member_columns of_step) j column 0 (omega (arith, l, both))
        ∙ ap (class_at normal s.atom) (get_or_append_left of_step.key of_step.fetched column j l) in
        let held = all_has (has set) (key_classes normal (use_of accesses s)) class bound (Has-map (class_at normal s.atom) of_step.key k (Has-get_or
        of_step.key j column l)) in
        let inside = place-in classes class (subst (λ cs. Has cs class) (sym are) (Has-classes_in set class held)) in
        ap (λ n. get_or (row ++ tuple) (n + j) zero_value) (sym wide)
        ∙ get_or-append-add row tuple j zero_value
        ∙ begins j l
        ∙ get_or-map (λ c. value_of (as_bindings set row) (class_at normal s.atom c)) of_step.key j column zero_value l
        ∙ ap (λ cs. value_of (zip cs row) class) (sym are)
        ∙ value_by_place classes row class (omega (arith, wide))
        ∙ sym (get_or_append_left row tuple zero_value (place_of classes class) (omega (arith, inside, wide)))
        ∙ ap (at_place row tuple) (sym (ap (place_of joined) class_is ∙ place-front classes members class inside))

    known_same : (i : ℕ) → i < length classes + length of_step.key → get_or (row ++ tuple) i (Int (pos 0)) ≡ at_place row tuple (place_of joined
        (get_or joined i 0))
    known_same i l = elim (below_or_not i (length classes)) [
      | inl b ↦ ap (at_place row tuple) (sym (own_place i b))
      | inr b ↦ subst (λ n. get_or (row ++ tuple) n (Int (pos 0)) ≡ at_place row tuple (place_of joined (get_or joined n 0)))
          (back (length classes) i b) (key_place (i - length classes) (omega (arith, l, b)))
    ]
      where
        back : (w i : ℕ) → w ≤ i → w + (i - w) ≡ i
        back w i l = omega (arith, l)

    known_few : length classes + length of_step.key ≤ length joined
    known_few =
        let a = length-append classes (member_classes normal (use_of accesses s)) in
        let b = length-map (member_columns of_step) (class_at normal s.atom) in
        let c = length-append of_step.key of_step.fetched in
        omega (arith, a, b, c)

    pub fits_are : fits_by join.checks.items row tuple ≡ fits normal accesses s set row tuple
    fits_are = ap (λ cs. fits_by cs row tuple) is.checks_are
        ∙ sym (ap agrees bindings_are ∙ agrees_by_place joined (row ++ tuple) (length classes + length of_step.key) joined_wide known_few known_same)

    pub rows_are : joined_by join.sources.items row tuple ≡ extended_row normal accesses s set row tuple
    rows_are = ap (λ ps. joined_by ps row tuple) (is.sources_are ∙ ap (map (place_of joined)) is.classes_are)
        ∙ map-map (at_place row tuple) (place_of joined) (classes_in (bound_by normal accesses set s))
        ∙ map_same (λ c. at_place row tuple (place_of joined c)) (value_of (bindings_with normal accesses s set row tuple))
        (classes_in (bound_by normal accesses set s))
        (λ c m. sym (ap (λ bs. value_of bs c) bindings_are ∙ value_by_place joined (row ++ tuple) c (omega (arith, joined_wide))))

  joins_are : (row : Row) (tuples : List Row) → length row ≡ length classes → All (IsTuple (member_columns (access_in accesses s.access))) tuples
      → key_is_bound normal accesses set s ≡ true
      → ((t : Row) → Has tuples t → (j : ℕ) → j < length of_step.key → get_or t j (Int (pos 0)) ≡ get_or (key_for normal accesses s set row) j (Int (pos 0)))
      → joins join.sources.items join.checks.items row tuples
      ≡ map (extended_row normal accesses s set row) (filter (fits normal accesses s set row) tuples)
  joins_are row tuples wide all bound begins =
      ap (map (joined_by join.sources.items row)) (filter_alike (fits_by join.checks.items row) (fits normal accesses s set row) tuples
      (λ t m. fits_are row t wide (tuple_of t m).wide bound (begins t m)))
      ∙ map_same (joined_by join.sources.items row) (extended_row normal accesses s set row) (filter (fits normal accesses s set row) tuples)
      (λ t m. let h = (Has-from_filter (fits normal accesses s set row) tuples t m).0 in rows_are row t wide (tuple_of t h).wide bound (begins t h))
    where
      tuple_of : (t : Row) → Has tuples t → IsTuple (member_columns (access_in accesses s.access)) t
      tuple_of t m = let c = Contains-from_has tuples t m in subst (IsTuple (member_columns (access_in accesses s.access))) c.2 (all c.0 t c.1)

  module _ (rows : TableRows) (key : List ColumnId)
      (keyed : key ≡ map (λ c. column_of classes (class_at normal s.atom c)) (access_in accesses s.access).key)
      (found : List Row) (wide : All (λ row. length row ≡ length classes) found) (bound : key_is_bound normal accesses set s ≡ true) where
    key_is : (row : Row) → Has found row → project key row ≡ key_for normal accesses s set row
    key_is row m = ap (λ k. project k row) keyed
        ∙ picked_values set classes (class_at normal s.atom) (access_in accesses s.access).key row are (wide_member (length classes) found row wide m)

    pub keys_are : distinct row_cmp (map (project key) found) ≡ keys_for normal accesses s set found
    keys_are = ap (distinct row_cmp) (map_same (project key) (key_for normal accesses s set) found key_is)

    -- what the probes of the keys read, where key and valuations are read through slices
    pub share_is : (k : List ColumnId) (rs : List Row) → k ≡ key → rs ≡ found
        → sum_by (probe_reads rows (access_in accesses s.access)) (distinct row_cmp (map (project k) rs)) ≡ step_reads rows normal accesses s set found
    share_is k rs e f =
        let share : List ColumnId → List Row → ℕ = λ k rs. sum_by (probe_reads rows (access_in accesses s.access)) (distinct row_cmp (map (project k) rs)) in
        ap (λ x. share x rs) e ∙ ap (share key) f ∙ ap (sum_by (probe_reads rows (access_in accesses s.access))) keys_are

    abbrev joins_of : Row → List Row
    joins_of row = joins join.sources.items join.checks.items row
        (group_of (rows (access_in accesses s.access).table) (access_in accesses s.access) (project key row))

    one_joined : (row : Row) → Has found row → joins_of row ≡ extensions_of rows normal accesses s set row
    one_joined row m =
        let access = access_in accesses s.access in
        let k = key_for normal accesses s set row in
        ap (λ x. joins join.sources.items join.checks.items row (group_of (rows access.table) access x)) (key_is row m)
        ∙ joins_are row (group_of (rows access.table) access k) (wide_member (length classes) found row wide m)
        (group_tuples (rows access.table) access k) bound
        (λ t h j l. group_begins (rows access.table) access k t j (Int (pos 0)) (length-map access.key (λ c. value_of (as_bindings set row) (class_at
        normal s.atom c))) h l)

    flat_same : (f g : Row → List Row) (xs : List Row) → ((x : Row) → Has xs x → f x ≡ g x) → flat_map f xs ≡ flat_map g xs
    flat_same f g [] h = refl
    flat_same f g (x ∷ xs) h =
        let a = h x (inl refl) in
        let b = flat_same f g xs (λ y m. h y (inr m)) in
        cc

    pub extensions_are : distinct row_cmp (flat_map joins_of found) ≡ extensions rows normal accesses s set found
    extensions_are = ap (distinct row_cmp) (flat_same joins_of (extensions_of rows normal accesses s set) found one_joined)

    pub found_are : (k : List ColumnId) (rs : List Row) → k ≡ key → rs ≡ found
        → distinct row_cmp (flat_map (λ row. joins join.sources.items join.checks.items row
        (group_of (rows (access_in accesses s.access).table) (access_in accesses s.access) (project k row))) rs)
        ≡ distinct row_cmp (flat_map joins_of found)
    found_are k rs e f =
        let a = access_in accesses s.access in
        let joined : List ColumnId → Row → List Row = λ k row. joins join.sources.items join.checks.items row (group_of (rows a.table) a (project k row)) in
        ap (λ x. distinct row_cmp (flat_map (joined x) rs)) e ∙ ap (λ x. distinct row_cmp (flat_map (joined key) x)) f

    pub extensions_wide : All (λ row. length row ≡ length join.classes) (distinct row_cmp (flat_map joins_of found))
    extensions_wide k d l =
        let all = distinct row_cmp (flat_map joins_of found) in
        let row = get_or all k d in
        let from = Has-from_flat_map joins_of found row
        (Has-from_distinct row_cmp_total row_cmp_tells (flat_map joins_of found) row (Has-get_or all k d l)) in
        let tuples = filter (fits_by join.checks.items from.0) (group_of (rows (access_in accesses s.access).table) (access_in accesses s.access)
        (project key from.0)) in
        let m = Has-from_map (joined_by join.sources.items from.0) tuples row from.2 in
        ap length m.2 ∙ length-map join.sources.items (at_place from.0 m.0) ∙ ap length is.sources_are ∙ length-map join.classes (place_of joined)

    pub key_bound : All (λ row. All (λ column. column.0 < length row) key) found
    key_bound i d l j e k =
        let row = get_or found i d in
        let m = Has-from_map (λ c. column_of classes (class_at normal s.atom c)) (access_in accesses s.access).key (get_or key j e)
        (subst (λ cs. Has cs (get_or key j e)) keyed (Has-get_or key j e k)) in
        let class = class_at normal s.atom m.0 in
        let held = all_has (has set) (key_classes normal (use_of accesses s)) class bound (Has-map (class_at normal s.atom) (access_in accesses
        s.access).key m.0 m.1) in
        let p = place-in classes class (subst (λ cs. Has cs class) (sym are) (Has-classes_in set class held)) in
        let w = wide i d l in
        let is_column = ap (λ (c : ColumnId). c.0) m.2 in
        omega (arith, p, w, is_column)

-- keys are as wide as their columns are many, and no more than the rows
pub keys_wide : (key : List ColumnId) (found : List Row) (n : ℕ) → length key ≡ n → All (λ k. length k ≡ n) (distinct row_cmp (map (project key) found))
keys_wide key found n wide k d l =
    let all = distinct row_cmp (map (project key) found) in
    let m = Has-from_map (project key) found (get_or all k d)
    (Has-from_distinct row_cmp_total row_cmp_tells (map (project key) found) (get_or all k d) (Has-get_or all k d l)) in
    ap length m.2 ∙ length-project key m.0 ∙ wide

pub keys_few : (key : List ColumnId) (found : List Row) (bound : ℕ) → length (distinct row_cmp (map (project key) found)) * bound ≤ length found * bound
keys_few key found bound =
    let a = length-distinct-le row_cmp_total row_cmp_tells (map (project key) found) in
    let b = length-map found (project key) in
    mul-le (length (distinct row_cmp (map (project key) found))) bound (length found) bound (omega (arith, a, b)) (omega arith)

-- the key of each row stands among the keys
pub key_there : (key : List ColumnId) (found : List Row) (i : ℕ) (row : Row) → i < length found → row ≡ get_or found i row
    → Contains (distinct row_cmp (map (project key) found)) (project key row)
key_there key found i row l is = Contains-from_has (distinct row_cmp (map (project key) found)) (project key row)
    (Has-distinct row_cmp_total row_cmp_tells (map (project key) found) (project key row)
    (Has-map (project key) found row (subst (Has found) (sym is) (Has-get_or found i row l))))

pub keys_in_order : (key : List ColumnId) (found : List Row) → IsInOrder row_cmp (distinct row_cmp (map (project key) found))
keys_in_order key found = IsInOrder-distinct row_cmp_total row_cmp_tells (map (project key) found)

flat-push : (f : Row → List Row) (xs : List Row) (y : Row) → flat_map f (xs ++ y ∷ []) ≡ flat_map f xs ++ f y
flat-push f [] y = append-nil (f y)
flat-push f (x ∷ xs) y = ap (λ zs. f x ++ zs) (flat-push f xs y) ∙ sym (append_assoc (f x) (flat_map f xs) (f y))

pub flat_more : (f : Row → List Row) (rows : List Row) (i : ℕ) (row : Row) → i < length rows → row ≡ get_or rows i row
    → flat_map f (take i rows) ++ f row ≡ flat_map f (take (i + 1) rows)
flat_more f rows i row l is = sym (ap (λ k. flat_map f (take k rows)) (add-one i)
    ∙ ap (flat_map f) (take-suc rows i row l ∙ ap (λ r. take i rows ++ r ∷ []) (sym is))
    ∙ flat-push f (take i rows) row)

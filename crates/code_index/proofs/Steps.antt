-- What the calls of an index over codes do, by the values of the codes.
use Rattle.std.proofs.Common.{◌≡◌, ◌≢◌, ◌≤◌, ◌<◌, ◌+◌, ◌-◌, ℕ, zero, suc, Bool, true, false, cond, inl, inr, List, [], ◌∷◌, ◌++◌, length, map, take, get_or, refl, ap, sym, ◌∙◌, subst, arith}
use Rattle.std.specs.Prelude.{nat_eq, slice_get, Option, Some, None, IsTrue, ◌↔◌}
use Rattle.std.specs.Option.{option_map, unwrap_or}
use Rattle.std.specs.List.{AllByRecursion, IsDistinct, filter}
use Rattle.std.specs.Map.{keys_of, values_of, lookup, set_value}
use Rattle.std.specs.Cmp.Lexicographic.{pointwise}
use Rattle.std.proofs.lemmas.Bool.{eqb-true}
use Rattle.std.proofs.lemmas.List.{length-map}
use Rattle.indexmap.specs.IndexMap.{swap_remove_entry}
use Rattle.beas_core.specs.declared.value.Value.{Value}
use Rattle.beas_core.specs.declared.schema.Access.{Access}
use Rattle.beas_core.specs.Groups.{member_columns, group_of}
use Rattle.beas_core.proofs.Groups.{same_row_true}
use Rattle.beas_core.proofs.Sets.{Has, Has-from_contains, Contains-from_has}
use Rattle.access_index.specs.declared.tally.Tally.{Tally}
use Rattle.access_index.specs.Buckets.{tuples_in, count_in, is_key, AllTuplesPass, is_wide, IsOneMore}
use Rattle.access_index.specs.Index.{IsIndexOf, WouldHold, tallies, tuple_of, key_of}
use Rattle.access_index.proofs.Indexing.{take_tuple, group_tuples}
use Rattle.labelled_list.specs.declared.coded.Coded.{Coded}
use Rattle.code_index.specs.Codes.{value_of}
use Rattle.code_index.specs.Reading.{CodeIndex, IsInOrderFor, IsGroup, Spells, read, read_index, read_group, read_entries, pick, AllKnown, AllCodesKnown, is_keyed, codes_in}
use Rattle.code_index.specs.Taking.{HasRoom, CountsWhere, HoldsWhere}
use Rattle.code_index.proofs.Holding.{holds_iff}
use Rattle.code_index.proofs.Keys.{row_same}
use Rattle.code_index.proofs.Storing.{bucket_at, count_all, own_bucket}
use Rattle.code_index.proofs.Indexing.{count_bucket}
use Rattle.code_index.proofs.Changing.{counted_there}
use Rattle.code_index.proofs.ReadFacts.{lookup_read}
use Rattle.code_index.proofs.GroupFacts.{length_group, group_put, uncounted, lacks, has}
use Rattle.code_index.proofs.Ordering.{Entry, IsMore, more_to, more_new, less_from, less_whole, key_known, read_key, known_key, known_group, group_holds}

-- a group written as it was
pub set_same : (test : List ℕ → Bool) (es : List Entry) (g : List Coded) → lookup test es ≡ Some g → set_value test es g ≡ es
set_same test [] g e = refl
set_same test (x ∷ es) g f = by (test x.0) f (set_same test es g)
  where
    by : (b : Bool) → cond b (Some x.1) (lookup test es) ≡ Some g → (lookup test es ≡ Some g → set_value test es g ≡ es)
        → cond b ((x.0, g) ∷ es) (x ∷ set_value test es g) ≡ x ∷ es
    by true h rest = let same : x.1 ≡ g = cc in ap (λ gs. (x.0, gs) ∷ es) (sym same)
    by false h rest = ap (λ gs. x ∷ gs) (rest h)

module _ (access : Access) (codes : List Value) (total : ℕ) (es new : List Entry) (row_codes : List ℕ) (self : CodeIndex) where
  abbrev inside : CodeIndex
  inside = record { access = access; total = total; groups = es }

  -- a row was counted
  pub record Taken : Type 0 where
    pub in_order : IsInOrderFor codes (record { access = access; total = total + 1; groups = new })
    pub ok : (row : List Value) (front back : List (List Value)) → Spells codes (member_columns self.access) row_codes row
        → IsIndexOf (read_index codes self) (front ++ back)
        → IsIndexOf (read_index codes (record { access = access; total = total + 1; groups = new })) (front ++ row ∷ back)

  module _ (view : inside ≡ self) (in_order : IsInOrderFor codes self) (known : AllKnown codes (pick (member_columns self.access) row_codes))
      (key : List ℕ) (key_is : key ≡ pick access.key row_codes) where
    o : IsInOrderFor codes inside
    o = subst (IsInOrderFor codes) (sym view) in_order

    k : AllKnown codes (pick (member_columns access) row_codes)
    k = subst (λ (s : CodeIndex). AllKnown codes (pick (member_columns s.access) row_codes)) (sym view) known

    taken : IsMore access codes total es new row_codes → Taken
    taken m = record {
      in_order = m.many_in_order;
      ok = subst (λ (s : CodeIndex). (row : List Value) (front back : List (List Value)) → Spells codes (member_columns s.access) row_codes row
          → IsIndexOf (read_index codes s) (front ++ back)
          → IsIndexOf (read_index codes (record { access = access; total = total + 1; groups = new })) (front ++ row ∷ back)) view m.added;
    }

    pub take_found : (g more : List Coded) → lookup (pointwise nat_eq key) es ≡ Some g → new ≡ set_value (pointwise nat_eq key) es more
        → IsDistinct (pointwise nat_eq) (keys_of new)
        → IsOneMore (read_group codes g) (read_group codes more) (read codes (pick (member_columns access) row_codes))
        → AllCodesKnown codes more → Taken
    take_found g more found is unique m wk =
        taken (more_to access codes total es new row_codes o k g more
        (ap (λ j. lookup (pointwise nat_eq j) es) (sym key_is) ∙ found) (is ∙ ap (λ j. set_value (pointwise nat_eq j) es more) key_is) unique m wk)

    pub take_new : (g : List Coded) → g ≡ record { codes = pick (member_columns access) row_codes; count = 1 } ∷ [] → new ≡ es ++ (key, g) ∷ []
        → IsDistinct (pointwise nat_eq) (keys_of new) → Taken
    take_new g g_is is unique =
        let tuple = pick (member_columns access) row_codes in
        let one : List Coded = record { codes = tuple; count = 1 } ∷ [] in
        taken (more_new access codes total es new row_codes o k one
        (is ∙ ap (λ j. es ++ (j, g) ∷ []) key_is ∙ ap (λ h. es ++ (pick access.key row_codes, h) ∷ []) g_is) unique
        (group_put codes [] 0 tuple tt tt
        (record { within = omega arith; before = λ i d l. absurd (omega (arith, l)); after = λ i d h l. absurd (omega (arith, l)) })) (k, tt))

-- what is there of the row's tuple
module _ (access : Access) (codes : List Value) (total : ℕ) (es : List Entry) (row_codes : List ℕ)
    (o : IsInOrderFor codes (record { access = access; total = total; groups = es })) (row : List Value)
    (s : Spells codes (member_columns access) row_codes row) where
  abbrev ws : List ℕ
  ws = pick access.key row_codes

  abbrev own_tuple : List ℕ
  own_tuple = pick (member_columns access) row_codes

  key_in : AllKnown codes ws
  key_in = key_known codes row_codes access s.known

  pub own_key : key_of access row ≡ read codes ws
  own_key = sym (take_tuple access row) ∙ ap (take (length access.key)) (sym s.same) ∙ read_key codes row_codes access

  whole : (w : ℕ) (key : List Value) (ts : List Tally) → AllTuplesPass (is_keyed w key) ts → filter (is_key w key) ts ≡ ts
  whole w key [] a = refl
  whole w key (t ∷ ts) a =
      ap (λ b. cond b (t ∷ filter (is_key w key) ts) (filter (is_key w key) ts)) (row_same (take w t.tuple) key (sym (same_row_true key (take w t.tuple) a.0)))
      ∙ ap (λ us. t ∷ us) (whole w key ts a.1)

  bucket_is : (r : Option (List Coded)) → lookup (pointwise nat_eq ws) es ≡ r
      → bucket_at (read_entries codes es) (read codes ws) ≡ unwrap_or (option_map (read_group codes) r) []
  bucket_is r f = ap (λ p. unwrap_or p []) (lookup_read codes o.distinct ws key_in es o.keys ∙ ap (option_map (read_group codes)) f)

  tallies_are : (g : List Coded) → lookup (pointwise nat_eq ws) es ≡ Some g
      → tallies (read_index codes (record { access = access; total = total; groups = es })) (read codes ws) ≡ read_group codes g
  tallies_are g f =
      own_bucket (length (member_columns access)) (length access.key) (read codes ws) (read_entries codes es) o.stored.distinct o.stored.buckets
      ∙ ap (filter (is_key (length access.key) (read codes ws))) (bucket_is (Some g) f)
      ∙ whole (length access.key) (read codes ws) (read_group codes g) (group_holds access codes total es ws o g f).keyed

  pub group_tallies : (g : List Coded) → lookup (pointwise nat_eq ws) es ≡ Some g
      → tallies (read_index codes (record { access = access; total = total; groups = es })) (key_of access row) ≡ read_group codes g
  group_tallies g f = ap (tallies (read_index codes (record { access = access; total = total; groups = es }))) own_key ∙ tallies_are g f

  pub no_tallies : lookup (pointwise nat_eq ws) es ≡ None
      → tallies (read_index codes (record { access = access; total = total; groups = es })) (key_of access row) ≡ []
  no_tallies f =
      ap (tallies (read_index codes (record { access = access; total = total; groups = es }))) own_key
      ∙ own_bucket (length (member_columns access)) (length access.key) (read codes ws) (read_entries codes es) o.stored.distinct o.stored.buckets
      ∙ ap (filter (is_key (length access.key) (read codes ws))) (bucket_is None f)

  counted : (r : Option (List Coded)) → lookup (pointwise nat_eq ws) es ≡ r
      → count_all (read_entries codes es) (tuple_of access row) ≡ count_in (unwrap_or (option_map (read_group codes) r) []) (tuple_of access row)
  counted r f =
      count_bucket (length (member_columns access)) (length access.key) (read_entries codes es) o.stored.distinct o.stored.buckets (tuple_of access row)
      ∙ ap (λ k. count_in (bucket_at (read_entries codes es) k) (tuple_of access row)) (take_tuple access row ∙ own_key)
      ∙ ap (λ ts. count_in ts (tuple_of access row)) (bucket_is r f)

  -- a row that is among the rows is there
  pub not_without : (front back : List (List Value)) → IsIndexOf (read_index codes (record { access = access; total = total; groups = es })) (front ++ row ∷ back)
      → lookup (pointwise nat_eq ws) es ≡ None → ⊥
  not_without front back is f =
      counted_there access (length (member_columns access)) total (read_entries codes es) front back row o.stored is (counted None f)

  pub not_lacking : (front back : List (List Value)) → IsIndexOf (read_index codes (record { access = access; total = total; groups = es })) (front ++ row ∷ back)
      → (g : List Coded) → lookup (pointwise nat_eq ws) es ≡ Some g → AllByRecursion (λ c. c.codes ≢ own_tuple) g → ⊥
  not_lacking front back is g f a =
      counted_there access (length (member_columns access)) total (read_entries codes es) front back row o.stored is
      (counted (Some g) f ∙ ap (count_in (read_group codes g)) (sym s.same)
      ∙ uncounted codes o.distinct own_tuple s.known g (known_group access codes total es ws o g f) a)

  -- whether the row's tuple may come
  pub room_left : (g : List Coded) → lookup (pointwise nat_eq ws) es ≡ Some g → length g < access.bound
      → WouldHold (read_index codes (record { access = access; total = total; groups = es })) row
  room_left g f l = inr (omega (arith, l, ap length (group_tallies g f), length_group codes g))

  pub is_there : (g : List Coded) → lookup (pointwise nat_eq ws) es ≡ Some g → (i : ℕ) (d : Coded) → i < length g → (get_or g i d).codes ≡ own_tuple
      → WouldHold (read_index codes (record { access = access; total = total; groups = es })) row
  is_there g f i d l e =
      let h = has codes o.distinct own_tuple s.known g i d l e in
      inl (Contains-from_has (tuples_in (tallies (read_index codes (record { access = access; total = total; groups = es })) (key_of access row))) (tuple_of access row)
      (subst (λ ts. Has (tuples_in ts) (tuple_of access row)) (sym (group_tallies g f)) (subst (Has (tuples_in (read_group codes g))) s.same h)))

  pub is_not : (g : List Coded) → lookup (pointwise nat_eq ws) es ≡ Some g → AllByRecursion (λ c. c.codes ≢ own_tuple) g → access.bound ≤ length g
      → WouldHold (read_index codes (record { access = access; total = total; groups = es })) row → ⊥
  is_not g f a l (inl c) =
      lacks codes o.distinct own_tuple s.known g (known_group access codes total es ws o g f) a
      (subst (Has (tuples_in (read_group codes g))) (sym s.same) (subst (λ ts. Has (tuples_in ts) (tuple_of access row)) (group_tallies g f)
      (Has-from_contains (tuples_in (tallies (read_index codes (record { access = access; total = total; groups = es })) (key_of access row))) (tuple_of access row) c)))
  is_not g f a l (inr s) = omega (arith, l, s, ap length (group_tallies g f), length_group codes g)

  pub judged : (g : List Coded) → lookup (pointwise nat_eq ws) es ≡ Some g → (answer : Bool) → HasRoom answer access row_codes g
      → IsTrue answer ↔ WouldHold (read_index codes (record { access = access; total = total; groups = es })) row
  judged g f true (inl l) = (λ t. room_left g f l, λ would. refl)
  judged g f true (inr m) =
      let none : Coded = record { codes = []; count = 0 } in (λ t. is_there g f m.at none m.within (m.same none), λ would. refl)
  judged g f false m = (λ t. cc, λ would. absurd (is_not g f m.1 m.0 would))

  pub of_nothing : lookup (pointwise nat_eq ws) es ≡ None → (answer : Bool) → (IsTrue answer ↔ (0 < access.bound))
      → IsTrue answer ↔ WouldHold (read_index codes (record { access = access; total = total; groups = es })) row
  of_nothing f answer iff = (λ t. inr (omega (arith, iff.0 t, ap length (no_tallies f))), back)
    where
      back : WouldHold (read_index codes (record { access = access; total = total; groups = es })) row → IsTrue answer
      back (inl c) = absurd (subst (λ ts. Has ts (tuple_of access row)) (ap tuples_in (no_tallies f))
          (Has-from_contains (tuples_in (tallies (read_index codes (record { access = access; total = total; groups = es })) (key_of access row))) (tuple_of access row) c))
      back (inr l) = iff.1 (omega (arith, l, ap length (no_tallies f)))

-- what is told of a row by the group of its key
module _ (access : Access) (codes : List Value) (total : ℕ) (es : List Entry) (row_codes : List ℕ) (self : CodeIndex)
    (view : record { access = access; total = total; groups = es } ≡ self) (in_order : IsInOrderFor codes self)
    (key : List ℕ) (key_is : key ≡ pick access.key row_codes) where
  abbrev Tells : Bool → CodeIndex → Type 0
  Tells answer index = (row : List Value) → Spells codes (member_columns index.access) row_codes row → IsTrue answer ↔ WouldHold (read_index codes index) row

  holds_where : (answer : Bool) → Tells answer self → HoldsWhere answer codes row_codes self
  holds_where answer tells row rows s is h = holds_iff (read_index codes self) row answer (tells row s) rows is h

  pub found_tells : (g : List Coded) → lookup (pointwise nat_eq key) es ≡ Some g → (answer : Bool) → HasRoom answer access row_codes g → Tells answer self
  found_tells g f answer room =
      subst (Tells answer) view (λ row s. judged access codes total es row_codes (subst (IsInOrderFor codes) (sym view) in_order) row s g
      (ap (λ j. lookup (pointwise nat_eq j) es) (sym key_is) ∙ f) answer room)

  pub new_tells : lookup (pointwise nat_eq key) es ≡ None → (answer : Bool) → (IsTrue answer ↔ (0 < access.bound)) → Tells answer self
  new_tells f answer iff =
      subst (Tells answer) view (λ row s. of_nothing access codes total es row_codes (subst (IsInOrderFor codes) (sym view) in_order) row s
      (ap (λ j. lookup (pointwise nat_eq j) es) (sym key_is) ∙ f) answer iff)

  pub found_holds : (g : List Coded) → lookup (pointwise nat_eq key) es ≡ Some g → (answer : Bool) → HasRoom answer access row_codes g
      → HoldsWhere answer codes row_codes self
  found_holds g f answer room = holds_where answer (found_tells g f answer room)

  pub new_holds : lookup (pointwise nat_eq key) es ≡ None → (answer : Bool) → (IsTrue answer ↔ (0 < access.bound))
      → HoldsWhere answer codes row_codes self
  new_holds f answer iff = holds_where answer (new_tells f answer iff)

-- an index that is left as it is
pub left_alone : (codes : List Value) (row_codes : List ℕ) (old new : CodeIndex) → new ≡ old → CountsWhere false codes row_codes old new
left_alone codes row_codes old new e row front back s is = subst (λ (x : CodeIndex). IsIndexOf (read_index codes x) (front ++ back)) (sym e) is

-- the group of a key
module _ (access : Access) (codes : List Value) (total : ℕ) (es : List Entry) (key : List ℕ)
    (o : IsInOrderFor codes (record { access = access; total = total; groups = es })) (known : AllKnown codes key) where
  all_of : (w : ℕ) (k : List Value) (ts : List Tally) → AllTuplesPass (is_keyed w k) ts → filter (is_key w k) ts ≡ ts
  all_of w k [] a = refl
  all_of w k (t ∷ ts) a =
      ap (λ b. cond b (t ∷ filter (is_key w k) ts) (filter (is_key w k) ts)) (row_same (take w t.tuple) k (sym (same_row_true k (take w t.tuple) a.0)))
      ∙ ap (λ us. t ∷ us) (all_of w k ts a.1)

  tuples_read : (g : List Coded) → tuples_in (read_group codes g) ≡ map (read codes) (codes_in g)
  tuples_read [] = refl
  tuples_read (c ∷ g) = ap (λ xs. read codes c.codes ∷ xs) (tuples_read g)

  key_bucket : (r : Option (List Coded)) → lookup (pointwise nat_eq key) es ≡ r
      → bucket_at (read_entries codes es) (read codes key) ≡ unwrap_or (option_map (read_group codes) r) []
  key_bucket r f = ap (λ p. unwrap_or p []) (lookup_read codes o.distinct key known es o.keys ∙ ap (option_map (read_group codes)) f)

  own_tallies : tallies (read_index codes (record { access = access; total = total; groups = es })) (read codes key)
      ≡ filter (is_key (length access.key) (read codes key)) (bucket_at (read_entries codes es) (read codes key))
  own_tallies = own_bucket (length (member_columns access)) (length access.key) (read codes key) (read_entries codes es) o.stored.distinct o.stored.buckets

  module _ (rows : List (List Value)) (is : IsIndexOf (read_index codes (record { access = access; total = total; groups = es })) rows) where
    pub found_group : (g : List Coded) → lookup (pointwise nat_eq key) es ≡ Some g
        → map (read codes) (codes_in g) ≡ group_of rows access (read codes key)
    found_group g f =
        sym (tuples_read g)
        ∙ ap tuples_in (sym (own_tallies ∙ ap (filter (is_key (length access.key) (read codes key))) (key_bucket (Some g) f)
        ∙ all_of (length access.key) (read codes key) (read_group codes g) (group_holds access codes total es key o g f).keyed) ∙ is.tallies_are (read codes key))
        ∙ group_tuples access rows (read codes key)

    pub no_group : lookup (pointwise nat_eq key) es ≡ None → group_of rows access (read codes key) ≡ []
    no_group f =
        sym (group_tuples access rows (read codes key))
        ∙ ap tuples_in (sym (is.tallies_are (read codes key)) ∙ own_tallies ∙ ap (filter (is_key (length access.key) (read codes key))) (key_bucket None f))

-- a row fewer
module _ (access : Access) (total : ℕ) (es new : List Entry) (row_codes : List ℕ) (self : CodeIndex) where
  abbrev now : CodeIndex
  now = record { access = access; total = total - 1; groups = new }

  pub record Left (codes : List Value) : Type 0 where
    pub in_order : IsInOrderFor codes now
    pub rest : (row : List Value) (front back : List (List Value)) → Spells codes (member_columns self.access) row_codes row
        → IsIndexOf (read_index codes self) (front ++ row ∷ back) → IsIndexOf (read_index codes now) (front ++ back)

  module _ (view : record { access = access; total = total; groups = es } ≡ self) (some : 1 ≤ total) (key : List ℕ) (key_is : key ≡ pick access.key row_codes)
      (g : List Coded) (found : lookup (pointwise nat_eq key) es ≡ Some g)
      (codes : List Value) (in_order : IsInOrderFor codes self) where
    one : total ≡ (total - 1) + 1
    one = omega arith

    abbrev old : CodeIndex
    old = record { access = access; total = (total - 1) + 1; groups = es }

    same_old : old ≡ self
    same_old = ap (λ t. record { access = access; total = t; groups = es }) (sym one) ∙ view

    p : IsInOrderFor codes old
    p = subst (IsInOrderFor codes) (sym same_old) in_order

    found_there : lookup (pointwise nat_eq (pick access.key row_codes)) es ≡ Some g
    found_there = ap (λ j. lookup (pointwise nat_eq j) es) (sym key_is) ∙ found

    left : IsMore access codes (total - 1) new es row_codes → Left codes
    left m = record {
      in_order = m.few_in_order;
      rest = subst (λ (s : CodeIndex). (row : List Value) (front back : List (List Value)) → Spells codes (member_columns s.access) row_codes row
          → IsIndexOf (read_index codes s) (front ++ row ∷ back) → IsIndexOf (read_index codes now) (front ++ back)) same_old m.removed;
    }

    pub left_in : (less : List Coded) → new ≡ set_value (pointwise nat_eq key) es less → IsDistinct (pointwise nat_eq) (keys_of new)
        → IsOneMore (read_group codes less) (read_group codes g) (read codes (pick (member_columns access) row_codes))
        → AllCodesKnown codes less → 0 < length less → Left codes
    left_in less is unique m wk l =
        left (less_from access codes (total - 1) new es row_codes p
        (known_key access codes ((total - 1) + 1) es (pick access.key row_codes) p g found_there) less g found_there
        (is ∙ ap (λ j. set_value (pointwise nat_eq j) es less) key_is) unique m wk l)

    pub left_whole : new ≡ swap_remove_entry (pointwise nat_eq key) es → IsDistinct (pointwise nat_eq) (keys_of new)
        → IsOneMore [] (read_group codes g) (read codes (pick (member_columns access) row_codes)) → Left codes
    left_whole is unique m =
        left (less_whole access codes (total - 1) new es row_codes p
        (known_key access codes ((total - 1) + 1) es (pick access.key row_codes) p g found_there) g found_there
        (is ∙ ap (λ j. swap_remove_entry (pointwise nat_eq j) es) key_is) unique m)

-- what holds of the group at a place
pub group_at : (codes : List Value) (n w : ℕ) (es : List Entry) (i : ℕ) (g : List Coded)
    → AllByRecursion (λ e. IsGroup n w e.0 e.1) (read_entries codes es) → slice_get (values_of es) i ≡ Some g → (k : List Value) × IsGroup n w k (read_group codes g)
group_at codes n w [] i g a e = cc
group_at codes n w (x ∷ es) zero g a f =
    let same : x.1 ≡ g = cc in (read codes x.0, subst (λ h. IsGroup n w (read codes x.0) (read_group codes h)) same a.0)
group_at codes n w (x ∷ es) (suc i) g a f = group_at codes n w es i g a.1 f

pub width_at : (codes : List Value) (n : ℕ) (g : List Coded) (i : ℕ) (d : Coded) → AllTuplesPass (is_wide n) (read_group codes g) → i < length g
    → length (get_or g i d).codes ≡ n
width_at codes n [] i d a l = absurd (omega (arith, l))
width_at codes n (c ∷ g) zero d a l = sym (eqb-true n (length (read codes c.codes)) a.0 ∙ length-map c.codes (value_of codes))
width_at codes n (c ∷ g) (suc i) d a l = width_at codes n g i d a.1 (omega arith)

-- all members of a group have its key
pub all_kept : (w : ℕ) (k : List Value) (ts : List Tally) → AllTuplesPass (is_keyed w k) ts → filter (is_key w k) ts ≡ ts
all_kept w k [] a = refl
all_kept w k (t ∷ ts) a =
    ap (λ b. cond b (t ∷ filter (is_key w k) ts) (filter (is_key w k) ts)) (row_same (take w t.tuple) k (sym (same_row_true k (take w t.tuple) a.0)))
    ∙ ap (λ us. t ∷ us) (all_kept w k ts a.1)

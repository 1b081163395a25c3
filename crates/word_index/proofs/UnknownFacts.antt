-- A value that was never interned is in no tuple of an index.
use Rattle.std.proofs.Common.{◌≡◌, ◌∙◌, ℕ, zero, suc, Bool, true, false, cond, List, [], ◌∷◌, ◌++◌, map, take, length, ap, refl, sym, subst, inl, inr}
use Rattle.std.specs.Prelude.{filter, flat_map}
use Rattle.std.specs.List.{AllByRecursion}
use Rattle.std.specs.Map.{values_of}
use Rattle.beas_core.specs.declared.value.Value.{Value}
use Rattle.beas_core.specs.Groups.{project, group_of, same_row, member_columns}
use Rattle.beas_core.proofs.Groups.{same_row_true, same_row_itself}
use Rattle.beas_core.proofs.Sets.{Has, Has-map, Has-filter, Has-distinct, Has-append_right}
use Rattle.beas_core.specs.Order.{row_cmp_total}
use Rattle.beas_core.proofs.ValueOrder.{row_cmp_tells}
use Rattle.access_index.specs.declared.tally.Tally.{Tally}
use Rattle.access_index.specs.Buckets.{tuples_in, is_key}
use Rattle.access_index.specs.Index.{IsIndexOf, tallies, tuple_of, key_of}
use Rattle.access_index.proofs.Indexing.{group_tuples}
use Rattle.labelled_list.specs.declared.coded.Coded.{Coded}
use Rattle.code_index.specs.Reading.{read_tally, read_group, read_entries, read_index, AllCodesKnown, IsInOrderFor, CodeIndex}
use Rattle.code_index.specs.Spelling.{AllHaveCodes}
use Rattle.code_index.proofs.SpellingFacts.{read_coded}

-- what is true of a tally that an index gives for a key
record IsCoded (codes : List Value) (width : ℕ) (key : List Value) (tally : Tally) : Type 0 where
  coded : AllHaveCodes codes tally.tuple
  keyed : is_key width key tally ≡ true

module _ (codes : List Value) (width : ℕ) (key : List Value) where
  in_group : (group : List Coded) (rest : List Tally) → AllCodesKnown codes group → AllByRecursion (IsCoded codes width key) rest
      → AllByRecursion (IsCoded codes width key) (filter (is_key width key) (read_group codes group) ++ rest)
  in_group [] rest k r = r
  in_group (c ∷ group) rest k r = by (is_key width key (read_tally codes c)) refl (in_group group rest k.1 r)
    where
      by : (b : Bool) → is_key width key (read_tally codes c) ≡ b
          → AllByRecursion (IsCoded codes width key) (filter (is_key width key) (read_group codes group) ++ rest)
          → AllByRecursion (IsCoded codes width key)
          (cond b (read_tally codes c ∷ filter (is_key width key) (read_group codes group)) (filter (is_key width key) (read_group codes group)) ++ rest)
      by true t a = (record { coded = read_coded codes c.codes k.0; keyed = t }, a)
      by false t a = a

  in_groups : (groups : List (List ℕ × List Coded)) → AllByRecursion (λ e. AllCodesKnown codes e.1) groups
      → AllByRecursion (IsCoded codes width key) (flat_map (filter (is_key width key)) (values_of (read_entries codes groups)))
  in_groups [] k = tt
  in_groups (e ∷ groups) k =
      in_group e.1 (flat_map (filter (is_key width key)) (values_of (read_entries codes groups))) k.0 (in_groups groups k.1)

  has_coded : (ts : List Tally) (x : List Value) → AllByRecursion (IsCoded codes width key) ts → Has (tuples_in ts) x → AllHaveCodes codes x
  has_coded [] x a h = absurd h
  has_coded (t ∷ ts) x a (inl e) = subst (AllHaveCodes codes) (sym e) a.0.coded
  has_coded (t ∷ ts) x a (inr h) = has_coded ts x a.1 h

  front_coded : (n : ℕ) (values : List Value) → AllHaveCodes codes values → AllHaveCodes codes (take n values)
  front_coded zero values a = tt
  front_coded (suc n) [] a = tt
  front_coded (suc n) (v ∷ values) a = (a.0, front_coded n values a.1)

  none_coded : (ts : List Tally) → AllByRecursion (IsCoded codes width key) ts → (AllHaveCodes codes key → ⊥) → ts ≡ []
  none_coded [] a n = refl
  none_coded (t ∷ ts) a n =
      absurd (n (subst (AllHaveCodes codes) (same_row_true (take width t.tuple) key a.0.keyed) (front_coded width t.tuple a.0.coded)))

module _ (codes : List Value) (index : CodeIndex) (o : IsInOrderFor codes index) where
  -- a key with a value that has no code has no group
  pub none_found : (rows : List (List Value)) (key : List Value) → IsIndexOf (read_index codes index) rows → (AllHaveCodes codes key → ⊥)
      → group_of rows index.access key ≡ []
  none_found rows key is n =
      sym (ap tuples_in (is.tallies_are key) ∙ group_tuples index.access rows key)
      ∙ ap tuples_in (none_coded codes (length index.access.key) key (tallies (read_index codes index) key)
      (in_groups codes (length index.access.key) key index.groups o.known) n)

  -- each value of a row's tuple has a code
  pub among : (rows : List (List Value)) (row : List Value) → IsIndexOf (read_index codes index) rows → Has rows row
      → AllHaveCodes codes (tuple_of index.access row)
  among rows row is there =
      let key = key_of index.access row in
      let member : Has (group_of rows index.access key) (tuple_of index.access row) =
      Has-distinct row_cmp_total row_cmp_tells (map (project (member_columns index.access)) (filter (λ r. same_row (project index.access.key r) key) rows))
      (tuple_of index.access row)
      (Has-map (project (member_columns index.access)) (filter (λ r. same_row (project index.access.key r) key) rows) row
      (Has-filter (λ r. same_row (project index.access.key r) key) rows row there (same_row_itself key))) in
      has_coded codes (length index.access.key) key (tallies (read_index codes index) key) (tuple_of index.access row)
      (in_groups codes (length index.access.key) key index.groups o.known)
      (subst (λ ts. Has ts (tuple_of index.access row)) (sym (ap tuples_in (is.tallies_are key) ∙ group_tuples index.access rows key)) member)

  some_among : (rows some : List (List Value)) → IsIndexOf (read_index codes index) rows → ((row : List Value) → Has some row → Has rows row)
      → AllByRecursion (λ row. AllHaveCodes codes (tuple_of index.access row)) some
  some_among rows [] is h = tt
  some_among rows (row ∷ some) is h = (among rows row is (h row (inl refl)), some_among rows some is (λ r t. h r (inr t)))

  -- so has each value of all rows' tuples
  pub all_among : (rows : List (List Value)) → IsIndexOf (read_index codes index) rows
      → AllByRecursion (λ row. AllHaveCodes codes (tuple_of index.access row)) rows
  all_among rows is = some_among rows rows is (λ row t. t)

  -- a row with a value that has no code is none of the rows
  pub not_among : (front back : List (List Value)) (row : List Value) → IsIndexOf (read_index codes index) (front ++ row ∷ back)
      → (AllHaveCodes codes (tuple_of index.access row) → ⊥) → ⊥
  not_among front back row is n = n (among (front ++ row ∷ back) row is (Has-append_right front (row ∷ back) row (inl refl)))

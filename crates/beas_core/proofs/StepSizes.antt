-- One step leaves at most as many valuations as its bound says, and reads no more.
use Rattle.std.proofs.Common.{◌≡◌, ◌≤◌, ◌*◌, ℕ, max, Bool, true, false, not, cond, List, ◌++◌, length, map, get_or, inl, inr, refl, ap, sym, ◌∙◌, subst, arith}
use Rattle.std.specs.List.{filter, flat_map, range_with_len}
use Rattle.std.proofs.Math.Nat.{mul-le-mul_left}
use Rattle.std.proofs.lemmas.List.{length-map}
use Rattle.std.proofs.lemmas.List.Sums.{sum_by-le}
use Rattle.std.proofs.lemmas.List.Elements.{filter_agree}
use Rattle.beas_core.specs.declared.schema.Access.{Access}
use Rattle.beas_core.specs.declared.plan.DStep.{DStep}
use Rattle.beas_core.specs.declared.plan.Normal.{Normal}
use Rattle.beas_core.specs.Types.{TableRows, Row, ClassSet, Bindings}
use Rattle.beas_core.specs.Order.{row_cmp_total}
use Rattle.beas_core.specs.Groups.{group_of, Holds}
use Rattle.beas_core.specs.Coverage.{has, holds_classes, class_at, key_classes, fetched_classes, ClassesInRange}
use Rattle.beas_core.specs.Derivations.{access_in, table_of, member_classes, use_of, bound_by, adds_class, key_is_bound, adds_rightly}
use Rattle.beas_core.specs.Groups.{member_columns}
use Rattle.beas_core.specs.Numbers.{size_after}
use Rattle.beas_core.specs.Valuations.{value_of, bindings_of, with_row_for, is_consistent, classes_in, valued_rows}
use Rattle.beas_core.specs.Reads.{key_for, keys_for, probe_reads, step_reads}
use Rattle.beas_core.proofs.Sets.{Has, Has-map, Has-from_map, Has-append_cases, IsInOrder-distinct, length-distinct-le}
use Rattle.beas_core.proofs.ValueOrder.{row_cmp_tells}
use Rattle.beas_core.specs.Extensions.{extended_row, fits, group_for, extensions_of, extensions, meets_bound}
use Rattle.beas_core.proofs.MemberTests.{from_not, all_has}
use Rattle.beas_core.proofs.ClassSetFacts.{has-with_kept, has-with_cases, length-with}
use Rattle.beas_core.proofs.SetSizes.{length_within, length-flat_map-le, length-filter_le}
use Rattle.beas_core.proofs.BindingFacts.{Binds, value-append_in, map_same, from_classes_in}
use Rattle.beas_core.proofs.StepExtends.{some_valued, way_from, split, Has-before, step_is}

-- any set of valuations has at most so many extensions
module _ (rows : TableRows) (normal : Normal) (accesses : List Access) (s : DStep) (set : ClassSet)
    (holds : Holds (rows (access_in accesses s.access).table) (access_in accesses s.access)) where
  few_of_one : (v : Row) → length (extensions_of rows normal accesses s set v) ≤ (access_in accesses s.access).bound
  few_of_one v =
      let mapped = length-map (filter (fits normal accesses s set v) (group_for rows normal accesses s set v)) (extended_row normal accesses s set v) in
      let fewer = length-filter_le (fits normal accesses s set v) (group_for rows normal accesses s set v) in
      let h = holds (key_for normal accesses s set v) in
      omega (arith, mapped, fewer, h)

  pub length-extensions : (found : List Row) → length (extensions rows normal accesses s set found) ≤ length found * (access_in accesses s.access).bound
  length-extensions found =
      let d = length-distinct-le row_cmp_total row_cmp_tells (flat_map (extensions_of rows normal accesses s set) found) in
      let f = length-flat_map-le (extensions_of rows normal accesses s set) (access_in accesses s.access).bound few_of_one found in
      omega (arith, d, f)

module _ (rows : TableRows) (normal : Normal) (accesses : List Access) (s : DStep) (set : ClassSet) (counted : length set ≡ normal.count)
    (ranges : ClassesInRange normal)
    (found : List Bindings) (binds : (w : Bindings) → Has found w → Binds set w)
    (table : table_of normal s.atom ≡ (access_in accesses s.access).table) (keyed : key_is_bound normal accesses set s ≡ true) where
  count_more : Holds (rows (access_in accesses s.access).table) (access_in accesses s.access)
      → length (valued_rows normal (bound_by normal accesses set s) (with_row_for rows normal accesses found s)) ≤ length
      (valued_rows normal set found) * (access_in accesses s.access).bound
  count_more holds =
      let e = ap length (step_is rows normal accesses s set counted ranges found binds table keyed) in
      let fewer = length-filter_le (meets_bound normal (bound_by normal accesses set s))
      (extensions rows normal accesses s set (valued_rows normal set found)) in
      let few = length-extensions rows normal accesses s set holds (valued_rows normal set found) in
      omega (arith, e, fewer, few)

  -- a step that adds no class leaves the classes as they are
  module _ (none : adds_class normal set (use_of accesses s) ≡ false) where
    twice : (b : Bool) → not b ≡ false → b ≡ true
    twice true e = refl
    twice false e = cc

    held : (c : ℕ) → Has (member_classes normal (use_of accesses s)) c → has set c ≡ true
    held c h =
        let m = Has-from_map (class_at normal s.atom) (member_columns (access_in accesses s.access)) c h in
        ap (has set) m.2 ∙ elim (Has-append_cases (access_in accesses s.access).key (access_in accesses s.access).fetched m.0 m.1) [
          | inl k ↦ all_has (has set) (key_classes normal (use_of accesses s)) (class_at normal s.atom m.0) keyed
              (Has-map (class_at normal s.atom) (access_in accesses s.access).key m.0 k)
          | inr k ↦ all_has (has set) (fetched_classes normal (use_of accesses s)) (class_at normal s.atom m.0)
              (twice (holds_classes set (fetched_classes normal (use_of accesses s))) none)
              (Has-map (class_at normal s.atom) (access_in accesses s.access).fetched m.0 k)
        ]

    bool_same : (a b : Bool) → (a ≡ true → b ≡ true) → (b ≡ true → a ≡ true) → a ≡ b
    bool_same true b f g = sym (f refl)
    bool_same false true f g = g refl
    bool_same false false f g = refl

    same_classes : classes_in (bound_by normal accesses set s) ≡ classes_in set
    same_classes =
        filter_agree (has (bound_by normal accesses set s)) (has set)
        (λ c. bool_same (has (bound_by normal accesses set s) c) (has set c)
        (λ h. elim (has-with_cases (member_classes normal (use_of accesses s)) set c h) [ inl k ↦ k | inr k ↦ held c k ])
        (λ h. has-with_kept (member_classes normal (use_of accesses s)) set c h))
        (range_with_len 0 (length (bound_by normal accesses set s)))
        ∙ ap (λ n. filter (has set) (range_with_len 0 n)) (length-with (member_classes normal (use_of accesses s)) set)

    still_member : (v : Row) → Has (valued_rows normal (bound_by normal accesses set s) (with_row_for rows normal accesses found s)) v
        → Has (valued_rows normal set found) v
    still_member v h =
        let w = way_from normal (bound_by normal accesses set s) (with_row_for rows normal accesses found s) v h in
        let p = split rows normal accesses s set counted ranges found binds table w.way w.member in
        let consistent = subst (λ u. is_consistent normal (bound_by normal accesses set s) u ≡ true) p.same w.consistent in
        let e = w.same ∙ ap (λ u. map (value_of u) (classes_in (bound_by normal accesses set s))) p.same
        ∙ ap (map (value_of (p.before ++ bindings_of normal accesses s p.row))) same_classes
        ∙ map_same (value_of (p.before ++ bindings_of normal accesses s p.row)) (value_of p.before) (classes_in set)
        (λ c k. value-append_in p.before (bindings_of normal accesses s p.row) c ((binds p.before p.way).0 c (from_classes_in set c k))) in
        subst (Has (valued_rows normal set found)) (sym e)
        (Has-before rows normal accesses s set counted ranges found binds table p.before p.row p.way consistent)

    count_same : length (valued_rows normal (bound_by normal accesses set s) (with_row_for rows normal accesses found s)) ≤ length
        (valued_rows normal set found)
    count_same = length_within row_cmp_total row_cmp_tells (valued_rows normal (bound_by normal accesses set s) (with_row_for rows normal accesses found s))
        (valued_rows normal set found)
        (IsInOrder-distinct row_cmp_total row_cmp_tells (some_valued normal (bound_by normal accesses set s) (with_row_for rows normal accesses found s)))
        still_member

  pub step_count : (b : ℕ) → Holds (rows (access_in accesses s.access).table) (access_in accesses s.access) → adds_rightly normal accesses set s ≡ true
      → length (valued_rows normal set found) ≤ b
      → length (valued_rows normal (bound_by normal accesses set s) (with_row_for rows normal accesses found s)) ≤ size_after accesses b s
  step_count b holds rightly few = by s.adds rightly
    where
      by : (t : Bool) → cond t (adds_class normal set (use_of accesses s)) (not (adds_class normal set (use_of accesses s))) ≡ true
          → length (valued_rows normal (bound_by normal accesses set s) (with_row_for rows normal accesses found s)) ≤ cond t
          (b * (access_in accesses s.access).bound) b
      by true r = let h = count_more holds in let g = mul-le-mul_left (access_in accesses s.access).bound few in omega (arith, h, g)
      by false r = let h = count_same (from_not (adds_class normal set (use_of accesses s)) r) in omega (arith, h, few)

module _ (rows : TableRows) (normal : Normal) (accesses : List Access) (s : DStep) (set : ClassSet) where
  -- the reads of a step, by the number of valuations before it
  pub step_reads_count : (found : List Row) → Holds (rows (access_in accesses s.access).table) (access_in accesses s.access)
      → 1 ≤ (access_in accesses s.access).bound
      → step_reads rows normal accesses s set found ≤ length found * (access_in accesses s.access).bound
  step_reads_count found holds one =
      let fewer_keys = length-distinct-le row_cmp_total row_cmp_tells (map (key_for normal accesses s set) found) in
      let mapped = length-map found (key_for normal accesses s set) in
      let keys = keys_for normal accesses s set found in
      let each = sum_by-le (probe_reads rows (access_in accesses s.access)) (access_in accesses s.access).bound keys
      (λ i d l. let h = holds (get_or keys i d) in greater
      (length (group_of (rows (access_in accesses s.access).table) (access_in accesses s.access) (get_or keys i d)))
      (access_in accesses s.access).bound one h) in
      let keys_few : length (keys_for normal accesses s set found) ≤ length found = omega (arith, fewer_keys, mapped) in
      let product = mul-le-mul_left (access_in accesses s.access).bound keys_few in
      omega (arith, each, product)
    where
      greater : (n bound : ℕ) → 1 ≤ bound → n ≤ bound → max 1 n ≤ bound
      greater n bound a c = omega arith

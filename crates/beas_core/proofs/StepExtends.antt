-- One step more: its valuations are the extensions of those before it that meet the comparisons.
--     Split w          a way with the step, as a way before it and a row
--     binds_more       each way with the step binds the classes that are bound after it
--     step_is          the valuations after the step
use Rattle.std.proofs.Common.{◌≡◌, ◌<◌, ℕ, true, false, List, ◌++◌, length, map, inl, inr, ap, sym, ◌∙◌, subst}
use Rattle.std.specs.List.{list_all, filter, flat_map, zip}
use Rattle.beas_core.specs.declared.schema.ColumnId.{ColumnId}
use Rattle.beas_core.specs.declared.schema.Access.{Access}
use Rattle.beas_core.specs.declared.plan.DStep.{DStep}
use Rattle.beas_core.specs.declared.plan.Normal.{Normal}
use Rattle.beas_core.specs.Types.{TableRows, Row, ClassSet, Binding, Bindings}
use Rattle.beas_core.specs.Order.{row_cmp_total}
use Rattle.beas_core.specs.Groups.{value_at, project, same_row, member_columns}
use Rattle.beas_core.specs.Full.{same_value}
use Rattle.beas_core.specs.Coverage.{has, with_classes, class_at, key_classes, Within, ClassesInRange}
use Rattle.beas_core.specs.Derivations.{access_in, table_of, member_classes, use_of, bound_by, key_is_bound}
use Rattle.beas_core.specs.Valuations.{value_of, agrees, bindings_of, with_row_for, comparison_is_met, is_consistent, classes_in, valued_rows, as_bindings}
use Rattle.beas_core.specs.Reads.{key_for}
use Rattle.beas_core.proofs.Sets.{Has, Has-map, Has-from_map, Has-filter, Has-from_filter, Has-append_left, Has-append_right, Has-append_cases, Has-distinct, Has-from_distinct, distinct_same, distinct-filter}
use Rattle.beas_core.proofs.ValueOrder.{row_cmp_tells}
use Rattle.beas_core.specs.Extensions.{bindings_with, fits, extended_row, group_for, extensions_of, extensions, meets_bound, keep_met}
use Rattle.beas_core.proofs.MemberTests.{and_left, and_right, and_both, which, all_has, all_by, Has-flat_map, Has-from_flat_map}
use Rattle.beas_core.proofs.ClassSetFacts.{has-with_kept}
use Rattle.beas_core.proofs.BindingFacts.{Binds, value-append_in, value-append_out, keys-zip, zip-maps, zip_of, map_same, same_row_to, same_value_to, agreed, Has-classes_in, from_classes_in, value_in_valuation, Binds-with, keys-map}
use Rattle.beas_core.proofs.ConsistencyFacts.{consistent_before, met_alike}

-- the valuations of a set of classes that some ways give, before they are put in order
abbrev pub some_valued : Normal → ClassSet → List Bindings → List Row
some_valued normal set found = map (λ w. map (value_of w) (classes_in set)) (filter (is_consistent normal set) found)

pub Has-valued : (normal : Normal) (set : ClassSet) (found : List Bindings) (w : Bindings) → Has found w → is_consistent normal set w ≡ true
    → Has (valued_rows normal set found) (map (value_of w) (classes_in set))
Has-valued normal set found w h consistent = Has-distinct row_cmp_total row_cmp_tells (some_valued normal set found) (map (value_of w) (classes_in set))
    (Has-map (λ u. map (value_of u) (classes_in set)) (filter (is_consistent normal set) found) w (Has-filter (is_consistent normal set) found w h consistent))

-- the way that a valuation comes from
pub record Way (normal : Normal) (set : ClassSet) (found : List Bindings) (v : Row) : Type 0 where
  pub way : Bindings
  pub member : Has found way
  pub consistent : is_consistent normal set way ≡ true
  pub same : v ≡ map (value_of way) (classes_in set)

pub way_from : (normal : Normal) (set : ClassSet) (found : List Bindings) (v : Row) → Has (valued_rows normal set found) v → Way normal set found v
way_from normal set found v h =
    let d = Has-from_distinct row_cmp_total row_cmp_tells (some_valued normal set found) v h in
    let m = Has-from_map (λ w. map (value_of w) (classes_in set)) (filter (is_consistent normal set) found) v d in
    let f = Has-from_filter (is_consistent normal set) found m.0 m.1 in
    record { way = m.0; member = f.0; consistent = f.1; same = m.2 }

module _ (rows : TableRows) (normal : Normal) (accesses : List Access) (s : DStep) (set : ClassSet) (counted : length set ≡ normal.count)
    (ranges : ClassesInRange normal)
    (found : List Bindings) (binds : (w : Bindings) → Has found w → Binds set w)
    (table : table_of normal s.atom ≡ (access_in accesses s.access).table) where
  abbrev columns : List ColumnId
  columns = member_columns (access_in accesses s.access)

  abbrev pub more : ClassSet
  more = bound_by normal accesses set s

  abbrev after : List Bindings
  after = with_row_for rows normal accesses found s

  abbrev of_row : Row → Bindings
  of_row row = bindings_of normal accesses s row

  within : Within set (bound_by normal accesses set s)
  within c h = has-with_kept (member_classes normal (use_of accesses s)) set c h

  -- each way with the step is a way without it, and a row
  pub record Split (w : Bindings) : Type 0 where
    pub before : Bindings
    pub row : Row
    pub way : Has found before
    pub stands : Has (rows (access_in accesses s.access).table) row
    pub same : w ≡ before ++ bindings_of normal accesses s row

  pub split : (w : Bindings) → Has (with_row_for rows normal accesses found s) w → Split w
  split w h =
      let f = Has-from_flat_map (λ u. map (λ row. u ++ bindings_of normal accesses s row) (rows (table_of normal s.atom))) found w h in
      let r = Has-from_map (λ row. f.0 ++ bindings_of normal accesses s row) (rows (table_of normal s.atom)) w f.2 in
      record { before = f.0; row = r.0; way = f.1; stands = subst (λ t. Has (rows t) r.0) table r.1; same = r.2 }

  Has-after : (w : Bindings) (row : Row) → Has found w → Has (rows (access_in accesses s.access).table) row → Has after (w ++ of_row row)
  Has-after w row h stands = Has-flat_map (λ u. map (λ r. u ++ of_row r) (rows (table_of normal s.atom))) found w (w ++ of_row row) h
      (Has-map (λ r. w ++ of_row r) (rows (table_of normal s.atom)) row (subst (λ t. Has (rows t) row) (sym table) stands))

  pub binds_more : (w : Bindings) → Has (with_row_for rows normal accesses found s) w → Binds (bound_by normal accesses set s) w
  binds_more w h =
      let p = split w h in
      let e = keys-map (class_at normal s.atom) (value_at p.row) (member_columns (access_in accesses s.access)) in
      subst (Binds (bound_by normal accesses set s)) (sym p.same)
      (subst (λ cs. Binds (with_classes set cs) (p.before ++ of_row p.row)) e
      (Binds-with set p.before (of_row p.row) (λ c k.
      let m = Has-from_map (class_at normal s.atom) columns c (subst (λ cs. Has cs c) e k) in
      subst (λ n. c < n) (sym counted) (subst (λ d. d < normal.count) (sym m.2) (ranges s.atom m.0)))
      (binds p.before p.way)))

  -- a way and a row give each class the value that the way's valuation and the row's tuple give it
  module _ (w : Bindings) (row : Row) (way : Has found w) where
    abbrev before : Row
    before = map (value_of w) (classes_in set)

    abbrev tuple : Row
    tuple = project columns row

    zipped : zip (member_classes normal (use_of accesses s)) tuple ≡ of_row row
    zipped = zip-maps (class_at normal s.atom) (value_at row) columns

    value_after : (c : ℕ) → value_of (w ++ of_row row) c ≡ value_of (bindings_with normal accesses s set before tuple) c
    value_after c = elim (which (has set c)) [
      | inl e ↦
          value-append_in w (of_row row) c ((binds w way).0 c e)
          ∙ sym (value_in_valuation set w c e)
          ∙ sym (value-append_in (as_bindings set before) (zip (member_classes normal (use_of accesses s)) tuple) c
          (subst (λ ks. Has ks c) (sym (keys-zip (value_of w) (classes_in set))) (Has-classes_in set c e)))
      | inr e ↦
          value-append_out w (of_row row) c (λ h. let t = (binds w way).1 c h in differ c t e)
          ∙ sym (ap (λ bs. value_of bs c) zipped)
          ∙ sym (value-append_out (as_bindings set before) (zip (member_classes normal (use_of accesses s)) tuple) c
          (λ h. let t = from_classes_in set c (subst (λ ks. Has ks c) (keys-zip (value_of w) (classes_in set)) h) in differ c t e))
    ]
      where
        differ : (d : ℕ) → has set d ≡ true → has set d ≡ false → ⊥
        differ d p q = cc

    after_is : map (value_of (w ++ of_row row)) (classes_in more) ≡ extended_row normal accesses s set before tuple
    after_is = map_same (value_of (w ++ of_row row)) (value_of (bindings_with normal accesses s set before tuple)) (classes_in more) (λ c h. value_after c)

    -- the tuple fits exactly where the way and the row agree
    fits_if : agrees (w ++ of_row row) ≡ true → fits normal accesses s set before tuple ≡ true
    fits_if h = all_by (λ b. same_value b.1 (value_of (bindings_with normal accesses s set before tuple) b.0))
        (bindings_with normal accesses s set before tuple) (λ b m.
        elim (Has-append_cases (as_bindings set before) (zip (member_classes normal (use_of accesses s)) tuple) b m) [
          | inl k ↦ same_value_to b.1 (value_of (bindings_with normal accesses s set before tuple) b.0) (first b k)
          | inr k ↦ same_value_to b.1 (value_of (bindings_with normal accesses s set before tuple) b.0)
              (agreed (w ++ of_row row) b h (Has-append_right w (of_row row) b (subst (λ bs. Has bs b) zipped k)) ∙ value_after b.0)
        ])
      where
        first : (b : Binding) → Has (as_bindings set before) b → b.1 ≡ value_of (bindings_with normal accesses s set before tuple) b.0
        first b k =
            let m = Has-from_map (λ c. (c, value_of w c)) (classes_in set) b (subst (λ bs. Has bs b) (zip_of (value_of w) (classes_in set)) k) in
            let held = from_classes_in set m.0 m.1 in
            ap (λ d. d.1) m.2 ∙ sym (value-append_in w (of_row row) m.0 ((binds w way).0 m.0 held)) ∙ value_after m.0
            ∙ ap (value_of (bindings_with normal accesses s set before tuple)) (ap (λ d. d.0) (sym m.2))

    agrees_if : agrees w ≡ true → fits normal accesses s set before tuple ≡ true → agrees (w ++ of_row row) ≡ true
    agrees_if h g = all_by (λ b. same_value b.1 (value_of (w ++ of_row row) b.0)) (w ++ of_row row) (λ b m. elim (Has-append_cases w (of_row row) b m) [
      | inl k ↦ same_value_to b.1 (value_of (w ++ of_row row) b.0) (agreed w b h k ∙ sym (value-append_in w (of_row row) b.0 (Has-map (λ d. d.0) w b k)))
      | inr k ↦ same_value_to b.1 (value_of (w ++ of_row row) b.0)
          (agreed (bindings_with normal accesses s set before tuple) b g
          (Has-append_right (as_bindings set before) (zip (member_classes normal (use_of accesses s)) tuple) b (subst (λ bs. Has bs b) (sym zipped) k))
          ∙ sym (value_after b.0))
    ])

    -- the comparisons speak of bound classes alone
    valuation_alike : (c : ℕ) → has more c ≡ true → value_of (as_bindings more (extended_row normal accesses s set before tuple)) c
        ≡ value_of (w ++ of_row row) c
    valuation_alike c h = ap (λ v. value_of (as_bindings more v) c) (sym after_is) ∙ value_in_valuation more (w ++ of_row row) c h

    meets_if : list_all (comparison_is_met normal more (w ++ of_row row)) normal.comparisons ≡ true
        → meets_bound normal more (extended_row normal accesses s set before tuple) ≡ true
    meets_if h = all_by (comparison_is_met normal more (as_bindings more (extended_row normal accesses s set before tuple))) normal.comparisons (λ c m.
        met_alike normal more (w ++ of_row row) (as_bindings more (extended_row normal accesses s set before tuple)) (λ d k. sym (valuation_alike d k)) c
        (all_has (comparison_is_met normal more (w ++ of_row row)) normal.comparisons c h m))

    met_if : meets_bound normal more (extended_row normal accesses s set before tuple) ≡ true
        → list_all (comparison_is_met normal more (w ++ of_row row)) normal.comparisons ≡ true
    met_if h = all_by (comparison_is_met normal more (w ++ of_row row)) normal.comparisons (λ c m.
        met_alike normal more (as_bindings more (extended_row normal accesses s set before tuple)) (w ++ of_row row) valuation_alike c
        (all_has (comparison_is_met normal more (as_bindings more (extended_row normal accesses s set before tuple))) normal.comparisons c h m))

  pub Has-before : (w : Bindings) (row : Row) → Has found w
      → is_consistent normal (bound_by normal accesses set s) (w ++ bindings_of normal accesses s row) ≡ true
      → Has (valued_rows normal set found) (map (value_of w) (classes_in set))
  Has-before w row way consistent = Has-valued normal set found w way
      (consistent_before normal set (bound_by normal accesses set s) within w (bindings_of normal accesses s row) (binds w way).0 consistent)

  module _ (keyed : key_is_bound normal accesses set s ≡ true) where
    -- a consistent way gives the step its row's key
    key_is : (w : Bindings) (row : Row) → Has found w → agrees (w ++ of_row row) ≡ true
        → key_for normal accesses s set (map (value_of w) (classes_in set)) ≡ project (access_in accesses s.access).key row
    key_is w row way agree = map_same (λ c. value_of (as_bindings set (map (value_of w) (classes_in set))) (class_at normal s.atom c)) (value_at row)
        (access_in accesses s.access).key (λ c h.
        let k = all_has (has set) (key_classes normal (use_of accesses s)) (class_at normal s.atom c) keyed
        (Has-map (class_at normal s.atom) (access_in accesses s.access).key c h) in
        let member = Has-append_right w (of_row row) (class_at normal s.atom c, value_at row c)
        (Has-map (λ d. (class_at normal s.atom d, value_at row d)) (member_columns (access_in accesses s.access)) c
        (Has-append_left (access_in accesses s.access).key (access_in accesses s.access).fetched c h)) in
        value_in_valuation set w (class_at normal s.atom c) k
        ∙ sym (value-append_in w (of_row row) (class_at normal s.atom c) ((binds w way).0 (class_at normal s.atom c) k))
        ∙ sym (agreed (w ++ of_row row) (class_at normal s.atom c, value_at row c) agree member))

    Has-tuple : (w : Bindings) (row : Row) → Has found w → Has (rows (access_in accesses s.access).table) row → agrees (w ++ of_row row) ≡ true
        → Has (group_for rows normal accesses s set (map (value_of w) (classes_in set))) (project columns row)
    Has-tuple w row way stands agree =
        let key = key_for normal accesses s set (map (value_of w) (classes_in set)) in
        let held = filter (λ r. same_row (project (access_in accesses s.access).key r) key) (rows (access_in accesses s.access).table) in
        Has-distinct row_cmp_total row_cmp_tells (map (project columns) held) (project columns row)
        (Has-map (project columns) held row
        (Has-filter (λ r. same_row (project (access_in accesses s.access).key r) key) (rows (access_in accesses s.access).table) row stands
        (same_row_to (project (access_in accesses s.access).key row) key (sym (key_is w row way agree)))))

    Has-extension : (w : Bindings) (row : Row) → Has found w → Has (rows (access_in accesses s.access).table) row
        → is_consistent normal more (w ++ of_row row) ≡ true
        → Has (flat_map (extensions_of rows normal accesses s set) (valued_rows normal set found)) (map (value_of (w ++ of_row row)) (classes_in more))
    Has-extension w row way stands consistent =
        let v = map (value_of w) (classes_in set) in
        let agree = and_left (agrees (w ++ of_row row)) (list_all (comparison_is_met normal more (w ++ of_row row)) normal.comparisons) consistent in
        subst (Has (flat_map (extensions_of rows normal accesses s set) (valued_rows normal set found))) (sym (after_is w row way))
        (Has-flat_map (extensions_of rows normal accesses s set) (valued_rows normal set found) v (extended_row normal accesses s set v (project columns row))
        (Has-before w row way consistent)
        (Has-map (extended_row normal accesses s set v) (filter (fits normal accesses s set v) (group_for rows normal accesses s set v)) (project columns row)
        (Has-filter (fits normal accesses s set v) (group_for rows normal accesses s set v) (project columns row) (Has-tuple w row way stands agree)
        (fits_if w row way agree))))

    there : (v : Row) → Has (some_valued normal more after) v
        → Has (filter (meets_bound normal more) (flat_map (extensions_of rows normal accesses s set) (valued_rows normal set found))) v
    there v h =
        let m = Has-from_map (λ w. map (value_of w) (classes_in more)) (filter (is_consistent normal more) after) v h in
        let f = Has-from_filter (is_consistent normal more) after m.0 m.1 in
        let p = split m.0 f.0 in
        let consistent = subst (λ w. is_consistent normal more w ≡ true) p.same f.1 in
        let met = and_right (agrees (p.before ++ of_row p.row)) (list_all (comparison_is_met normal more (p.before ++ of_row p.row)) normal.comparisons)
        consistent in
        let e = m.2 ∙ ap (λ w. map (value_of w) (classes_in more)) p.same in
        subst (Has (filter (meets_bound normal more) (flat_map (extensions_of rows normal accesses s set) (valued_rows normal set found)))) (sym e)
        (Has-filter (meets_bound normal more) (flat_map (extensions_of rows normal accesses s set) (valued_rows normal set found))
        (map (value_of (p.before ++ of_row p.row)) (classes_in more))
        (Has-extension p.before p.row p.way p.stands consistent)
        (subst (λ u. meets_bound normal more u ≡ true) (sym (after_is p.before p.row p.way)) (meets_if p.before p.row p.way met)))

  from_tuple : (v tuple : Row) → Way normal set found v → Has (group_for rows normal accesses s set v) tuple → fits normal accesses s set v tuple ≡ true
      → meets_bound normal more (extended_row normal accesses s set v tuple) ≡ true
      → Has (some_valued normal more after) (extended_row normal accesses s set v tuple)
  from_tuple v tuple w h fit met =
      let held = filter (λ r. same_row (project (access_in accesses s.access).key r) (key_for normal accesses s set v))
      (rows (access_in accesses s.access).table) in
      let d = Has-from_distinct row_cmp_total row_cmp_tells (map (project columns) held) tuple h in
      let m = Has-from_map (project columns) held tuple d in
      let f = Has-from_filter (λ r. same_row (project (access_in accesses s.access).key r) (key_for normal accesses s set v))
      (rows (access_in accesses s.access).table) m.0 m.1 in
      let u = map (value_of w.way) (classes_in set) in
      let e : extended_row normal accesses s set v tuple ≡ extended_row normal accesses s set u
      (project columns m.0) = ap (λ x. extended_row normal accesses s set x tuple) w.same ∙ ap (extended_row normal accesses s set u) m.2 in
      let fit_too = subst (λ t. fits normal accesses s set u t ≡ true) m.2 (subst (λ x. fits normal accesses s set x tuple ≡ true) w.same fit) in
      let met_too = subst (λ x. meets_bound normal more x ≡ true) e met in
      let agree = agrees_if w.way m.0 w.member (and_left (agrees w.way) (list_all (comparison_is_met normal set w.way) normal.comparisons) w.consistent)
      fit_too in
      let consistent = and_both (agrees (w.way ++ of_row m.0)) (list_all (comparison_is_met normal more (w.way ++ of_row m.0)) normal.comparisons) agree
      (met_if w.way m.0 w.member met_too) in
      subst (Has (some_valued normal more after)) (sym (e ∙ sym (after_is w.way m.0 w.member)))
      (Has-map (λ x. map (value_of x) (classes_in more)) (filter (is_consistent normal more) after) (w.way ++ of_row m.0)
      (Has-filter (is_consistent normal more) after (w.way ++ of_row m.0) (Has-after w.way m.0 w.member f.0) consistent))

  back : (v : Row) → Has (filter (meets_bound normal more) (flat_map (extensions_of rows normal accesses s set) (valued_rows normal set found))) v
      → Has (some_valued normal more after) v
  back v h =
      let f = Has-from_filter (meets_bound normal more) (flat_map (extensions_of rows normal accesses s set) (valued_rows normal set found)) v h in
      let x = Has-from_flat_map (extensions_of rows normal accesses s set) (valued_rows normal set found) v f.0 in
      let m = Has-from_map (extended_row normal accesses s set x.0) (filter (fits normal accesses s set x.0)
      (group_for rows normal accesses s set x.0)) v x.2 in
      let t = Has-from_filter (fits normal accesses s set x.0) (group_for rows normal accesses s set x.0) m.0 m.1 in
      subst (Has (some_valued normal more after)) (sym m.2)
      (from_tuple x.0 m.0 (way_from normal set found x.0 x.1) t.0 t.1 (subst (λ u. meets_bound normal more u ≡ true) m.2 f.1))

  pub step_is : key_is_bound normal accesses set s ≡ true
      → valued_rows normal (bound_by normal accesses set s) (with_row_for rows normal accesses found s) ≡ keep_met normal (bound_by normal accesses set s)
      (extensions rows normal accesses s set (valued_rows normal set found))
  step_is keyed =
      distinct_same row_cmp_total row_cmp_tells (some_valued normal more after)
      (filter (meets_bound normal more) (flat_map (extensions_of rows normal accesses s set) (valued_rows normal set found)))
      (λ v. (there keyed v, back v))
      ∙ sym (distinct-filter row_cmp_total row_cmp_tells (meets_bound normal more)
      (flat_map (extensions_of rows normal accesses s set) (valued_rows normal set found)))

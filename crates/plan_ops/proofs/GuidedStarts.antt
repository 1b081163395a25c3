-- How a guided block starts, row by row of its guide.
use Rattle.std.proofs.Common.{◌≡◌, ◌&&◌, ◌+◌, ◌<◌, ℕ, zero, suc, Bool, true, false, cond, List, [], ◌∷◌, ◌++◌, length, map, take, replicate, get_or, Some, inl, inr, refl, ap, sym, ◌∙◌, subst, arith, add-one, append_assoc}
use Rattle.std.specs.List.{All, filter, flat_map, list_all, slice_set, zip}
use Rattle.std.proofs.Math.Seq.{take-suc}
use Rattle.std.proofs.lemmas.List.{length-map, map-append, append-nil}
use Rattle.std.proofs.lemmas.List.Concat.{flat_map-append}
use Rattle.std.proofs.lemmas.List.Sums.{fold-append}
use Rattle.std.proofs.lemmas.Slice.Zip.{firsts-zip}
use Rattle.std.proofs.lemmas.List.Elements.{All-contains, All-from_recursion, filter-append}
use Rattle.beas_core.specs.declared.value.Value.{Value}
use Rattle.beas_core.specs.declared.query.Place.{Place}
use Rattle.beas_core.specs.declared.plan.Normal.{Normal}
use Rattle.beas_core.specs.Types.{Row, Binding, Bindings, ClassSet}
use Rattle.beas_core.specs.Order.{row_cmp, row_cmp_total}
use Rattle.beas_core.specs.Sets.{distinct}
use Rattle.beas_core.specs.Coverage.{place_class, output_classes, start_classes, ClassesInRange, ConstantsInRange}
use Rattle.beas_core.specs.Valuations.{starts, value_of, agrees, is_consistent, classes_in, comparison_is_met}
use Rattle.beas_core.proofs.Sets.{Has, Has-append_cases, Has-from_map, Has-from_distinct, Contains-from_has, all_from}
use Rattle.beas_core.proofs.ValueOrder.{row_cmp_tells}
use Rattle.beas_core.specs.Extensions.{meets_bound, keep_met}
use Rattle.beas_core.proofs.MemberTests.{Has-from_flat_map}
use Rattle.plan_ops.specs.Over.{set_of}
use Rattle.plan_ops.specs.Places.{place_of}
use Rattle.plan_ops.specs.Started.{one_row}
use Rattle.plan_ops.proofs.ConstantFacts.{meets_alike, classes_placed}

-- ---- the values of a row, place by place

zip_more : (f : Place → ℕ) (ps : List Place) (row : Row) (i : ℕ) (d : Place) (e : Value) → i < length ps → i < length row
    → zip (map f (take i ps)) (take i row) ++ (f (get_or ps i d), get_or row i e) ∷ [] ≡ zip (map f (take (suc i) ps)) (take (suc i) row)
zip_more f [] row i d e l m = absurd (omega (arith, l))
zip_more f (p ∷ ps) [] i d e l m = absurd (omega (arith, m))
zip_more f (p ∷ ps) (v ∷ row) zero d e l m = refl
zip_more f (p ∷ ps) (v ∷ row) (suc i) d e l m = ap (λ r. (f p, v) ∷ r) (zip_more f ps row i d e (omega (arith, l)) (omega (arith, m)))

pub equated_more : (normal : Normal) (own : Bindings) (row : Row) (i : ℕ) (d : Place) (e : Value) → i < length normal.output → i < length row
    → (class : ℕ) (v : Value) → class ≡ place_class normal (get_or normal.output i d) → v ≡ get_or row i e → (before after : Bindings)
    → before ≡ own ++ zip (map (place_class normal) (take i normal.output)) (take i row) → after ≡ before ++ (class, v) ∷ []
    → after ≡ own ++ zip (map (place_class normal) (take (i + 1) normal.output)) (take (i + 1) row)
equated_more normal own row i d e l m class v is_class is_value before after b a =
    let front = zip (map (place_class normal) (take i normal.output)) (take i row) in
    a ∙ ap (λ bs. bs ++ (class, v) ∷ []) b
    ∙ ap (λ c. (own ++ front) ++ (c, v) ∷ []) is_class
    ∙ ap (λ x. (own ++ front) ++ (place_class normal (get_or normal.output i d), x) ∷ []) is_value
    ∙ append_assoc own front ((place_class normal (get_or normal.output i d), get_or row i e) ∷ [])
    ∙ ap (λ bs. own ++ bs) (zip_more (place_class normal) normal.output row i d e l m)
    ∙ ap (λ n. own ++ zip (map (place_class normal) (take n normal.output)) (take n row)) (sym (add-one i))

-- ---- the bindings of one start

zip_key : (ks : List ℕ) (row : Row) (b : Binding) → Has (zip ks row) b → Has ks b.0
zip_key [] row b h = absurd h
zip_key (k ∷ ks) [] b h = absurd h
zip_key (k ∷ ks) (v ∷ row) b (inl e) = inl (ap (λ x. x.0) e)
zip_key (k ∷ ks) (v ∷ row) b (inr h) = inr (zip_key ks row b h)

module _ (normal : Normal) where
  abbrev pub keys : List ℕ
  keys = map (λ (b : Binding). b.0) normal.constants ++ output_classes normal

  pub start_set : set_of normal keys ≡ start_classes normal true
  start_set = fold-append (λ s c. slice_set s c true) (replicate normal.count false) (map (λ (b : Binding). b.0) normal.constants) (output_classes normal)

  pub keys_small : ConstantsInRange normal → ClassesInRange normal → All (λ class. class < normal.count) keys
  keys_small inside ranges = All-from_recursion (λ class. class < normal.count) keys (all_from (λ class. class < normal.count) keys (λ k h.
      elim (Has-append_cases (map (λ (b : Binding). b.0) normal.constants) (output_classes normal) k h) [
        | inl m ↦ (
            let b = Has-from_map (λ (b : Binding). b.0) normal.constants k m in
            subst (λ n. n < normal.count) (sym b.2) (All-contains (λ c. c.0 < normal.count) normal.constants b.0 inside
            (Contains-from_has normal.constants b.0 b.1)))
        | inr m ↦ (
            let p = Has-from_map (place_class normal) normal.output k m in
            subst (λ n. n < normal.count) (sym p.2) (ranges p.0.atom p.0.column))
      ]))

  abbrev pub start_of : Row → Bindings
  start_of row = normal.constants ++ zip (output_classes normal) row

  module _ (row : Row) (wide : length row ≡ length normal.output) where
    pub start_keys : map (λ (b : Binding). b.0) (start_of row) ≡ keys
    start_keys = map-append (λ (b : Binding). b.0) normal.constants (zip (output_classes normal) row)
        ∙ ap (λ ks. map (λ (b : Binding). b.0) normal.constants ++ ks)
        (firsts-zip (output_classes normal) row (wide ∙ sym (length-map normal.output (place_class normal))))

    pub start_small : ConstantsInRange normal → ClassesInRange normal → All (λ b. b.0 < normal.count) (start_of row)
    start_small inside ranges = All-from_recursion (λ b. b.0 < normal.count) (start_of row) (all_from (λ b. b.0 < normal.count) (start_of row) (λ b h.
        elim (Has-append_cases normal.constants (zip (output_classes normal) row) b h) [
          | inl k ↦ All-contains (λ c. c.0 < normal.count) normal.constants b inside (Contains-from_has normal.constants b k)
          | inr k ↦ (
              let m = Has-from_map (place_class normal) normal.output b.0 (zip_key (output_classes normal) row b k) in
              subst (λ n. n < normal.count) (sym m.2) (ranges m.0.atom m.0.column))
        ]))

    pub start_placed : All (λ class. place_of (map (λ c. c.0) (start_of row)) class < length (start_of row)) (classes_in (start_classes normal true))
    start_placed = subst (λ set. All (λ class. place_of (map (λ c. c.0) (start_of row)) class < length (start_of row)) (classes_in set))
        (ap (set_of normal) start_keys ∙ start_set) (classes_placed normal (start_of row))

  -- ---- all starts

  module _ (set : ClassSet) where
    abbrev values : Bindings → Row
    values w = map (value_of w) (classes_in set)

    kept_next : (w : Bindings) (rest : List Row) → keep_met normal set (one_row set w) ++ rest
        ≡ cond (is_consistent normal set w) (values w ∷ rest) rest
    kept_next w rest = by (agrees w) (list_all (comparison_is_met normal set w) normal.comparisons) (meets_alike normal set w)
      where
        by : (a m : Bool) → meets_bound normal set (values w) ≡ m
            → filter (meets_bound normal set) (cond a (values w ∷ []) []) ++ rest ≡ cond (a && m) (values w ∷ rest) rest
        by true true h = ap (λ b. cond b (values w ∷ []) [] ++ rest) h
        by true false h = ap (λ b. cond b (values w ∷ []) [] ++ rest) h
        by false m h = refl

    -- those starts whose valuation is kept are the consistent ones
    pub kept_starts : (ws : List Bindings) → keep_met normal set (flat_map (one_row set) ws) ≡ map values (filter (is_consistent normal set) ws)
    kept_starts [] = refl
    kept_starts (w ∷ ws) = filter-append (meets_bound normal set) (one_row set w) (flat_map (one_row set) ws)
        ∙ ap (λ rows. keep_met normal set (one_row set w) ++ rows) (kept_starts ws)
        ∙ kept_next w (map values (filter (is_consistent normal set) ws)) ∙ moved (is_consistent normal set w)
      where
        moved : (b : Bool) → cond b (values w ∷ map values (filter (is_consistent normal set) ws)) (map values (filter (is_consistent normal set) ws))
            ≡ map values (cond b (w ∷ filter (is_consistent normal set) ws) (filter (is_consistent normal set) ws))
        moved true = refl
        moved false = refl

pub starts_wide : (set : ClassSet) (ws : List Bindings) → All (λ row. length row ≡ length (classes_in set)) (flat_map (one_row set) ws)
starts_wide set ws = All-from_recursion (λ row. length row ≡ length (classes_in set)) (flat_map (one_row set) ws)
    (all_from (λ row. length row ≡ length (classes_in set)) (flat_map (one_row set) ws) (λ row h.
    let m = Has-from_flat_map (one_row set) ws row h in by m.0 row (agrees m.0) m.2))
  where
    by : (w : Bindings) (row : Row) (b : Bool) → Has (cond b (map (value_of w) (classes_in set) ∷ []) []) row → length row ≡ length (classes_in set)
    by w row true (inl e) = ap length e ∙ length-map (classes_in set) (value_of w)
    by w row true (inr n) = absurd n
    by w row false h = absurd h

pub distinct_wide : (n : ℕ) (rows : List Row) → All (λ row. length row ≡ n) rows → All (λ row. length row ≡ n) (distinct row_cmp rows)
distinct_wide n rows wide = All-from_recursion (λ row. length row ≡ n) (distinct row_cmp rows)
    (all_from (λ row. length row ≡ n) (distinct row_cmp rows) (λ row h.
    All-contains (λ row. length row ≡ n) rows row wide (Contains-from_has rows row (Has-from_distinct row_cmp_total row_cmp_tells rows row h))))

-- ---- one row more of the guide

pub started_more : (normal : Normal) (set : ClassSet) (answers : List Row) (i : ℕ) (row : Row) → i < length answers → row ≡ get_or answers i row
    → flat_map (one_row set) (starts normal (Some (take i answers))) ++ one_row set (start_of normal row)
    ≡ flat_map (one_row set) (starts normal (Some (take (i + 1) answers)))
started_more normal set answers i row l is =
    let front = map (start_of normal) (take i answers) in
    sym (ap (λ k. flat_map (one_row set) (map (start_of normal) (take k answers))) (add-one i)
    ∙ ap (λ rs. flat_map (one_row set) (map (start_of normal) rs)) (take-suc answers i row l ∙ ap (λ r. take i answers ++ r ∷ []) (sym is))
    ∙ ap (flat_map (one_row set)) (map-append (start_of normal) (take i answers) (row ∷ []))
    ∙ flat_map-append (one_row set) front (start_of normal row ∷ [])
    ∙ ap (λ rs. flat_map (one_row set) front ++ rs) (append-nil (one_row set (start_of normal row))))

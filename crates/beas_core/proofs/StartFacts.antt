-- The bindings that stand before a block's first step.
--     start_binds      they bind the start's classes
--     start_few        they give no more valuations than there are
use Rattle.std.proofs.Common.{◌≡◌, ◌<◌, ◌≤◌, ℕ, zero, suc, Bool, true, false, List, [], ◌∷◌, ◌++◌, length, map, replicate, Some, None, inl, inr, refl, ap, sym, ◌∙◌, subst, arith}
use Rattle.std.specs.Option.{is_some}
use Rattle.std.specs.List.{filter, zip}
use Rattle.std.proofs.lemmas.List.{length-replicate, length-map}
use Rattle.std.proofs.lemmas.List.Elements.{All-contains}
use Rattle.beas_core.specs.declared.plan.Normal.{Normal}
use Rattle.beas_core.specs.Types.{Row, Bindings, ClassSet, Guide}
use Rattle.beas_core.specs.Order.{row_cmp_total}
use Rattle.beas_core.specs.Coverage.{has, with_classes, place_class, constant_classes, output_classes, start_classes, ClassesInRange, ConstantsInRange}
use Rattle.beas_core.specs.Valuations.{value_of, is_consistent, classes_in, valued_rows, starts}
use Rattle.beas_core.proofs.Sets.{Has, Has-from_map, Contains-from_has, length-distinct-le}
use Rattle.beas_core.proofs.ValueOrder.{row_cmp_tells}
use Rattle.beas_core.specs.Guides.{GuideFits}
use Rattle.beas_core.proofs.ClassSetFacts.{length-with, has-with_cases, has-with_new}
use Rattle.beas_core.proofs.BindingFacts.{keys, Binds, Binds-with}
use Rattle.beas_core.proofs.SetSizes.{length-filter_le}
use Rattle.beas_core.proofs.StepExtends.{some_valued}

none_held : (n c : ℕ) → has (replicate n false) c ≡ true → ⊥
none_held zero c h = let e : false ≡ true = h in cc
none_held (suc n) zero h = let e : false ≡ true = h in cc
none_held (suc n) (suc c) h = none_held n c h

keys-zip : (cs : List ℕ) (row : Row) → length row ≡ length cs → keys (zip cs row) ≡ cs
keys-zip [] row e = refl
keys-zip (c ∷ cs) [] e = absurd (omega (arith, e))
keys-zip (c ∷ cs) (v ∷ row) e = ap (λ ks. c ∷ ks) (keys-zip cs row (omega arith))

module _ (normal : Normal) where
  constants_counted : length (constant_classes normal) ≡ normal.count
  constants_counted = length-with (map (λ k. k.0) normal.constants) (replicate normal.count false) ∙ length-replicate normal.count false

  pub start_counted : (is_guided : Bool) → length (start_classes normal is_guided) ≡ normal.count
  start_counted false = constants_counted
  start_counted true = length-with (output_classes normal) (constant_classes normal) ∙ constants_counted

  constants_bind : ConstantsInRange normal → Binds (constant_classes normal) normal.constants
  constants_bind inside = (
    λ c h. elim (has-with_cases (map (λ k. k.0) normal.constants) (replicate normal.count false) c h) [
      | inl k ↦ absurd (none_held normal.count c k)
      | inr k ↦ k
    ],
    λ c h. (
        let m = Has-from_map (λ k. k.0) normal.constants c h in
        let below = All-contains (λ k. k.0 < normal.count) normal.constants m.0 inside (Contains-from_has normal.constants m.0 m.1) in
        has-with_new (map (λ k. k.0) normal.constants) (replicate normal.count false) c h
        (subst (λ n. c < n) (sym (length-replicate normal.count false)) (subst (λ d. d < normal.count) (sym m.2) below))),
  )

  guided_binds : ClassesInRange normal → ConstantsInRange normal → (row : Row) → length row ≡ length normal.output
      → Binds (start_classes normal true) (normal.constants ++ zip (output_classes normal) row)
  guided_binds ranges inside row wide =
      let e = keys-zip (output_classes normal) row (wide ∙ sym (length-map normal.output (place_class normal))) in
      subst (λ cs. Binds (with_classes (constant_classes normal) cs) (normal.constants ++ zip (output_classes normal) row)) e
      (Binds-with (constant_classes normal) normal.constants (zip (output_classes normal) row) (λ c h.
      let m = Has-from_map (place_class normal) normal.output c (subst (λ cs. Has cs c) e h) in
      subst (λ n. c < n) (sym constants_counted) (subst (λ d. d < normal.count) (sym m.2) (ranges m.0.atom m.0.column)))
      (constants_bind inside))

  pub start_binds : ClassesInRange normal → ConstantsInRange normal → (guide : Guide) → GuideFits normal guide
      → (w : Bindings) → Has (starts normal guide) w → Binds (start_classes normal (is_some guide)) w
  start_binds ranges inside None fit w h = elim h [ inl e ↦ subst (Binds (constant_classes normal)) (sym e) (constants_bind inside) | inr n ↦ absurd n ]
  start_binds ranges inside (Some answers) fit w h =
      let m = Has-from_map (λ row. normal.constants ++ zip (output_classes normal) row) answers w h in
      let wide = All-contains (λ row. length row ≡ length normal.output) answers m.0 fit (Contains-from_has answers m.0 m.1) in
      subst (Binds (start_classes normal true)) (sym m.2) (guided_binds ranges inside m.0 wide)

  pub start_few : (set : ClassSet) (found : List Bindings) → length (valued_rows normal set found) ≤ length found
  start_few set found =
      let d = length-distinct-le row_cmp_total row_cmp_tells (some_valued normal set found) in
      let m = length-map (filter (is_consistent normal set) found) (λ w. map (value_of w) (classes_in set)) in
      let f = length-filter_le (is_consistent normal set) found in
      omega (arith, d, m, f)

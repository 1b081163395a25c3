-- When bindings of classes are consistent: with more bindings, and with others that give the bound classes the same values.
use Rattle.std.proofs.Common.{◌≡◌, ℕ, true, not, ◌++◌, inl, inr, refl, ap, sym, ◌∙◌}
use Rattle.std.specs.List.{list_all}
use Rattle.beas_core.specs.declared.value.Value.{Value}
use Rattle.beas_core.specs.declared.query.Place.{Place}
use Rattle.beas_core.specs.declared.query.Operand.{Operand}
use Rattle.beas_core.specs.declared.query.Operand.TheVariants.{At, Fixed}
use Rattle.beas_core.specs.declared.query.Comparison.{Comparison}
use Rattle.beas_core.specs.declared.plan.Normal.{Normal}
use Rattle.beas_core.specs.Types.{ClassSet, Bindings}
use Rattle.beas_core.specs.Order.{value_cmp}
use Rattle.beas_core.specs.Full.{same_value, comparison_holds, sign_holds, operand_value}
use Rattle.beas_core.specs.Coverage.{has, place_class, Within}
use Rattle.beas_core.specs.Valuations.{value_of, agrees, comparison_is_bound, operand_is_bound, comparison_is_met, is_consistent}
use Rattle.beas_core.proofs.Sets.{Has, Has-map, Has-append_left}
use Rattle.beas_core.proofs.MemberTests.{and_left, and_right, and_both, or_cases, or_left, or_right, from_not, which, all_has, all_by}
use Rattle.beas_core.proofs.BindingFacts.{keys, value-append_in}

-- a comparison of bound classes holds of two lists of bindings alike that give the classes the same values
pub compared_alike : (f g : Place → Value) (c : Comparison) → f c.left ≡ g c.left → operand_value f c.right ≡ operand_value g c.right
    → comparison_holds f c ≡ comparison_holds g c
compared_alike f g c l r = ap (λ v. sign_holds c.sign (value_cmp v (operand_value f c.right))) l ∙ ap (λ v. sign_holds c.sign (value_cmp (g c.left) v)) r

module _ (normal : Normal) (small large : ClassSet) (within : Within small large) (w more : Bindings) (binds : (c : ℕ) → has small c ≡ true
    → Has (keys w) c) where
  same_value_kept : (c : ℕ) → has small c ≡ true → value_of (w ++ more) c ≡ value_of w c
  same_value_kept c h = value-append_in w more c (binds c h)

  operand_bound_more : (o : Operand) → operand_is_bound normal small o ≡ true → operand_is_bound normal large o ≡ true
  operand_bound_more (At place) h = within (place_class normal place) h
  operand_bound_more (Fixed v) h = refl

  operand_kept : (o : Operand) → operand_is_bound normal small o ≡ true → operand_value (λ p. value_of (w ++ more) (place_class normal p)) o ≡ operand_value
      (λ p. value_of w (place_class normal p)) o
  operand_kept (At place) h = same_value_kept (place_class normal place) h
  operand_kept (Fixed v) h = refl

  met_before : (c : Comparison) → comparison_is_met normal large (w ++ more) c ≡ true → comparison_is_met normal small w c ≡ true
  met_before c h = elim (which (comparison_is_bound normal small c)) [
    | inr e ↦ or_left (not (comparison_is_bound normal small c)) (comparison_holds (λ p. value_of w (place_class normal p)) c) (ap not e)
    | inl e ↦ (
        let left = and_left (has small (place_class normal c.left)) (operand_is_bound normal small c.right) e in
        let right = and_right (has small (place_class normal c.left)) (operand_is_bound normal small c.right) e in
        let bound = and_both (has large (place_class normal c.left)) (operand_is_bound normal large c.right) (within (place_class normal c.left) left)
        (operand_bound_more c.right right) in
        let alike = compared_alike (λ p. value_of (w ++ more) (place_class normal p)) (λ p. value_of w (place_class normal p)) c
        (same_value_kept (place_class normal c.left) left) (operand_kept c.right right) in
        or_right (not (comparison_is_bound normal small c)) (comparison_holds (λ p. value_of w (place_class normal p)) c)
        (elim (or_cases (not (comparison_is_bound normal large c)) (comparison_holds (λ p. value_of (w ++ more) (place_class normal p)) c) h) [
          | inl open_one ↦ (let f = from_not (comparison_is_bound normal large c) open_one in cc)
          | inr held ↦ sym alike ∙ held
        ]))
  ]

  -- what is consistent with more bindings is so without them
  pub consistent_before : is_consistent normal large (w ++ more) ≡ true → is_consistent normal small w ≡ true
  consistent_before h =
      let agree = and_left (agrees (w ++ more)) (list_all (comparison_is_met normal large (w ++ more)) normal.comparisons) h in
      let met = and_right (agrees (w ++ more)) (list_all (comparison_is_met normal large (w ++ more)) normal.comparisons) h in
      and_both (agrees w) (list_all (comparison_is_met normal small w) normal.comparisons)
      (all_by (λ b. same_value b.1 (value_of w b.0)) w (λ b m.
      ap (same_value b.1) (sym (value-append_in w more b.0 (Has-map (λ d. d.0) w b m)))
      ∙ all_has (λ d. same_value d.1 (value_of (w ++ more) d.0)) (w ++ more) b agree (Has-append_left w more b m)))
      (all_by (comparison_is_met normal small w) normal.comparisons
      (λ c m. met_before c (all_has (comparison_is_met normal large (w ++ more)) normal.comparisons c met m)))

-- a comparison is met alike by bindings that give the bound classes the same values
module _ (normal : Normal) (set : ClassSet) (w v : Bindings) (alike : (c : ℕ) → has set c ≡ true → value_of w c ≡ value_of v c) where
  operand_alike : (o : Operand) → operand_is_bound normal set o ≡ true → operand_value (λ p. value_of w (place_class normal p)) o ≡ operand_value
      (λ p. value_of v (place_class normal p)) o
  operand_alike (At place) h = alike (place_class normal place) h
  operand_alike (Fixed fixed) h = refl

  pub met_alike : (c : Comparison) → comparison_is_met normal set w c ≡ true → comparison_is_met normal set v c ≡ true
  met_alike c h = elim (which (comparison_is_bound normal set c)) [
    | inr e ↦ or_left (not (comparison_is_bound normal set c)) (comparison_holds (λ p. value_of v (place_class normal p)) c) (ap not e)
    | inl e ↦ (
        let same = compared_alike (λ p. value_of w (place_class normal p)) (λ p. value_of v (place_class normal p)) c
        (alike (place_class normal c.left) (and_left (has set (place_class normal c.left)) (operand_is_bound normal set c.right) e))
        (operand_alike c.right (and_right (has set (place_class normal c.left)) (operand_is_bound normal set c.right) e)) in
        or_right (not (comparison_is_bound normal set c)) (comparison_holds (λ p. value_of v (place_class normal p)) c)
        (elim (or_cases (not (comparison_is_bound normal set c)) (comparison_holds (λ p. value_of w (place_class normal p)) c) h) [
          | inl open_one ↦ (let f = from_not (comparison_is_bound normal set c) open_one in cc)
          | inr held ↦ sym same ∙ held
        ]))
  ]

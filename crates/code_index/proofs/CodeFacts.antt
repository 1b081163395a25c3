-- Values that stand once each, by their places.
use Rattle.std.proofs.Common.{◌≡◌, ◌<◌, ℕ, Bool, true, false, cond, inl, inr, ◌⊎◌, List, length, get_or, true≢false, refl, ap, sym, ◌∙◌, arith}
use Rattle.std.specs.Prelude.{pos, Option, Some, None, slice_get, nat_lt}
use Rattle.std.specs.List.{IsDistinct, position_or_len}
use Rattle.std.specs.Cmp.{IsEquivalence}
use Rattle.std.proofs.lemmas.Cmp.{eq_by_cmp_equiv}
use Rattle.std.proofs.lemmas.Bool.{lt-ltb, cases_order}
use Rattle.std.proofs.lemmas.List.Sums.{position_or_len_is}
use Rattle.std.proofs.lemmas.Map.Keys.{apart_from_distinct}
use Rattle.std.specs.Option.{unwrap_or}
use Rattle.std.proofs.lemmas.Option.{get_or_from_slice_get, slice_get_within, unwrap_or-slice_get}
use Rattle.beas_core.specs.declared.value.Value.{Value}
use Rattle.beas_core.specs.declared.value.Value.TheVariants.{Int}
use Rattle.beas_core.specs.Hashing.{equal_from}
use Rattle.beas_core.specs.Order.{value_cmp, value_cmp_total}
use Rattle.beas_core.specs.Telling.{value_cmp_tells}
use Rattle.access_index.specs.Hashing.{or_zero}
use Rattle.code_index.specs.Codes.{same_value, code_of, value_of, AreDistinct}

pub same_laws : IsEquivalence same_value
same_laws = eq_by_cmp_equiv value_cmp_total

same_tells : (x y : Value) → same_value x y ≡ true → x ≡ y
same_tells x y e = value_cmp_tells x y (equal_from (value_cmp x y) e)

-- two places with one value are one place
pub are_distinct : (codes : List Value) → IsDistinct same_value codes → AreDistinct codes
are_distinct codes u i j d l m e = by (cases_order i j)
  where
    by : (i ≡ j) ⊎ ((i < j) ⊎ (j < i)) → i ≡ j
    by (inl same) = same
    by (inr (inl h)) =
        let alike = ap (same_value (get_or codes i d)) (sym e) ∙ same_laws.refl (get_or codes i d) in
        absurd (true≢false (sym alike ∙ apart_from_distinct same_value codes i j d u h m))
    by (inr (inr h)) =
        let alike = ap (same_value (get_or codes j d)) e ∙ same_laws.refl (get_or codes j d) in
        absurd (true≢false (sym alike ∙ apart_from_distinct same_value codes j i d u h l))

-- the place of a value is its code
pub code_at : (codes : List Value) (value found : Value) (i : ℕ) → AreDistinct codes → slice_get codes i ≡ Some found → same_value value found ≡ true
    → code_of codes value ≡ Some i
code_at codes value found i distinct e s =
    ap (λ (place : ℕ). cond (nat_lt place (length codes)) (Some place) None) first ∙ ap (λ b. cond b (Some i) None) (lt-ltb i (length codes) within)
  where
    within : i < length codes
    within = slice_get_within codes i found e

    at : (d : Value) → same_value value (get_or codes i d) ≡ true
    at d = ap (same_value value) (get_or_from_slice_get codes i found d e) ∙ s

    before : (k : ℕ) → k < i → (b : Bool) → same_value value (get_or codes k value) ≡ b → b ≡ false
    before k l false f = refl
    before k l true f =
        let same = sym (same_tells value (get_or codes k value) f) ∙ same_tells value (get_or codes i value) (at value) in
        let one = distinct k i value (omega (arith, l, within)) within same in absurd (omega (arith, l, one))

    first : position_or_len (same_value value) codes ≡ i
    first = position_or_len_is (same_value value) codes i value (omega (arith, within)) (λ k l. before k l (same_value value (get_or codes k value)) refl) (λ l. at value)

-- the value at a place, or else 0
pub zero_at : (codes : List Value) (i : ℕ) → or_zero (slice_get codes i) ≡ value_of codes i
zero_at codes i = same (slice_get codes i) ∙ unwrap_or-slice_get codes i (Int (pos 0))
  where
    same : (o : Option Value) → or_zero o ≡ unwrap_or o (Int (pos 0))
    same None = refl
    same (Some v) = refl

-- Pruned steps are sound, and their capped_number number is no greater.
use Rattle.std.proofs.Common.{◌≡◌, ◌+◌, ◌≤◌, ℕ, zero, suc, Bool, true, false, not, cond, nat_lt, List, [], ◌∷◌, length, take, drop, inl, inr, refl, sym, subst, arith}
use Rattle.std.specs.Bool.{IsTrue}
use Rattle.std.specs.List.{All}
use Rattle.std.proofs.lemmas.List.Elements.{All-contains, All-from_recursion}
use Rattle.beas_core.specs.declared.schema.Access.{Access}
use Rattle.beas_core.specs.declared.plan.DStep.{DStep}
use Rattle.beas_core.specs.declared.plan.Normal.{Normal}
use Rattle.beas_core.specs.Types.{ClassSet}
use Rattle.beas_core.specs.Derivations.{bound_by, is_live, is_sound, IsSound}
use Rattle.beas_core.proofs.Sets.{Has, Has-append_cases, all_from, Contains-from_has}
use Rattle.beas_core.proofs.MemberTests.{and_left, and_right, from_not}
use Rattle.beas_core.specs.Pruning.{with_adds, without, shorter, capped_number, may_go, pruned_at, pruned_below, pruned}

Has-take : {K : Type 0} (n : ℕ) (xs : List K) (y : K) → Has (take n xs) y → Has xs y
Has-take zero xs y h = absurd h
Has-take (suc n) [] y h = absurd h
Has-take (suc n) (x ∷ xs) y (inl e) = inl e
Has-take (suc n) (x ∷ xs) y (inr h) = inr (Has-take n xs y h)

Has-drop : {K : Type 0} (n : ℕ) (xs : List K) (y : K) → Has (drop n xs) y → Has xs y
Has-drop zero xs y h = h
Has-drop (suc n) [] y h = absurd h
Has-drop (suc n) (x ∷ xs) y h = inr (Has-drop n xs y h)

All-from_has : {K : Type 0} (P : K → Type 0) (xs : List K) → ((y : K) → Has xs y → P y) → All P xs
All-from_has P xs f = All-from_recursion P xs (all_from P xs f)

module _ (normal : Normal) (accesses : List Access) where
  live_with : (set : ClassSet) (steps : List DStep) → ((s : DStep) → Has steps s → IsTrue (is_live accesses s.access))
      → (s : DStep) → Has (with_adds normal accesses set steps) s → IsTrue (is_live accesses s.access)
  live_with set [] f s h = absurd h
  live_with set (t ∷ steps) f s (inl e) = subst (λ r. IsTrue (is_live accesses r.access)) (sym e) (f t (inl refl))
  live_with set (t ∷ steps) f s (inr h) = live_with (bound_by normal accesses set t) steps (λ r m. f r (inr m)) s h

  module _ (start : ClassSet) where
    at_is_sound : (n : ℕ) (steps : List DStep) → IsSound normal accesses start steps → IsSound normal accesses start (pruned_at normal accesses start n steps)
    at_is_sound n steps sound = by (may_go normal accesses start n steps) refl
      where
        less : List DStep
        less = shorter normal accesses start n steps

        live : (s : DStep) → Has less s → IsTrue (is_live accesses s.access)
        live = live_with start (without n steps) (λ s h. All-contains (λ r. IsTrue (is_live accesses r.access)) steps s sound.live
            (Contains-from_has steps s (elim (Has-append_cases (take n steps) (drop (n + 1) steps) s h) [
              | inl k ↦ Has-take n steps s k
              | inr k ↦ Has-drop (n + 1) steps s k
            ])))

        by : (b : Bool) → may_go normal accesses start n steps ≡ b → IsSound normal accesses start (cond b less steps)
        by true e = record {
          live = All-from_has (λ s. IsTrue (is_live accesses s.access)) less live;
          sound = and_left (is_sound normal accesses start less) (not (nat_lt (capped_number accesses steps) (capped_number accesses less))) e;
        }
        by false e = sound

    at_is_no_greater : (n : ℕ) (steps : List DStep) → capped_number accesses (pruned_at normal accesses start n steps) ≤ capped_number accesses steps
    at_is_no_greater n steps = by (may_go normal accesses start n steps) refl
      where
        less : List DStep
        less = shorter normal accesses start n steps

        by : (b : Bool) → may_go normal accesses start n steps ≡ b → capped_number accesses (cond b less steps) ≤ capped_number accesses steps
        by true e =
            let t = and_right (is_sound normal accesses start less) (not (nat_lt (capped_number accesses steps) (capped_number accesses less))) e in
            not_less (capped_number accesses steps) (capped_number accesses less) (from_not (nat_lt (capped_number accesses steps) (capped_number accesses less)) t)
          where
            not_less : (a b : ℕ) → nat_lt a b ≡ false → b ≤ a
            not_less a b h = grind (arith, h)
        by false e = omega arith

    below_is_sound : (n : ℕ) (steps : List DStep) → IsSound normal accesses start steps → IsSound normal accesses start (pruned_below normal accesses start n steps)
    below_is_sound zero steps sound = sound
    below_is_sound (suc n) steps sound = below_is_sound n (pruned_at normal accesses start n steps) (at_is_sound n steps sound)

    below_is_no_greater : (n : ℕ) (steps : List DStep) → capped_number accesses (pruned_below normal accesses start n steps) ≤ capped_number accesses steps
    below_is_no_greater zero steps = omega arith
    below_is_no_greater (suc n) steps =
        let h = below_is_no_greater n (pruned_at normal accesses start n steps) in
        let k = at_is_no_greater n steps in
        omega (arith, h, k)

    pub pruned_sound : (steps : List DStep) → IsSound normal accesses start steps → IsSound normal accesses start (pruned normal accesses start steps)
    pruned_sound steps sound = below_is_sound (length steps) steps sound

    pub pruned_no_greater : (steps : List DStep) → capped_number accesses (pruned normal accesses start steps) ≤ capped_number accesses steps
    pruned_no_greater steps = below_is_no_greater (length steps) steps

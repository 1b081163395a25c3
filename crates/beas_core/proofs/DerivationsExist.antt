-- A derivation exists exactly where the block is covered.
use Rattle.std.proofs.Common.{◌≡◌, ◌&&◌, ◌<◌, ◌≤◌, ◌+◌, ℕ, zero, suc, Bool, true, false, cond, List, [], ◌∷◌, ◌++◌, length, Option, Some, None, inl, inr, refl, ap, sym, ◌∙◌, subst, arith}
use Rattle.std.specs.Option.{option_map, is_some}
use Rattle.beas_core.specs.declared.schema.Access.{Access}
use Rattle.beas_core.specs.declared.plan.DStep.{DStep}
use Rattle.beas_core.specs.declared.plan.Normal.{Normal}
use Rattle.beas_core.specs.declared.plan.NotCovered.{NotCovered}
use Rattle.beas_core.specs.Types.{ClassSet, Use}
use Rattle.beas_core.specs.Coverage.{has, holds_classes, key_classes, fetched_classes, class_at, uses, Within, IsClosed, is_covered, covered_set, reason, atoms_of, ClassesInRange}
use Rattle.beas_core.specs.Derivations.{member_classes, bound_after, adds_class, step_of, with_use, enabled_uses, least_bound, then_step, adding_steps, serving_steps, greedy_steps}
use Rattle.beas_core.specs.Pruning.{derivation, pruned}
use Rattle.beas_core.specs.Groups.{member_columns}
use Rattle.beas_core.specs.Shapes.{EachIdOnce}
use Rattle.beas_core.proofs.Sets.{Has, Has-filter, Has-from_filter, Has-from_map, Has-map, Has-append_right, Has-append_cases, Has-from_contains, Contains-from_has}
use Rattle.beas_core.proofs.ReasonFacts.{reason-covered, covered-reason}
use Rattle.beas_core.proofs.MemberTests.{and_left, and_right, and_both, from_not, to_not, which, all_has, not_all_has}
use Rattle.beas_core.proofs.ClassSetFacts.{has_below, has-with_kept, has-with_new, has-with_cases, length-with, holds-within, trues, all_true, trues_more}
use Rattle.beas_core.proofs.CoveredSetFacts.{covered_set_least, length-covered}
use Rattle.beas_core.proofs.UseFacts.{least_has, least_none}
use Rattle.beas_core.proofs.SoundDerivations.{covered_within, bound_step, added}

module _ (normal : Normal) (accesses : List Access) where
  -- a use whose key a closed set holds adds nothing to it
  use_within : (set other : ClassSet) (u : Use) → Within set other → IsClosed normal accesses other → Has (uses normal accesses) u
      → holds_classes set (key_classes normal u) ≡ true → Within (with_use normal set u) other
  use_within set other u w closed h keys c g = elim (has-with_cases (member_classes normal u) set c g) [
    | inl k ↦ w c k
    | inr k ↦ (
        let m = Has-from_map (class_at normal u.atom) (member_columns u.access) c k in
        let keys_too = holds-within set other (key_classes normal u) w keys in
        let fetched = closed u (Contains-from_has (uses normal accesses) u h) keys_too in
        ap (has other) m.2 ∙ elim (Has-append_cases u.access.key u.access.fetched m.0 m.1) [
          | inl i ↦ all_has (has other) (key_classes normal u) (class_at normal u.atom m.0) keys_too (Has-map (class_at normal u.atom) u.access.key m.0 i)
          | inr i ↦ all_has (has other) (fetched_classes normal u) (class_at normal u.atom m.0) fetched
              (Has-map (class_at normal u.atom) u.access.fetched m.0 i)
        ])
  ]

  module _ (once : EachIdOnce accesses) (other : ClassSet) (closed : IsClosed normal accesses other) where
    -- the classes bound by adding steps stay within a closed set
    reached : (n : ℕ) (set : ClassSet) (steps : List DStep) → Within set other → adding_steps n normal accesses set ≡ Some steps
        → Within (bound_after normal accesses set steps) other
    reached zero set steps w h = by (is_covered normal accesses set) h
      where
        by : (b : Bool) → cond b (Some []) None ≡ Some steps → Within (bound_after normal accesses set steps) other
        by true g = let same : [] ≡ steps = cc in subst (λ ss. Within (bound_after normal accesses set ss) other) same w
        by false g = cc
    reached (suc n) set steps w h = by (is_covered normal accesses set) h (reached n)
      where
        one : (u : Use) (o : Option (List DStep)) → Has (enabled_uses normal accesses set) u
            → ((rest : List DStep) → Within (with_use normal set u) other → o ≡ Some rest
            → Within (bound_after normal accesses (with_use normal set u) rest) other)
            → option_map (λ rest. step_of normal set u ∷ rest) o ≡ Some steps → Within (bound_after normal accesses set steps) other
        one u None m later g = cc
        one u (Some rest) m later g =
            let f = Has-from_filter (λ v. holds_classes set (key_classes normal v) && adds_class normal set v) (uses normal accesses) u m in
            let same : step_of normal set u ∷ rest ≡ steps = cc in
            let keys = and_left (holds_classes set (key_classes normal u)) (adds_class normal set u) f.1 in
            let inside = later rest (use_within set other u w closed f.0 keys) refl in
            subst (λ ss. Within (bound_after normal accesses set ss) other) same
            (subst (λ s. Within (bound_after normal accesses s rest) other) (sym (bound_step normal accesses once set u f.0)) inside)

        pick : (o : Option Use) → least_bound (enabled_uses normal accesses set) ≡ o
            → ((s : ClassSet) (rest : List DStep) → Within s other → adding_steps n normal accesses s ≡ Some rest
            → Within (bound_after normal accesses s rest) other)
            → then_step o None (λ u. option_map (λ rest. step_of normal set u ∷ rest) (adding_steps n normal accesses (with_use normal set u))) ≡ Some steps
            → Within (bound_after normal accesses set steps) other
        pick None e later g = cc
        pick (Some u) e later g = one u (adding_steps n normal accesses (with_use normal set u)) (least_has (enabled_uses normal accesses set) u e)
            (later (with_use normal set u)) g

        by : (b : Bool)
            → cond b (Some []) (then_step (least_bound (enabled_uses normal accesses set)) None
            (λ u. option_map (λ rest. step_of normal set u ∷ rest) (adding_steps n normal accesses (with_use normal set u)))) ≡ Some steps
            → ((s : ClassSet) (rest : List DStep) → Within s other → adding_steps n normal accesses s ≡ Some rest
            → Within (bound_after normal accesses s rest) other)
            → Within (bound_after normal accesses set steps) other
        by true g later = let same : [] ≡ steps = cc in subst (λ ss. Within (bound_after normal accesses set ss) other) same w
        by false g later = pick (least_bound (enabled_uses normal accesses set)) refl later g

  module _ (ranges : ClassesInRange normal) (start : ClassSet) (starts : length start ≡ normal.count)
      (covered : is_covered normal accesses (covered_set normal accesses start) ≡ true) where
    -- a set that holds the start and that no use adds to is covered
    stuck_is_covered : (set : ClassSet) → Within start set → enabled_uses normal accesses set ≡ [] → is_covered normal accesses set ≡ true
    stuck_is_covered set w none =
        covered_within normal accesses (covered_set normal accesses start) set ((covered_set_least normal accesses start starts ranges).least set w shut)
        covered
      where
        shut : IsClosed normal accesses set
        shut u m keys = elim (which (holds_classes set (fetched_classes normal u))) [
          | inl e ↦ e
          | inr e ↦ absurd (subst (λ us. Has us u) none (Has-filter (λ v. holds_classes set (key_classes normal v) && adds_class normal set v)
              (uses normal accesses) u
              (Has-from_contains (uses normal accesses) u m)
              (and_both (holds_classes set (key_classes normal u)) (adds_class normal set u) keys
              (to_not (holds_classes set (fetched_classes normal u)) e))))
        ]

    full_is_covered : (set : ClassSet) → length set ≡ normal.count → normal.count ≤ trues set → is_covered normal accesses set ≡ true
    full_is_covered set e many = covered_within normal accesses (covered_set normal accesses start) set
        (λ c h. all_true set c (subst (λ n. n ≤ trues set) (sym e) many)
        (subst (λ n. c < n) (length-covered normal accesses start starts ∙ sym e) (has_below (covered_set normal accesses start) c h)))
        covered

    grows : (set : ClassSet) (u : Use) → length set ≡ normal.count → adds_class normal set u ≡ true → trues set < trues (with_use normal set u)
    grows set u e h =
        let r = not_all_has (has set) (fetched_classes normal u) (from_not (holds_classes set (fetched_classes normal u)) h) in
        let m = Has-from_map (class_at normal u.atom) u.access.fetched r.0 r.1 in
        let member = subst (Has (member_classes normal u)) (sym m.2)
        (Has-map (class_at normal u.atom) (member_columns u.access) m.0 (Has-append_right u.access.key u.access.fetched m.0 m.1)) in
        let below = subst (λ n. r.0 < n) (sym e) (subst (λ k. k < normal.count) (sym m.2) (ranges u.atom m.0)) in
        trues_more set (with_use normal set u) (sym (length-with (member_classes normal u) set)) (λ c g. has-with_kept (member_classes normal u) set c g) r.0
        (has-with_new (member_classes normal u) set r.0 member below) r.2

    exists : (n : ℕ) (set : ClassSet) → length set ≡ normal.count → Within start set → normal.count ≤ n + trues set
        → is_some (adding_steps n normal accesses set) ≡ true
    exists zero set e w many = ap (λ b. is_some {T = List DStep} (cond b (Some []) None)) (full_is_covered set e (omega arith))
    exists (suc n) set e w many = by (is_covered normal accesses set) refl (exists n)
      where
        mapped : (u : Use) (o : Option (List DStep)) → is_some o ≡ true → is_some (option_map (λ rest. step_of normal set u ∷ rest) o) ≡ true
        mapped u None h = h
        mapped u (Some rest) h = refl

        pick : (o : Option Use) → is_covered normal accesses set ≡ false → least_bound (enabled_uses normal accesses set) ≡ o
            → ((s : ClassSet) → length s ≡ normal.count → Within start s → normal.count ≤ n + trues s → is_some (adding_steps n normal accesses s) ≡ true)
            → is_some (then_step o None (λ u. option_map (λ rest. step_of normal set u ∷ rest) (adding_steps n normal accesses (with_use normal set u)))) ≡ true
        pick None b h later = let g = stuck_is_covered set w (least_none (enabled_uses normal accesses set) h) in cc
        pick (Some u) b h later =
            let f = Has-from_filter (λ v. holds_classes set (key_classes normal v) && adds_class normal set v) (uses normal accesses) u
            (least_has (enabled_uses normal accesses set) u h) in
            let more = grows set u e (and_right (holds_classes set (key_classes normal u)) (adds_class normal set u) f.1) in
            mapped u (adding_steps n normal accesses (with_use normal set u))
            (later (with_use normal set u) (length-with (member_classes normal u) set ∙ e) (λ c g. has-with_kept (member_classes normal u) set c (w c g))
            (omega arith))

        by : (b : Bool) → is_covered normal accesses set ≡ b
            → ((s : ClassSet) → length s ≡ normal.count → Within start s → normal.count ≤ n + trues s → is_some (adding_steps n normal accesses s) ≡ true)
            → is_some (cond b (Some [])
            (then_step (least_bound (enabled_uses normal accesses set)) None
            (λ u. option_map (λ rest. step_of normal set u ∷ rest) (adding_steps n normal accesses (with_use normal set u))))) ≡ true
        by true h later = refl
        by false h later = pick (least_bound (enabled_uses normal accesses set)) h refl later

  greedy_exists : ClassesInRange normal → (start : ClassSet) → length start ≡ normal.count
      → is_covered normal accesses (covered_set normal accesses start) ≡ true
      → is_some (greedy_steps normal accesses start) ≡ true
  unfolding greedy_steps
  greedy_exists ranges start starts covered = by (adding_steps normal.count normal accesses start)
      (exists ranges start starts covered normal.count start starts (λ c h. h) (omega arith))
    where
      by : (o : Option (List DStep)) → is_some o ≡ true
          → is_some (option_map (λ steps. steps ++ serving_steps normal accesses steps (bound_after normal accesses start steps) (atoms_of normal)) o) ≡ true
      by None h = h
      by (Some steps) h = refl

  greedy_only_if : EachIdOnce accesses → ClassesInRange normal → (start : ClassSet) → length start ≡ normal.count
      → is_some (greedy_steps normal accesses start) ≡ true → is_covered normal accesses (covered_set normal accesses start) ≡ true
  unfolding greedy_steps
  greedy_only_if once ranges start starts h = by (adding_steps normal.count normal accesses start) refl h
    where
      by : (o : Option (List DStep)) → adding_steps normal.count normal accesses start ≡ o
          → is_some (option_map (λ steps. steps ++ serving_steps normal accesses steps (bound_after normal accesses start steps) (atoms_of normal)) o) ≡ true
          → is_covered normal accesses (covered_set normal accesses start) ≡ true
      by None e g = cc
      by (Some steps) e g =
          let least = covered_set_least normal accesses start starts ranges in
          let inside = reached once (covered_set normal accesses start) least.closed normal.count start steps least.from_start e in
          covered_within normal accesses (bound_after normal accesses start steps) (covered_set normal accesses start) inside
          (added normal accesses once normal.count start steps e).1

  -- there are steps before any is dropped exactly where there are some after
  is_some-pruned : (start : ClassSet) → is_some (derivation normal accesses start) ≡ is_some (greedy_steps normal accesses start)
  unfolding derivation
  is_some-pruned start = by (greedy_steps normal accesses start)
    where
      by : (o : Option (List DStep)) → is_some (option_map (pruned normal accesses start) o) ≡ is_some o
      by None = refl
      by (Some steps) = refl

  pub derivation_exists : ClassesInRange normal → (start : ClassSet) → length start ≡ normal.count
      → is_covered normal accesses (covered_set normal accesses start) ≡ true
      → is_some (derivation normal accesses start) ≡ true
  derivation_exists ranges start starts covered = is_some-pruned start ∙ greedy_exists ranges start starts covered

  pub derivation_only_if : EachIdOnce accesses → ClassesInRange normal → (start : ClassSet) → length start ≡ normal.count
      → is_some (derivation normal accesses start) ≡ true → is_covered normal accesses (covered_set normal accesses start) ≡ true
  derivation_only_if once ranges start starts h = greedy_only_if once ranges start starts (sym (is_some-pruned start) ∙ h)

  -- a derivation is lacking exactly where there is a reason
  module _ (once : EachIdOnce accesses) (ranges : ClassesInRange normal) (start : ClassSet) (starts : length start ≡ normal.count) where
    pub reason_if_lacking : derivation normal accesses start ≡ None → is_some (reason normal accesses (covered_set normal accesses start)) ≡ true
    reason_if_lacking none = by (reason normal accesses (covered_set normal accesses start)) refl
      where
        by : (o : Option NotCovered) → reason normal accesses (covered_set normal accesses start) ≡ o → is_some o ≡ true
        by None e =
            let there = derivation_exists ranges start starts (reason-covered normal accesses (covered_set normal accesses start) e) in
            let lacks = ap is_some none in
            cc
        by (Some why) e = refl

    pub lacking_if_reason : is_some (reason normal accesses (covered_set normal accesses start)) ≡ true → derivation normal accesses start ≡ None
    lacking_if_reason some = by (derivation normal accesses start) refl
      where
        by : (o : Option (List DStep)) → derivation normal accesses start ≡ o → o ≡ None
        by None e = refl
        by (Some steps) e =
            let covered = derivation_only_if once ranges start starts (ap is_some e) in
            let lacks = ap is_some (covered-reason normal accesses (covered_set normal accesses start) covered) in
            cc

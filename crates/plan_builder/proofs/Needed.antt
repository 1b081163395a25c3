-- Each atom needs a step: of no more steps than atoms none may go.
use Rattle.std.proofs.Common.{◌≡◌, ◌&&◌, ◌==◌, ◌+◌, ◌<◌, ◌≤◌, ℕ, zero, suc, true, List, [], ◌∷◌, length, map, take, drop, inl, inr, refl, ap, sym, ◌∙◌, subst, arith}
use Rattle.std.proofs.lemmas.Bool.{eqb-true}
use Rattle.std.proofs.lemmas.List.{length-append, length-drop, length-map, length-take}
use Rattle.beas_core.specs.declared.schema.Access.{Access}
use Rattle.beas_core.specs.declared.plan.DStep.{DStep}
use Rattle.beas_core.specs.declared.plan.Normal.{Normal}
use Rattle.beas_core.specs.Types.{ClassSet, Use}
use Rattle.beas_core.specs.Coverage.{atoms_of, holds_needed}
use Rattle.beas_core.specs.Derivations.{use_of, IsSound}
use Rattle.beas_core.specs.Pruning.{pruned}
use Rattle.beas_core.proofs.Sets.{Has, Has-map}
use Rattle.beas_core.proofs.BindingFacts.{Has-range}
use Rattle.beas_core.proofs.MemberTests.{all_has, and_left, and_right, any_has, which}
use Rattle.beas_core.proofs.SoundParts.{sound_parts}
use Rattle.plan_builder.specs.Plans.{served_among}
use Rattle.plan_builder.specs.Trials.{all_are_served, are_sound, binds_needed, keys_are_bound, set_after, steps_from, uses_pruned_at, uses_pruned_below, uses_without}
use Rattle.plan_builder.proofs.Drops.{left_by_uses, nothing_new, with_adds_steps}
use Rattle.plan_builder.proofs.DropTurns.{not_sound}

one_out : (xs : List ℕ) (x : ℕ) → Has xs x
    → (rest : List ℕ) × (length xs ≡ suc (length rest)) × ((y : ℕ) → Has xs y → (y ≡ x → ⊥) → Has rest y)
one_out [] x h = absurd h
one_out (z ∷ zs) x (inl e) = (zs, refl, λ y g other. elim g [ inl d ↦ absurd (other (d ∙ sym e)) | inr k ↦ k ])
one_out (z ∷ zs) x (inr h) =
    let r = one_out zs x h in
    (z ∷ r.0, ap suc r.1, λ y g other. elim g [ inl d ↦ inl d | inr k ↦ inr (r.2 y k other) ])

-- a list that has all numbers below n is at least that long
has_all : (n : ℕ) (xs : List ℕ) → ((a : ℕ) → a < n → Has xs a) → n ≤ length xs
has_all zero xs h = omega arith
has_all (suc n) xs h =
    let r = one_out xs n (h n (omega arith)) in
    let fewer = has_all n r.0 (λ a l. r.2 a (h a (omega (arith, l))) (λ e. omega (arith, l, e))) in
    let long = r.1 in
    omega (arith, fewer, long)

length-without : {A : Type 0} (n : ℕ) (xs : List A) → n < length xs → length (uses_without n xs) < length xs
length-without n xs l =
    let both = length-append (take n xs) (drop (n + 1) xs) in
    let before = length-take n xs in
    let after = length-drop (n + 1) xs in
    omega (arith, both, before, after, l)

module _ (normal : Normal) where
  atoms_few : (us : List Use) → all_are_served normal us ≡ true → length normal.atoms ≤ length us
  atoms_few us all =
      let atoms = map (λ (u : Use). u.atom) us in
      let long = length-map us (λ (u : Use). u.atom) in
      let fits = has_all (length normal.atoms) atoms (λ a l.
      let served = all_has (λ atom. served_among normal atom us) (atoms_of normal) a all
      (Has-range (length normal.atoms) 0 a (omega arith) (omega (arith, l))) in
      let r = any_has (λ (u : Use). (u.atom == a) && holds_needed normal u) us served in
      subst (Has atoms) (eqb-true r.0.atom a (and_left (r.0.atom == a) (holds_needed normal r.0) r.2)) (Has-map (λ (u : Use). u.atom) us r.0 r.1)) in
      omega (arith, fits, long)

  module _ (start : ClassSet) where
    stays : (n : ℕ) (us : List Use) → n < length us → length us ≤ length normal.atoms → us ≡ uses_pruned_at normal start n us
    stays n us l few = elim (which (are_sound normal start (uses_without n us))) [
      | inl h ↦ (
          let less = uses_without n us in
          let atoms = atoms_few less (and_right (keys_are_bound normal start less && binds_needed normal (set_after normal start less))
          (all_are_served normal less) h) in
          let fewer = length-without n us l in
          absurd (omega (arith, atoms, fewer, few)))
      | inr h ↦ not_sound normal start us n h
    ]

    none_goes : (n : ℕ) (us : List Use) → n ≤ length us → length us ≤ length normal.atoms → us ≡ uses_pruned_below normal start n us
    none_goes zero us l few = refl
    none_goes (suc n) us l few =
        none_goes n us (omega (arith, l)) few ∙ ap (uses_pruned_below normal start n) (stays n us (omega (arith, l)) few)

    pub all_stay : (accesses : List Access) (steps : List DStep) → IsSound normal accesses start steps → length steps ≤ length normal.atoms
        → steps ≡ pruned normal accesses start steps
    all_stay accesses steps sound few =
        let us = map (use_of accesses) steps in
        let parts = sound_parts normal accesses start steps sound.sound in
        let long = length-map steps (use_of accesses) in
        nothing_new normal accesses start steps parts.each.adds ∙ with_adds_steps normal accesses start steps
        ∙ ap (steps_from normal start) (none_goes (length us) us (omega arith) (omega (arith, few, long)))
        ∙ left_by_uses normal accesses start steps sound

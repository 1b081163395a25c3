-- Each probe of a query is of a step of its block's derivation.
use Rattle.std.proofs.Common.{◌≡◌, ◌<◌, ◌+◌, ◌++◌, ℕ, Bool, List, [], ◌∷◌, length, map, Some, inl, inr, ap, sym, subst, arith, length-append}
use Rattle.beas_core.specs.declared.schema.Access.{Access}
use Rattle.beas_core.specs.declared.plan.DStep.{DStep}
use Rattle.beas_core.specs.declared.plan.Derivation.{Derivation}
use Rattle.beas_core.specs.declared.plan.Normal.{Normal}
use Rattle.beas_core.specs.Types.{Row, TableRows, Guide}
use Rattle.beas_core.specs.Classes.{normal_of}
use Rattle.beas_core.specs.Guiding.{after}
use Rattle.beas_core.specs.Queries.{BlockProbe, answers, guide_of, plan_of, probes_in}
use Rattle.beas_core.specs.Reads.{Probe, keys_after, probes, probes_after}
use Rattle.beas_core.specs.Trees.{QueryTree, Single, Either, Minus}
use Rattle.beas_core.proofs.Sets.{Has, Has-append_cases, Has-from_map}

module _ (rows : TableRows) (accesses : List Access) where
  step_within : (normal : Normal) (guide : Guide) (done steps : List DStep) (p : Probe) → Has (probes_after rows normal accesses guide done steps) p
      → p.step < length done + length steps
  step_within normal guide done [] p h = absurd h
  step_within normal guide done (s ∷ steps) p h =
      let here : Row → Probe = λ key. record { step = length done; key = key } in
      elim (Has-append_cases (map here (keys_after rows normal accesses guide done s))
      (probes_after rows normal accesses guide (done ++ s ∷ []) steps) p h) [
        | inl k ↦
            let found = Has-from_map here (keys_after rows normal accesses guide done s) p k in
            let step : p.step ≡ length done = ap (λ (x : Probe). x.step) found.2 in
            omega (arith, step)
        | inr k ↦
            let later = step_within normal guide (done ++ s ∷ []) steps p k in
            let long = length-append done (s ∷ []) in
            omega (arith, later, long)
      ]

  module _ (guided : List Bool) (plans : List Derivation) where
    pub probe_within : (n : ℕ) (guide : Guide) (t : QueryTree) (p : BlockProbe) → Has (probes_in rows accesses guided plans n guide t) p
        → p.probe.step < length (plan_of plans p.block).steps
    probe_within n guide (Single block) p h =
        let here : Probe → BlockProbe = λ probe. record { block = n; probe = probe } in
        let found = Has-from_map here (probes rows (normal_of block) accesses (guide_of guided n guide) (plan_of plans n).steps) p h in
        let inside = step_within (normal_of block) (guide_of guided n guide) [] (plan_of plans n).steps found.0 found.1 in
        subst (λ (x : BlockProbe). x.probe.step < length (plan_of plans x.block).steps) (sym found.2) (omega (arith, inside))
    probe_within n guide (Either l r) p h =
        elim (Has-append_cases (probes_in rows accesses guided plans n guide l) (probes_in rows accesses guided plans (after n l) guide r) p h) [
          | inl k ↦ probe_within n guide l p k
          | inr k ↦ probe_within (after n l) guide r p k
        ]
    probe_within n guide (Minus l r) p h =
        elim (Has-append_cases (probes_in rows accesses guided plans n guide l)
        (probes_in rows accesses guided plans (after n l) (Some (answers rows guided n guide l)) r) p h) [
          | inl k ↦ probe_within n guide l p k
          | inr k ↦ probe_within (after n l) (Some (answers rows guided n guide l)) r p k
        ]

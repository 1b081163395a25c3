-- A probe that is due: it fits beside those that were made, none of which stands twice.
use Rattle.std.proofs.Common.{◌≡◌, ◌+◌, ◌<◌, ◌≤◌, ℕ, List, [], ◌∷◌, length, max, inl, inr, refl, ap, sym, ◌∙◌, subst, arith}
use Rattle.std.specs.List.{sum_by}
use Rattle.std.specs.Cmp.{IsTotalOrder}
use Rattle.std.specs.declared.cmp.Ordering.{Ordering}
use Rattle.std.specs.declared.cmp.Ordering.TheVariants.{Less}
use Rattle.std.proofs.lemmas.List.{length-map}
use Rattle.std.proofs.lemmas.List.Sums.{sum_by-cons}
use Rattle.beas_core.specs.declared.schema.Access.{Access}
use Rattle.beas_core.specs.Types.{Row}
use Rattle.beas_core.specs.Order.{TellsApart}
use Rattle.beas_core.specs.Sets.{IsInOrder}
use Rattle.beas_core.specs.Reads.{Probe, probe_reads}
use Rattle.beas_core.proofs.Sets.{Has, Contains-from_has, all_at, not_less_itself, not_less_both}
use Rattle.block_walk.specs.Worlds.{World, Fetched, made, AgreesWith}
use Rattle.block_walk.specs.Routes.{Route, all_probes}
use Rattle.block_walk.specs.Turns.{share, fetched_reads, IsWithin}
use Rattle.block_walk.proofs.SumFacts.{same_sums}
use Rattle.block_walk.proofs.OrderFacts.{probe_tells, probe_total}
use Rattle.block_walk.proofs.ProbeOrder.{probes_in_order}
use Rattle.block_walk.specs.declared.walking.Walk.{Walk}
use Rattle.block_walk.specs.Walks.{fetched_in, IsTidy, WasMade, IsProbe, IsWalk}

-- ---- a part of a set, and a member that isn't in the part

member_within : {K : Type 0} (f : K → ℕ) (ys : List K) (p : K) → Has ys p → f p ≤ sum_by f ys
member_within f [] p h = absurd h
member_within f (y ∷ ys) p (inl e) = let a = ap f e in let q = sum_by-cons f y ys in omega (arith, a, q)
member_within f (y ∷ ys) p (inr h) = let a = member_within f ys p h in let q = sum_by-cons f y ys in omega (arith, a, q)

module _ {K : Type 0} {cmp : K → K → Ordering} (o : IsTotalOrder cmp) (tells : TellsApart cmp) (f : K → ℕ) where
  -- where both begin alike
  after_first : (x : K) (xs : List K) (y : K) (ys : List K) → IsInOrder cmp (x ∷ xs) → ((z : K) → Has (x ∷ xs) z → Has (y ∷ ys) z) → x ≡ y
      → (z : K) → Has xs z → Has ys z
  after_first x xs y ys a into e z h = elim (into z (inr h)) [
    | inl d ↦ absurd (not_less_itself o tells x z (e ∙ sym d) (all_at (λ w. cmp x w ≡ Less) xs z a.0 h))
    | inr g ↦ g
  ]

  never : (x : K) (xs : List K) (y : K) → IsInOrder cmp (x ∷ xs) → (z : K) → z ≡ y → Has (x ∷ xs) z → cmp y x ≡ Less → ⊥
  never x xs y a z d (inl e) l = not_less_itself o tells y x (sym d ∙ e) l
  never x xs y a z d (inr h) l = not_less_both o tells y x l (subst (λ w. cmp x w ≡ Less) d (all_at (λ w. cmp x w ≡ Less) xs z a.0 h))

  -- where the part begins later
  all_later : (x : K) (xs : List K) (y : K) (ys : List K) → IsInOrder cmp (x ∷ xs) → IsInOrder cmp (y ∷ ys) → ((z : K) → Has (x ∷ xs) z → Has (y ∷ ys) z)
      → Has ys x → (z : K) → Has (x ∷ xs) z → Has ys z
  all_later x xs y ys a b into g z h = elim (into z h) [
    | inl d ↦ absurd (never x xs y a z d h (all_at (λ w. cmp y w ≡ Less) ys x b.0 g))
    | inr k ↦ k
  ]

  sum_within : (xs ys : List K) → IsInOrder cmp xs → IsInOrder cmp ys → ((y : K) → Has xs y → Has ys y) → sum_by f xs ≤ sum_by f ys
  sum_within [] ys a b into = omega arith
  sum_within (x ∷ xs) [] a b into = absurd (into x (inl refl))
  sum_within (x ∷ xs) (y ∷ ys) a b into =
      let p = sum_by-cons f x xs in
      let q = sum_by-cons f y ys in
      elim (into x (inl refl)) [
        | inl e ↦ (
            let rest = sum_within xs ys a.1 b.1 (after_first x xs y ys a into e) in
            let same = ap f e in
            omega (arith, p, q, rest, same))
        | inr g ↦ (
            let rest = sum_within (x ∷ xs) ys a b.1 (all_later x xs y ys a b into g) in
            omega (arith, q, rest))
      ]

  pub beside : (xs ys : List K) (p : K) → IsInOrder cmp xs → IsInOrder cmp ys → ((y : K) → Has xs y → Has ys y) → Has ys p → (Has xs p → ⊥)
      → sum_by f xs + f p ≤ sum_by f ys
  beside [] [] p a b into there new = absurd there
  beside [] (y ∷ ys) p a b into there new = let m = member_within f (y ∷ ys) p there in omega (arith, m)
  beside (x ∷ xs) [] p a b into there new = absurd there
  beside (x ∷ xs) (y ∷ ys) p a b into there new =
      let s = sum_by-cons f x xs in
      let t = sum_by-cons f y ys in
      elim (into x (inl refl)) [
        | inl e ↦ elim there [
          | inl d ↦ absurd (new (inl (d ∙ sym e)))
          | inr g ↦ (
              let rest = beside xs ys p a.1 b.1 (after_first x xs y ys a into e) g (λ h. new (inr h)) in
              let same = ap f e in
              omega (arith, s, t, rest, same))
        ]
        | inr k ↦ elim there [
          | inl d ↦ (
              let rest = sum_within (x ∷ xs) ys a b.1 (all_later x xs y ys a b into k) in
              let same = ap f d in
              omega (arith, t, rest, same))
          | inr g ↦ (
              let rest = beside (x ∷ xs) ys p a b.1 (all_later x xs y ys a b into k) g new in
              omega (arith, t, rest))
        ]
      ]

ones : {K : Type 0} (xs : List K) → sum_by (λ x. 1) xs ≡ length xs
ones [] = refl
ones (x ∷ xs) = let a = sum_by-cons (λ y. 1) x xs in let b = ones xs in omega (arith, a, b)

-- ---- of a walk

-- what was fetched counted as the world counts it
counted : (w : World) (r : Route) (fetched : List Fetched) → AgreesWith w r.steps fetched → fetched_reads fetched ≡ sum_by (share w r) (made fetched)
counted w r fetched agree = same_sums (λ (f : Fetched). max 1 (length f.tuples)) (share w r) (λ (f : Fetched). f.probe) fetched (λ f m.
    let a = agree f (Contains-from_has fetched f m) in
    sym (ap (λ (c : Access). probe_reads w.rows c f.probe.key) a.access ∙ ap (λ (ts : List Row). max 1 (length ts)) a.tuples))

module _ (w : World) (r : Route) (walk : Walk) (tidy : IsTidy r walk) (is : IsWalk w r walk) (agree : AgreesWith w r.steps (fetched_in walk)) (p : Probe)
    (wanted : IsProbe w r p) (not_made : WasMade (fetched_in walk) p → ⊥) where
  beside_made : (f : Probe → ℕ) → sum_by f (made (fetched_in walk)) + f p ≤ sum_by f (all_probes w r)
  beside_made f = beside probe_total probe_tells f (made (fetched_in walk)) (all_probes w r) p tidy.ordered
      (probes_in_order w.rows r.normal w.accesses r.guide r.steps) (λ q h. is.probes_only q (inl h)) wanted not_made

  pub fewer : length (fetched_in walk) < length (all_probes w r)
  fewer =
      let a = beside_made (λ q. 1) in
      let b = ones (made (fetched_in walk)) in
      let c = ones (all_probes w r) in
      let d = length-map (fetched_in walk) (λ (f : Fetched). f.probe) in
      omega (arith, a, b, c, d)

  pub within : IsWithin w r (fetched_in walk) p
  within =
      let a = beside_made (share w r) in
      let b = counted w r (fetched_in walk) agree in
      omega (arith, a, b)

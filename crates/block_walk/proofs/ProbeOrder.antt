-- The probes of a derivation stand in order, so that none stands twice.
use Rattle.std.proofs.Common.{◌≡◌, ◌≤◌, ◌<◌, ℕ, List, [], ◌∷◌, ◌++◌, length, map, inl, inr, refl, ap, sym, ◌∙◌, subst, arith, length-append}
use Rattle.std.specs.Ordering.{nat_cmp, ordering_then, MatchOrdering}
use Rattle.std.proofs.lemmas.Cmp.{tied_itself, ranked, nat_cmp_total}
use Rattle.std.specs.declared.cmp.Ordering.{Ordering}
use Rattle.std.specs.declared.cmp.Ordering.TheVariants.{Less, Equal, Greater}
use Rattle.beas_core.specs.declared.schema.Access.{Access}
use Rattle.beas_core.specs.declared.plan.DStep.{DStep}
use Rattle.beas_core.specs.declared.plan.Normal.{Normal}
use Rattle.beas_core.specs.Types.{Row, TableRows, Guide}
use Rattle.beas_core.specs.Order.{row_cmp, row_cmp_total}
use Rattle.beas_core.specs.Sets.{IsInOrder}
use Rattle.std.specs.Option.{is_some}
use Rattle.beas_core.specs.Coverage.{start_classes}
use Rattle.beas_core.specs.Derivations.{bound_after}
use Rattle.beas_core.specs.Valuations.{valuations}
use Rattle.beas_core.specs.Reads.{Probe, key_for, keys_after, probes_after, probes}
use Rattle.beas_core.proofs.Sets.{Has, Has-from_map, Has-append_cases, Has-append_right, all_at, all_from, IsInOrder-distinct}
use Rattle.beas_core.proofs.ValueOrder.{row_cmp_tells}
use Rattle.block_walk.specs.Worlds.{probe_cmp}

IsInOrder-append : {K : Type 0} (cmp : K → K → Ordering) (xs ys : List K) → IsInOrder cmp xs → IsInOrder cmp ys
    → ((x y : K) → Has xs x → Has ys y → cmp x y ≡ Less) → IsInOrder cmp (xs ++ ys)
IsInOrder-append cmp [] ys a b f = b
IsInOrder-append cmp (x ∷ xs) ys a b f = (
  all_from (λ y. cmp x y ≡ Less) (xs ++ ys) (λ y h. elim (Has-append_cases xs ys y h) [
    | inl k ↦ all_at (λ z. cmp x z ≡ Less) xs y a.0 k
    | inr k ↦ f x y (inl refl) k
  ]),
  IsInOrder-append cmp xs ys a.1 b (λ z y h g. f z y (inr h) g),
)

same_step : (n : ℕ) (a b : Row) → row_cmp a b ≡ Less → ordering_then (nat_cmp n n) (row_cmp a b) ≡ Less
same_step n a b h = ap (λ d. ordering_then d (row_cmp a b)) (level n) ∙ h
  where
    level : (m : ℕ) → nat_cmp m m ≡ Equal
    level m = tied_itself nat_cmp_total m

less_step : (m n : ℕ) (d : Ordering) → m < n → ordering_then (nat_cmp m n) d ≡ Less
less_step m n d l = ap (λ c. ordering_then c d) (below m n l)
  where
    below : (a b : ℕ) → a < b → nat_cmp a b ≡ Less
    below a b h = by (nat_cmp a b) refl (ranked a b (nat_cmp a b) refl)
      where
        by : (c : Ordering) → nat_cmp a b ≡ c → MatchOrdering c (a < b) (a ≡ b) (b < a) → nat_cmp a b ≡ Less
        by Less e g = e
        by Equal e g = absurd (omega (arith, g, h))
        by Greater e g = absurd (omega (arith, g, h))

IsInOrder-probes_at : (n : ℕ) (keys : List Row) → IsInOrder row_cmp keys → IsInOrder probe_cmp (map (λ key. record { step = n; key = key }) keys)
IsInOrder-probes_at n [] h = tt
IsInOrder-probes_at n (k ∷ keys) h = (
  all_from (λ q. probe_cmp (record { step = n; key = k }) q ≡ Less) (map (λ key. record { step = n; key = key }) keys) (λ q m.
      let r = Has-from_map (λ key. record { step = n; key = key }) keys q m in
      subst (λ p. probe_cmp (record { step = n; key = k }) p ≡ Less) (sym r.2) (same_step n k r.0 (all_at (λ y. row_cmp k y ≡ Less) keys r.0 h.0 r.1))),
  IsInOrder-probes_at n keys h.1,
)

module _ (rows : TableRows) (normal : Normal) (accesses : List Access) (guide : Guide) where
  later : (done steps : List DStep) (p : Probe) → Has (probes_after rows normal accesses guide done steps) p → length done ≤ p.step
  later done [] p h = absurd h
  later done (s ∷ steps) p h =
      elim (Has-append_cases (map (λ key. record { step = length done; key = key }) (keys_after rows normal accesses guide done s))
      (probes_after rows normal accesses guide (done ++ s ∷ []) steps) p h) [
        | inl k ↦ (
            let m = Has-from_map (λ key. record { step = length done; key = key }) (keys_after rows normal accesses guide done s) p k in
            subst (λ q. length done ≤ q.step) (sym m.2) (omega arith))
        | inr k ↦ (
            let l = later (done ++ s ∷ []) steps p k in
            let c = length-append done (s ∷ []) in
            omega (arith, l, c))
      ]

  in_order : (done steps : List DStep) → IsInOrder probe_cmp (probes_after rows normal accesses guide done steps)
  in_order done [] = tt
  in_order done (s ∷ steps) =
      let keys = keys_after rows normal accesses guide done s in
      IsInOrder-append probe_cmp (map (λ key. record { step = length done; key = key }) keys)
      (probes_after rows normal accesses guide (done ++ s ∷ []) steps)
      (IsInOrder-probes_at (length done) keys (IsInOrder-distinct row_cmp_total row_cmp_tells
      (map (key_for normal accesses s (bound_after normal accesses (start_classes normal (is_some guide)) done)) (valuations rows normal accesses guide done))))
      (in_order (done ++ s ∷ []) steps) (λ p q h g.
      let m = Has-from_map (λ key. record { step = length done; key = key }) keys p h in
      let l = later (done ++ s ∷ []) steps q g in
      let c = length-append done (s ∷ []) in
      let t = ap (λ x. x.step) m.2 in
      less_step p.step q.step (row_cmp p.key q.key) (omega (arith, l, c, t)))

  pub probes_in_order : (steps : List DStep) → IsInOrder probe_cmp (probes rows normal accesses guide steps)
  probes_in_order steps = in_order [] steps

-- what stands after others in order isn't among them
pub in_order_once : (xs zs : List Probe) (y : Probe) → IsInOrder probe_cmp (xs ++ y ∷ zs) → Has xs y → ⊥
in_order_once [] zs y o h = absurd h
in_order_once (x ∷ xs) zs y o (inr h) = in_order_once xs zs y o.1 h
in_order_once (x ∷ xs) zs y o (inl e) =
    let less = all_at (λ w. probe_cmp x w ≡ Less) (xs ++ y ∷ zs) y o.0 (Has-append_right xs (y ∷ zs) y (inl refl)) in
    let tied : probe_cmp x x ≡ Equal = ap (λ d. ordering_then d (row_cmp x.key x.key)) (tied_itself nat_cmp_total x.step)
    ∙ tied_itself row_cmp_total x.key in
    let same = ap (probe_cmp x) e in
    cc

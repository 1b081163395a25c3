-- What was fetched, put in order: its members, how many they are, and what they counted.
use Rattle.std.proofs.Common.{◌≡◌, ◌+◌, ◌<◌, ℕ, List, [], ◌∷◌, ◌++◌, length, map, max, ◌⊎◌, inl, inr, refl, ap, sym, ◌∙◌, subst, arith}
use Rattle.std.specs.Cmp.{IsTotalOrder}
use Rattle.std.specs.List.{fold}
use Rattle.std.specs.Ordering.{nat_cmp, ordering_then, MatchOrdering}
use Rattle.std.specs.declared.cmp.Ordering.{Ordering}
use Rattle.std.specs.declared.cmp.Ordering.TheVariants.{Less, Equal, Greater}
use Rattle.std.proofs.lemmas.Cmp.{ranked, nat_cmp_total, on_total, then_total}
use Rattle.std.proofs.lemmas.List.Sums.{fold-append, sum_by-cons}
use Rattle.beas_core.specs.Order.{row_cmp, row_cmp_total, TellsApart}
use Rattle.beas_core.specs.Reads.{Probe}
use Rattle.beas_core.specs.Sets.{by_order, IsInOrder}
use Rattle.beas_core.proofs.Sets.{Has, Has-map, Has-from_map, all_at, all_from, less_from_greater}
use Rattle.beas_core.proofs.ValueOrder.{row_cmp_tells}
use Rattle.block_walk.specs.Worlds.{Fetched, in_order, made, probe_cmp, put_in}
use Rattle.block_walk.specs.Routes.{probe_at}
use Rattle.block_walk.specs.Kept.{Entry}
use Rattle.block_walk.specs.Entries.{entries_in}
use Rattle.block_walk.specs.declared.walking.Walk.{Walk}
use Rattle.block_walk.specs.Walks.{WasMade, fetched_at, fetched_in}
use Rattle.block_walk.specs.Turns.{fetched_reads}

-- ---- order

pub probe_total : IsTotalOrder probe_cmp
probe_total = then_total (on_total (λ (p : Probe). p.step) nat_cmp_total) (on_total (λ (p : Probe). p.key) row_cmp_total)

same_number : (a b : ℕ) → nat_cmp a b ≡ Equal → a ≡ b
same_number a b h = by (nat_cmp a b) h (ranked a b (nat_cmp a b) refl)
  where
    by : (c : Ordering) → c ≡ Equal → MatchOrdering c (a < b) (a ≡ b) (b < a) → a ≡ b
    by Less e g = cc
    by Equal e g = g
    by Greater e g = cc

pub probe_tells : TellsApart probe_cmp
probe_tells p q h = by (nat_cmp p.step q.step) refl (row_cmp p.key q.key) refl h
  where
    by : (d : Ordering) → nat_cmp p.step q.step ≡ d → (f : Ordering) → row_cmp p.key q.key ≡ f → ordering_then d f ≡ Equal → p ≡ q
    by Less a f b t = cc
    by Greater a f b t = cc
    by Equal a f b t =
        let first = same_number p.step q.step a in
        let second = row_cmp_tells p.key q.key (b ∙ t) in
        ap (λ n. probe_at n p.key) first ∙ ap (probe_at q.step) second

-- ---- one more

pub Has-put : (f : Fetched) (fs : List Fetched) → Has (put_in f fs) f
Has-put f [] = inl refl
Has-put f (g ∷ gs) = by (probe_cmp f.probe g.probe) (Has-put f gs)
  where
    by : (d : Ordering) → Has (put_in f gs) f → Has (by_order d (f ∷ g ∷ gs) (f ∷ g ∷ gs) (g ∷ put_in f gs)) f
    by Less h = inl refl
    by Equal h = inl refl
    by Greater h = inr h

pub Has-put_old : (f : Fetched) (fs : List Fetched) (x : Fetched) → Has fs x → Has (put_in f fs) x
Has-put_old f [] x h = absurd h
Has-put_old f (g ∷ gs) x h = by (probe_cmp f.probe g.probe) h (Has-put_old f gs x)
  where
    by : (d : Ordering) → Has (g ∷ gs) x → (Has gs x → Has (put_in f gs) x) → Has (by_order d (f ∷ g ∷ gs) (f ∷ g ∷ gs) (g ∷ put_in f gs)) x
    by Less m rest = inr m
    by Equal m rest = inr m
    by Greater (inl e) rest = inl e
    by Greater (inr m) rest = inr (rest m)

pub Has-from_put : (f : Fetched) (fs : List Fetched) (x : Fetched) → Has (put_in f fs) x → (x ≡ f) ⊎ Has fs x
Has-from_put f [] x h = h
Has-from_put f (g ∷ gs) x h = by (probe_cmp f.probe g.probe) h (Has-from_put f gs x)
  where
    by : (d : Ordering) → Has (by_order d (f ∷ g ∷ gs) (f ∷ g ∷ gs) (g ∷ put_in f gs)) x → (Has (put_in f gs) x → (x ≡ f) ⊎ Has gs x)
        → (x ≡ f) ⊎ Has (g ∷ gs) x
    by Less m rest = m
    by Equal m rest = m
    by Greater (inl e) rest = inr (inl e)
    by Greater (inr m) rest = elim (rest m) [ inl e ↦ inl e | inr k ↦ inr (inr k) ]

pub length-put : (f : Fetched) (fs : List Fetched) → length (put_in f fs) ≡ length fs + 1
length-put f [] = refl
length-put f (g ∷ gs) = by (probe_cmp f.probe g.probe) (length-put f gs)
  where
    by : (d : Ordering) → length (put_in f gs) ≡ length gs + 1 → length (by_order d (f ∷ g ∷ gs) (f ∷ g ∷ gs) (g ∷ put_in f gs)) ≡ length (g ∷ gs) + 1
    by Less l = omega arith
    by Equal l = omega arith
    by Greater l = omega (arith, l)

pub reads-put : (f : Fetched) (fs : List Fetched) → fetched_reads (put_in f fs) ≡ fetched_reads fs + max 1 (length f.tuples)
reads-put f [] = refl
reads-put f (g ∷ gs) = by (probe_cmp f.probe g.probe) (reads-put f gs)
  where
    reads : Fetched → ℕ
    reads x = max 1 (length x.tuples)

    by : (d : Ordering) → fetched_reads (put_in f gs) ≡ fetched_reads gs + max 1 (length f.tuples)
        → fetched_reads (by_order d (f ∷ g ∷ gs) (f ∷ g ∷ gs) (g ∷ put_in f gs)) ≡ fetched_reads (g ∷ gs) + max 1 (length f.tuples)
    by Less l = let a = sum_by-cons reads f (g ∷ gs) in omega (arith, a)
    by Equal l = let a = sum_by-cons reads f (g ∷ gs) in omega (arith, a)
    by Greater l = let a = sum_by-cons reads g (put_in f gs) in let b = sum_by-cons reads g gs in omega (arith, l, a, b)

-- where it is new, the probes stay in order
pub IsInOrder-put : (f : Fetched) (fs : List Fetched) → IsInOrder probe_cmp (made fs) → (WasMade fs f.probe → ⊥) → IsInOrder probe_cmp (made (put_in f fs))
IsInOrder-put f [] h new = (tt, tt)
IsInOrder-put f (g ∷ gs) h new = by (probe_cmp f.probe g.probe) refl (IsInOrder-put f gs h.1 (λ m. new (inr m)))
  where
    by : (d : Ordering) → probe_cmp f.probe g.probe ≡ d → IsInOrder probe_cmp (made (put_in f gs))
        → IsInOrder probe_cmp (made (by_order d (f ∷ g ∷ gs) (f ∷ g ∷ gs) (g ∷ put_in f gs)))
    by Less e rest = (
      (
        e,
        all_from (λ y. probe_cmp f.probe y ≡ Less) (made gs) (λ y m.
            probe_total.trans f.probe g.probe y e (all_at (λ z. probe_cmp g.probe z ≡ Less) (made gs) y h.0 m)),
      ),
      h,
    )
    by Equal e rest = absurd (new (inl (probe_tells f.probe g.probe e)))
    by Greater e rest = (
      all_from (λ y. probe_cmp g.probe y ≡ Less) (made (put_in f gs)) (λ y m.
          let x = Has-from_map (λ (z : Fetched). z.probe) (put_in f gs) y m in
          subst (λ p. probe_cmp g.probe p ≡ Less) (sym x.2) (elim (Has-from_put f gs x.0 x.1) [
            | inl d ↦ subst (λ (z : Fetched). probe_cmp g.probe z.probe ≡ Less) (sym d) (less_from_greater probe_total probe_tells f.probe g.probe e)
            | inr k ↦ all_at (λ z. probe_cmp g.probe z ≡ Less) (made gs) x.0.probe h.0 (Has-map (λ (z : Fetched). z.probe) gs x.0 k)
          ])),
      rest,
    )

-- ---- all of them

Has-folded : (fs gs : List Fetched) (x : Fetched) → Has gs x ⊎ Has fs x → Has (fold (λ hs f. put_in f hs) gs fs) x
Has-folded [] gs x (inl h) = h
Has-folded [] gs x (inr n) = absurd n
Has-folded (f ∷ fs) gs x (inl h) = Has-folded fs (put_in f gs) x (inl (Has-put_old f gs x h))
Has-folded (f ∷ fs) gs x (inr (inl e)) = Has-folded fs (put_in f gs) x (inl (subst (Has (put_in f gs)) (sym e) (Has-put f gs)))
Has-folded (f ∷ fs) gs x (inr (inr h)) = Has-folded fs (put_in f gs) x (inr h)

Has-from_folded : (fs gs : List Fetched) (x : Fetched) → Has (fold (λ hs f. put_in f hs) gs fs) x → Has gs x ⊎ Has fs x
Has-from_folded [] gs x h = inl h
Has-from_folded (f ∷ fs) gs x h = elim (Has-from_folded fs (put_in f gs) x h) [
  | inl k ↦ elim (Has-from_put f gs x k) [ inl e ↦ inr (inl e) | inr m ↦ inl m ]
  | inr k ↦ inr (inr k)
]

pub in_order_more : (fs : List Fetched) (f : Fetched) → in_order (fs ++ f ∷ []) ≡ put_in f (in_order fs)
in_order_more fs f = fold-append (λ hs g. put_in g hs) [] fs (f ∷ [])

-- what a walk has fetched are its entries
pub fetched_here : (walk : Walk) (e : Entry) → Has (entries_in walk.known) e → Has (fetched_in walk) (fetched_at walk.stages.items e)
fetched_here walk e h = Has-folded (map (fetched_at walk.stages.items) (entries_in walk.known)) [] (fetched_at walk.stages.items e)
    (inr (Has-map (fetched_at walk.stages.items) (entries_in walk.known) e h))

pub fetched_from : (walk : Walk) (f : Fetched) → Has (fetched_in walk) f → (e : Entry) × (Has (entries_in walk.known) e) × (f ≡ fetched_at walk.stages.items e)
fetched_from walk f h = elim (Has-from_folded (map (fetched_at walk.stages.items) (entries_in walk.known)) [] f h) [
  | inl n ↦ absurd n
  | inr m ↦ Has-from_map (fetched_at walk.stages.items) (entries_in walk.known) f m
]

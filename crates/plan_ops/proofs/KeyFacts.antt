-- A binary search finds a row that stands among rows in order.
use Rattle.std.proofs.Common.{◌≡◌, ◌≤◌, ℕ, List, get_or, Ok, Err, Contains, inl, inr, refl, ap, sym, ◌∙◌, arith}
use Rattle.std.specs.declared.cmp.Ordering.{Ordering}
use Rattle.std.specs.declared.cmp.Ordering.TheVariants.{Less, Equal, Greater}
use Rattle.std.specs.Ordering.{ordering_index}
use Rattle.std.specs.List.Sorted.{IsBinarySearchResult, IsNonDecreasingBy}
use Rattle.std.proofs.lemmas.Cmp.{tied_itself}
use Rattle.beas_core.specs.Types.{Row}
use Rattle.beas_core.specs.Order.{row_cmp, row_cmp_total}
use Rattle.beas_core.specs.Sets.{IsInOrder}
use Rattle.beas_core.proofs.Sets.{IsInOrder-at}
use Rattle.beas_core.proofs.ValueOrder.{row_cmp_tells}
use Rattle.plan_ops.proofs.PlaceFacts.{same_or_below, below_or_not}

at_most_two : (o : Ordering) → ordering_index o ≤ 2
at_most_two Less = omega arith
at_most_two Equal = omega arith
at_most_two Greater = omega arith

rank : (x y k : Row) → row_cmp x y ≡ Less → ordering_index (row_cmp x k) ≤ ordering_index (row_cmp y k)
rank x y k l = by (row_cmp y k) refl
  where
    by : (r : Ordering) → row_cmp y k ≡ r → ordering_index (row_cmp x k) ≤ ordering_index r
    by Less e = let less = ap ordering_index (row_cmp_total.trans x y k l e) in omega (arith, less)
    by Equal e = let less = ap ordering_index (ap (row_cmp x) (sym (row_cmp_tells y k e)) ∙ l) in omega (arith, less)
    by Greater e = at_most_two (row_cmp x k)

ranks_rise : (keys : List Row) (k : Row) → IsInOrder row_cmp keys → IsNonDecreasingBy (λ y. ordering_index (row_cmp y k)) keys
ranks_rise keys k o i j d l m = elim (same_or_below i j l) [
  | inl e ↦ (let same = ap (λ n. ordering_index (row_cmp (get_or keys n d) k)) e in omega (arith, same))
  | inr b ↦ rank (get_or keys i d) (get_or keys j d) k (IsInOrder-at row_cmp keys i j d o b m)
]

pub found_key : (keys : List Row) (k : Row) (i : ℕ) (d : Row) → IsBinarySearchResult (λ y. row_cmp y k) keys (Ok i) → get_or keys i d ≡ k
found_key keys k i d h = row_cmp_tells (get_or keys i d) k (h d)

pub always_found : (keys : List Row) (k : Row) (i : ℕ) → IsInOrder row_cmp keys → Contains keys k
    → IsBinarySearchResult (λ y. row_cmp y k) keys (Err i) → ⊥
always_found keys k i o there h =
    let split = h (ranks_rise keys k o) in
    let at = there.0 in
    let tied : row_cmp (get_or keys at k) k ≡ Equal = ap (λ x. row_cmp x k) there.2 ∙ tied_itself row_cmp_total k in
    elim (below_or_not at i) [
      | inl b ↦ (let less = split.0 at k (omega arith) b in cc)
      | inr b ↦ (let greater = split.1 at k b there.1 in cc)
    ]

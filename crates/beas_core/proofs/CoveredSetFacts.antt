-- The covered set is the least closed set that holds the start.
use Rattle.std.proofs.Common.{◌≡◌, ◌==◌, ◌&&◌, ◌||◌, ◌<◌, ◌≤◌, ℕ, zero, suc, Bool, true, false, List, length, ◌⊎◌, inl, inr, refl, ap, sym, ◌∙◌, subst, arith, zero-add, eq-eqb}
use Rattle.std.specs.List.{list_any}
use Rattle.std.proofs.lemmas.List.FromFn.{length-map-range_with_len, get_or-map-range_with_len}
use Rattle.std.proofs.lemmas.Bool.{eqb-true}
use Rattle.beas_core.specs.declared.schema.Access.{Access}
use Rattle.beas_core.specs.declared.plan.Normal.{Normal}
use Rattle.beas_core.specs.Types.{ClassSet, Use}
use Rattle.beas_core.specs.Coverage.{has, holds_classes, key_classes, fetched_classes, class_at, uses, grow, grow_times, covered_set, Within, IsClosed, IsLeastClosed, ClassesInRange}
use Rattle.beas_core.proofs.Sets.{Has-from_map, Has-from_contains, Contains-from_has}
use Rattle.beas_core.proofs.MemberTests.{and_left, and_right, and_both, or_cases, or_left, or_right, any_has, any_by, all_has, all_by}
use Rattle.beas_core.proofs.ClassSetFacts.{has_below, holds-within, trues, all_true, trues_more, compared}

module _ (normal : Normal) (accesses : List Access) where
  -- whether one use of a constraint adds a class to a set
  abbrev adds : ClassSet → ℕ → Use → Bool
  adds set c u = holds_classes set (key_classes normal u) && list_any (λ d. d == c) (fetched_classes normal u)

  abbrev after : ClassSet → ℕ → Bool
  after set c = has set c || list_any (adds set c) (uses normal accesses)

  length-grow : (set : ClassSet) → length (grow normal accesses set) ≡ normal.count
  length-grow set = length-map-range_with_len (after set) 0 normal.count

  has-grow : (set : ClassSet) (c : ℕ) → c < normal.count → has (grow normal accesses set) c ≡ after set c
  has-grow set c l = get_or-map-range_with_len (after set) 0 normal.count c c false l (zero-add c)

  grow_below : (set : ClassSet) (c : ℕ) → has (grow normal accesses set) c ≡ true → c < normal.count
  grow_below set c h = subst (λ n. c < n) (length-grow set) (has_below (grow normal accesses set) c h)

  grow_keeps : (set : ClassSet) → length set ≡ normal.count → Within set (grow normal accesses set)
  grow_keeps set e c h = has-grow set c (subst (λ n. c < n) e (has_below set c h)) ∙ or_left (has set c) (list_any (adds set c) (uses normal accesses)) h

  adds_within : (small large : ClassSet) (c : ℕ) (u : Use) → Within small large → adds small c u ≡ true → adds large c u ≡ true
  adds_within small large c u w h =
      and_both (holds_classes large (key_classes normal u)) (list_any (λ d. d == c) (fetched_classes normal u))
      (holds-within small large (key_classes normal u) w
      (and_left (holds_classes small (key_classes normal u)) (list_any (λ d. d == c) (fetched_classes normal u)) h))
      (and_right (holds_classes small (key_classes normal u)) (list_any (λ d. d == c) (fetched_classes normal u)) h)

  grow_within : (small large : ClassSet) → Within small large → Within (grow normal accesses small) (grow normal accesses large)
  grow_within small large w c h =
      let l = grow_below small c h in
      has-grow large c l ∙ elim (or_cases (has small c) (list_any (adds small c) (uses normal accesses)) (sym (has-grow small c l) ∙ h)) [
        | inl g ↦ or_left (has large c) (list_any (adds large c) (uses normal accesses)) (w c g)
        | inr g ↦ or_right (has large c) (list_any (adds large c) (uses normal accesses))
            (let r = any_has (adds small c) (uses normal accesses) g in any_by (adds large c) (uses normal accesses) r.0 r.1
            (adds_within small large c r.0 w r.2))
      ]

  -- a closed set that holds a set holds all that one turn adds to it
  grow_least : (set other : ClassSet) → Within set other → IsClosed normal accesses other → Within (grow normal accesses set) other
  grow_least set other w closed c h =
      let l = grow_below set c h in
      elim (or_cases (has set c) (list_any (adds set c) (uses normal accesses)) (sym (has-grow set c l) ∙ h)) [
        | inl g ↦ w c g
        | inr g ↦ (
            let r = any_has (adds set c) (uses normal accesses) g in
            let keys = holds-within set other (key_classes normal r.0) w
            (and_left (holds_classes set (key_classes normal r.0)) (list_any (λ d. d == c) (fetched_classes normal r.0)) r.2) in
            let some = any_has (λ d. d == c) (fetched_classes normal r.0)
            (and_right (holds_classes set (key_classes normal r.0)) (list_any (λ d. d == c) (fetched_classes normal r.0)) r.2) in
            let held = all_has (has other) (fetched_classes normal r.0) some.0 (closed r.0 (Contains-from_has (uses normal accesses) r.0 r.1) keys) some.1 in
            ap (has other) (sym (eqb-true some.0 c some.2)) ∙ held)
      ]

  -- a set that a turn adds nothing to is closed
  closed_when_still : ClassesInRange normal → (set : ClassSet) → Within (grow normal accesses set) set → IsClosed normal accesses set
  closed_when_still ranges set still u member keys = all_by (has set) (fetched_classes normal u) (λ c h.
      let r = Has-from_map (class_at normal u.atom) u.access.fetched c h in
      let l = subst (λ k. k < normal.count) (sym r.2) (ranges u.atom r.0) in
      let fetched = any_by (λ d. d == c) (fetched_classes normal u) c h (same c) in
      still c (has-grow set c l ∙ or_right (has set c) (list_any (adds set c) (uses normal accesses))
      (any_by (adds set c) (uses normal accesses) u (Has-from_contains (uses normal accesses) u member)
      (and_both (holds_classes set (key_classes normal u)) (list_any (λ d. d == c) (fetched_classes normal u)) keys fetched))))
    where
      same : (c : ℕ) → (c == c) ≡ true
      same c = eq-eqb c c refl

  module _ (start : ClassSet) (starts : length start ≡ normal.count) where
    length-grow_times : (n : ℕ) → length (grow_times n normal accesses start) ≡ normal.count
    length-grow_times zero = starts
    length-grow_times (suc n) = length-grow (grow_times n normal accesses start)

    grown_keeps : (n : ℕ) → Within start (grow_times n normal accesses start)
    grown_keeps zero c h = h
    grown_keeps (suc n) c h = grow_keeps (grow_times n normal accesses start) (length-grow_times n) c (grown_keeps n c h)

    grown_least : (n : ℕ) (other : ClassSet) → Within start other → IsClosed normal accesses other → Within (grow_times n normal accesses start) other
    grown_least zero other w closed = w
    grown_least (suc n) other w closed = grow_least (grow_times n normal accesses start) other (grown_least n other w closed) closed

    -- after n turns either nothing more comes, or at least n classes are held
    progress : (n : ℕ) → Within (grow normal accesses (grow_times n normal accesses start))
        (grow_times n normal accesses start) ⊎ (n ≤ trues (grow_times n normal accesses start))
    progress zero = inr (omega arith)
    progress (suc n) = elim (progress n) [
      | inl still ↦ inl (grow_within (grow normal accesses (grow_times n normal accesses start)) (grow_times n normal accesses start) still)
      | inr many ↦ elim (compared (grow normal accesses (grow_times n normal accesses start)) (grow_times n normal accesses start)) [
        | inl still ↦ inl (grow_within (grow normal accesses (grow_times n normal accesses start)) (grow_times n normal accesses start) still)
        | inr new ↦ inr (let more = trues_more (grow_times n normal accesses start) (grow normal accesses (grow_times n normal accesses start))
            (length-grow_times n ∙ sym (length-grow (grow_times n normal accesses start)))
            (grow_keeps (grow_times n normal accesses start) (length-grow_times n)) new.0 new.1 new.2 in omega arith)
      ]
    ]

    still_at_end : Within (grow normal accesses (grow_times normal.count normal accesses start)) (grow_times normal.count normal accesses start)
    still_at_end = elim (progress normal.count) [
      | inl still ↦ still
      | inr many ↦ λ c h. (
          let e = length-grow_times normal.count in
          all_true (grow_times normal.count normal accesses start) c (subst (λ n. n ≤ trues (grow_times normal.count normal accesses start)) (sym e) many)
          (subst (λ n. c < n) (sym e) (grow_below (grow_times normal.count normal accesses start) c h)))
    ]

    pub covered_set_least : ClassesInRange normal → IsLeastClosed normal accesses start (covered_set normal accesses start)
    unfolding covered_set
    covered_set_least ranges = record {
      from_start = grown_keeps normal.count;
      closed = closed_when_still ranges (grow_times normal.count normal accesses start) still_at_end;
      least = λ other w closed. grown_least normal.count other w closed;
    }

    pub length-covered : length (covered_set normal accesses start) ≡ normal.count
    unfolding covered_set
    length-covered = length-grow_times normal.count

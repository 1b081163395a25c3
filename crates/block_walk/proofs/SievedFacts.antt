-- The tuples that a step's sieve keeps lead to what all tuples lead to.
use Rattle.std.proofs.Common.{◌≡◌, ◌==◌, ◌<◌, ℕ, ◌++◌, ◌∷◌, ◌∙◌, [], Bool, true, false, cond, List, All, map, take, get_or, inl, inr, refl, ap, sym, subst, arith}
use Rattle.std.specs.List.{filter}
use Rattle.std.proofs.lemmas.Bool.{eqb-true}
use Rattle.beas_core.specs.declared.plan.Normal.{Normal}
use Rattle.beas_core.specs.Types.{Row}
use Rattle.beas_core.specs.Valuations.{output_row}
use Rattle.beas_core.proofs.Sets.{Has, Has-append_left, Has-append_right, Has-append_cases, Has-filter, Has-from_filter, Has-from_map, Has-get_or, Has-map, SameMembers}
use Rattle.beas_core.proofs.MemberTests.{which}
use Rattle.plan_ops.specs.declared.sieving.Sieve.{Sieve}
use Rattle.plan_ops.specs.declared.stages.Stage.{Stage}
use Rattle.plan_ops.specs.Sieves.{passes, sieved}
use Rattle.plan_ops.specs.Stages.{IsPair, IsStage, bound_with, joined_row, leads_to, next_by, set_before, use_at}
use Rattle.plan_ops.proofs.RowFacts.{output_settled}
use Rattle.plan_ops.proofs.SieveFacts.{all_member, leads_alike, leads_pass, one_settled}

pub below_differs : (a b : ℕ) → a < b → (a == b) ≡ false
below_differs a b l = elim (which (a == b)) [ inl e ↦ (let k = eqb-true a b e in absurd (omega (arith, k, l))) | inr e ↦ e ]

-- what a test passes is passed by one that is never stricter
filter_within : {K : Type 0} (p q : K → Bool) (xs : List K) → ((x : K) → Has xs x → p x ≡ true → q x ≡ true) → filter p (filter q xs) ≡ filter p xs
filter_within p q [] h = refl
filter_within {K} p q (x ∷ xs) h = by (p x) (q x) refl (h x (inl refl)) (filter_within p q xs (λ y k. h y (inr k)))
  where
    by : (a b : Bool) → p x ≡ a → (a ≡ true → b ≡ true) → filter p (filter q xs) ≡ filter p xs
        → filter p (cond b (x ∷ filter q xs) (filter q xs)) ≡ cond a (x ∷ filter p xs) (filter p xs)
    by true true e k r = ap (λ t. cond t (x ∷ filter p (filter q xs)) (filter p (filter q xs))) e ∙ ap (λ ys. x ∷ ys) r
    by true false e k r = (let t = k refl in cc)
    by false true e k r = ap (λ t. cond t (x ∷ filter p (filter q xs)) (filter p (filter q xs))) e ∙ r
    by false false e k r = r

same_behind : (now start xs ys : List Row) → SameMembers xs ys → SameMembers now (start ++ xs) → SameMembers now (start ++ ys)
same_behind now start xs ys same was y = (
  λ h. elim (Has-append_cases start xs y ((was y).0 h)) [
    | inl k ↦ Has-append_left start ys y k
    | inr k ↦ Has-append_right start ys y ((same y).0 k)
  ],
  λ h. (was y).1 (elim (Has-append_cases start ys y h) [
    | inl k ↦ Has-append_left start xs y k
    | inr k ↦ Has-append_right start xs y ((same y).1 k)
  ]),
)

Has-first : {K : Type 0} (xs : List K) (y : K) → Has (take 1 xs) y → Has xs y
Has-first [] y h = h
Has-first (x ∷ xs) y (inl e) = inl e
Has-first (x ∷ xs) y (inr h) = absurd h

-- a tuple that is kept was found
kept_found : (normal : Normal) (sieve : Sieve) (one : Bool) (tuples : List Row) (t : Row) → Has (sieved normal sieve one tuples) t → Has tuples t
kept_found normal sieve true tuples t h =
    (Has-from_filter (passes normal sieve) tuples t (Has-first (filter (passes normal sieve) tuples) t h)).0
kept_found normal sieve false tuples t h = (Has-from_filter (passes normal sieve) tuples t h).0

-- so what is true of all that were found is true of those that are kept
pub all_kept : (P : Row → Type 0) (normal : Normal) (sieve : Sieve) (one : Bool) (tuples kept : List Row) → kept ≡ sieved normal sieve one tuples
    → All P tuples → All P kept
all_kept P normal sieve one tuples kept e all i d l = all_member P tuples (get_or kept i d) all
    (kept_found normal sieve one tuples (get_or kept i d) (subst (λ ts. Has ts (get_or kept i d)) e (Has-get_or kept i d l)))

module _ (normal : Normal) (stage : Stage) (is : IsStage normal stage) (v : Row) (tuples : List Row) (pairs : All (IsPair normal stage v) tuples) where
  abbrev leads : Row → Bool
  leads = leads_to normal (use_at stage) (set_before normal stage) v

  abbrev f : Row → Row
  f = joined_row normal (use_at stage) (set_before normal stage) v

  abbrev next : List Row → List Row
  next ts = next_by normal (use_at stage) (set_before normal stage) v ts

  abbrev out : Row → Row
  out = output_row normal (bound_with normal (use_at stage) (set_before normal stage))

  abbrev passing : List Row
  passing = filter (passes normal stage.sieve) tuples

  pair_of : (t : Row) → Has tuples t → IsPair normal stage v t
  pair_of t h = all_member (IsPair normal stage v) tuples t pairs h

  next_passing : next passing ≡ next tuples
  next_passing = ap (map f) (filter_within leads (passes normal stage.sieve) tuples (λ t h led. leads_pass normal stage is v t (pair_of t h) led))

  pub next_kept : (kept : List Row) (one : Bool) → kept ≡ sieved normal stage.sieve one tuples → one ≡ false → next kept ≡ next tuples
  next_kept kept one e all = ap next (e ∙ ap (λ b. sieved normal stage.sieve b tuples) all) ∙ next_passing

  -- all tuples that pass are alike, where one is enough
  module _ (one : stage.sieve.one ≡ true) where
    one_output : (t : Row) → Has tuples t → out (f t) ≡ output_row normal (set_before normal stage) v
    one_output t h = output_settled normal stage is (one_settled normal stage is one) v t (pair_of t h).wide

    -- if one of them leads on, the first one does, to the same output
    first_output : (ts : List Row) → ((t : Row) → Has ts t → Has passing t) → (y : Row) → Has (map out (next ts)) y → Has (map out (next (take 1 ts))) y
    first_output [] in_all y h = h
    first_output (t ∷ ts) in_all y h =
        let m = Has-from_map out (next (t ∷ ts)) y h in
        let k = Has-from_map f (filter leads (t ∷ ts)) m.0 m.1 in
        let g = Has-from_filter leads (t ∷ ts) k.0 k.1 in
        let there = Has-from_filter (passes normal stage.sieve) tuples k.0 (in_all k.0 g.0) in
        let first = Has-from_filter (passes normal stage.sieve) tuples t (in_all t (inl refl)) in
        let led : leads t ≡ true =
        leads_alike normal stage is one v t k.0 (pair_of t first.0) (pair_of k.0 there.0) first.1 there.1 ∙ g.1 in
        let same : out (f t) ≡ y = one_output t first.0 ∙ sym (one_output k.0 there.0) ∙ ap out (sym k.2) ∙ sym m.2 in
        subst (Has (map out (next (t ∷ [])))) same
        (Has-map out (next (t ∷ [])) (f t) (Has-map f (filter leads (t ∷ [])) t (Has-filter leads (t ∷ []) t (inl refl) led)))

    some_output : (ts : List Row) (y : Row) → Has (map out (next (take 1 ts))) y → Has (map out (next ts)) y
    some_output ts y h =
        let m = Has-from_map out (next (take 1 ts)) y h in
        let k = Has-from_map f (filter leads (take 1 ts)) m.0 m.1 in
        let g = Has-from_filter leads (take 1 ts) k.0 k.1 in
        subst (Has (map out (next ts))) (sym (m.2 ∙ ap out k.2))
        (Has-map out (next ts) (f k.0) (Has-map f (filter leads ts) k.0 (Has-filter leads ts k.0 (Has-first ts k.0 g.0) g.1)))

    pub outputs_first : SameMembers (map out (next (take 1 passing))) (map out (next tuples))
    outputs_first y = (
      λ h. subst (λ ts. Has (map out ts) y) next_passing (some_output passing y h),
      λ h. first_output passing (λ t k. k) y (subst (λ ts. Has (map out ts) y) (sym next_passing) h),
    )

  outputs_by : (one : Bool) → (one ≡ true → stage.sieve.one ≡ true)
      → SameMembers (map out (next (sieved normal stage.sieve one tuples))) (map out (next tuples))
  outputs_by true enough y = outputs_first (enough refl) y
  outputs_by false enough y = (
    λ h. subst (λ ts. Has (map out ts) y) next_passing h,
    λ h. subst (λ ts. Has (map out ts) y) (sym next_passing) h,
  )

  pub outputs_kept : (kept : List Row) (one : Bool) → kept ≡ sieved normal stage.sieve one tuples → (one ≡ true → stage.sieve.one ≡ true)
      → (now start : List Row) → SameMembers now (start ++ map out (next kept))
      → SameMembers now (start ++ map out (next tuples))
  outputs_kept kept one e enough now start was =
      same_behind now start (map out (next (sieved normal stage.sieve one tuples))) (map out (next tuples)) (outputs_by one enough)
      (subst (λ ts. SameMembers now (start ++ map out (next ts))) e was)

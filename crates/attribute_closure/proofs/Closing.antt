-- The closure, use by use, and that it is the covered set.
use Rattle.std.proofs.Common.{◌≡◌, ◌==◌, ◌&&◌, ◌||◌, ◌<◌, ◌≤◌, ◌+◌, ℕ, zero, suc, Bool, true, false, not, List, [], ◌∷◌, length, map, inl, inr, refl, ap, sym, ◌∙◌, subst, arith}
use Rattle.std.specs.List.{Contains}
use Rattle.std.proofs.lemmas.Bool.{eqb-true, eqb-false, eq-eqb}
use Rattle.std.proofs.lemmas.List.{get_or-take}
use Rattle.beas_core.specs.declared.schema.Access.{Access}
use Rattle.beas_core.specs.declared.schema.ColumnId.{ColumnId}
use Rattle.beas_core.specs.declared.plan.Normal.{Normal}
use Rattle.beas_core.specs.Types.{ClassSet, Use}
use Rattle.beas_core.specs.Coverage.{has, with_classes, key_classes, fetched_classes, holds_classes, class_at, uses, covered_set, Within, IsClosed, ClassesInRange}
use Rattle.beas_core.proofs.Sets.{Has, Has-from_map, Has-from_contains, Contains-from_has}
use Rattle.beas_core.proofs.MemberTests.{all_has, all_by}
use Rattle.beas_core.proofs.ClassSetFacts.{has-with_kept, has-with_new, has-with_cases, holds-within}
use Rattle.beas_core.proofs.CoveredSetFacts.{covered_set_least, length-covered}
use Rattle.attribute_closure.specs.Uses.{use_at}
use Rattle.attribute_closure.specs.Keys.{bit, number_at, among, lacking, AreCounted, GoesOn, Closing}

none_lacking : (set : ClassSet) (ks : List ℕ) → lacking set ks ≡ 0 → holds_classes set ks ≡ true
none_lacking set [] h = refl
none_lacking set (k ∷ ks) h = by (has set k) refl h (none_lacking set ks)
  where
    by : (b : Bool) → has set k ≡ b → bit (not b) + lacking set ks ≡ 0 → (lacking set ks ≡ 0 → holds_classes set ks ≡ true) → holds_classes set (k ∷ ks) ≡ true
    by true e g rest = ap (λ b. b && holds_classes set ks) e ∙ rest (omega arith)
    by false e g rest = absurd (omega (arith, g))

lacking_none : (set : ClassSet) (ks : List ℕ) → holds_classes set ks ≡ true → lacking set ks ≡ 0
lacking_none set [] h = refl
lacking_none set (k ∷ ks) h = by (has set k) refl h (lacking_none set ks)
  where
    by : (b : Bool) → has set k ≡ b → (b && holds_classes set ks) ≡ true → (holds_classes set ks ≡ true → lacking set ks ≡ 0)
        → bit (not (has set k)) + lacking set ks ≡ 0
    by true e g rest = let a = ap (λ b. bit (not b)) e in let r = rest g in omega arith
    by false e g rest = cc

ready_at : (xs : List ℕ) (w : ℕ) → among xs w ≡ true → (k : ℕ) × (k < length xs) × (number_at xs k ≡ w)
ready_at [] w h = cc
ready_at (x ∷ xs) w h = by (x == w) refl h (ready_at xs w)
  where
    by : (b : Bool) → (x == w) ≡ b → (b || among xs w) ≡ true → (among xs w ≡ true → (k : ℕ) × (k < length xs) × (number_at xs k ≡ w))
        → (k : ℕ) × (k < length (x ∷ xs)) × (number_at (x ∷ xs) k ≡ w)
    by true e g rest = (0, omega arith, eqb-true x w e)
    by false e g rest = let r = rest g in (suc r.0, omega (arith, r.1), r.2)

here : (xs : List ℕ) (k : ℕ) → k < length xs → among xs (number_at xs k) ≡ true
here [] k l = absurd (omega (arith, l))
here (x ∷ xs) zero l = ap (λ b. b || among xs x) (eq-eqb x x refl)
here (x ∷ xs) (suc k) l = by (x == number_at xs k) (here xs k (omega arith))
  where
    by : (b : Bool) → among xs (number_at xs k) ≡ true → (b || among xs (number_at xs k)) ≡ true
    by true h = refl
    by false h = h

module _ (normal : Normal) (us : List Use) (set : ClassSet) (m : List ℕ) (waiting : List (List ℕ)) (r : List ℕ)
    (so : AreCounted normal us set m waiting r) where
  -- the key of a ready use is held, and a use whose key is held is ready
  pub ready_held : (k : ℕ) → k < length r → (number_at r k < length us) × (holds_classes set (key_classes normal (use_at us (number_at r k))) ≡ true)
  ready_held k l =
      let below = so.ready_inside k 0 l in
      let none = eqb-true (number_at m (number_at r k)) 0 (sym (so.ready_is (number_at r k) below) ∙ here r k l) in
      (below, none_lacking set (key_classes normal (use_at us (number_at r k))) (sym (so.lacks (number_at r k) below) ∙ none))

  pub held_ready : (w : ℕ) → w < length us → holds_classes set (key_classes normal (use_at us w)) ≡ true → (k : ℕ) × (k < length r) × (number_at r k ≡ w)
  held_ready w l h = ready_at r w (so.ready_is w l ∙ eq-eqb (number_at m w) 0 (so.lacks w l ∙ lacking_none set (key_classes normal (use_at us w)) h))

  pub ready_few : length r ≤ length us
  ready_few = omega (arith, so.together)

all_held : (set : ClassSet) (cs : List ℕ) → ((c : ℕ) → Has cs c → c < length set) → holds_classes (with_classes set cs) cs ≡ true
all_held set cs h = all_by (has (with_classes set cs)) cs (λ c m. has-with_new cs set c m (h c m))

kept : (set : ClassSet) (cs : List ℕ) → Within set (with_classes set cs)
kept set cs c h = has-with_kept cs set c h

at_number : (us : List Use) (u : Use) → Contains us u → (w : ℕ) × (w < length us) × (use_at us w ≡ u)
at_number us u h = by us u (Has-from_contains us u h)
  where
    by : (vs : List Use) (v : Use) → Has vs v → (w : ℕ) × (w < length vs) × (use_at vs w ≡ v)
    by [] v g = absurd g
    by (x ∷ vs) v (inl e) = (0, omega arith, sym e)
    by (x ∷ vs) v (inr g) = let q = by vs v g in (suc q.0, omega (arith, q.1), q.2)

Contains-at : (us : List Use) (w : ℕ) → w < length us → Contains us (use_at us w)
Contains-at us w l = Contains-from_has us (use_at us w) (by us w l)
  where
    by : (vs : List Use) (k : ℕ) → k < length vs → Has vs (use_at vs k)
    by [] k m = absurd (omega (arith, m))
    by (v ∷ vs) zero m = inl refl
    by (v ∷ vs) (suc k) m = inr (by vs k (omega arith))

module _ (normal : Normal) (accesses : List Access) (start : ClassSet) (ranges : ClassesInRange normal) where
  in_range : (u : Use) (n : ℕ) → n ≡ normal.count → (c : ℕ) → Has (fetched_classes normal u) c → c < n
  in_range u n e c h = let q = Has-from_map (class_at normal u.atom) u.access.fetched c h in let b = ranges u.atom q.0 in omega (arith, q.2)

  -- before the first use
  pub closing_none : (r : List ℕ) → Closing normal (uses normal accesses) accesses start 0 start r
  closing_none r = record { from_start = λ c h. h; least = λ other w closed. w; done = λ k l. absurd (omega (arith, l)) }

  module _ (us : List Use) (same : us ≡ uses normal accesses) (n : ℕ) (set : ClassSet) (m : List ℕ) (waiting : List (List ℕ)) (r : List ℕ)
      (so : AreCounted normal us set m waiting r) (far : Closing normal us accesses start n set r) where
    -- one use more
    pub closing_more : (r2 : List ℕ) (u : Use) → u ≡ use_at us (number_at r n) → n < length r → GoesOn r r2
        → Closing normal us accesses start (n + 1) (with_classes set (fetched_classes normal u)) r2
    closing_more r2 u is l on =
        let held = ready_held normal us set m waiting r so n l in
        let keys = subst (λ v. holds_classes set (key_classes normal v) ≡ true) (sym is) held.1 in
        let member = subst (λ vs. Contains vs u) same (subst (Contains us) (sym is) (Contains-at us (number_at r n) held.0)) in
        record {
          from_start = λ c h. kept set (fetched_classes normal u) c (far.from_start c h);
          least = λ other w closed c h. elim (has-with_cases (fetched_classes normal u) set c h) [
            | inl g ↦ far.least other w closed c g
            | inr g ↦ all_has (has other) (fetched_classes normal u) c (closed u member (holds-within set other (key_classes normal u)
                (far.least other w closed) keys)) g
          ];
          done = λ k b. by k b (k == n) refl;
        }
      where
        stays : (k : ℕ) → k < length r → number_at r2 k ≡ number_at r k
        stays k b = sym (get_or-take (length r) r2 k 0 b) ∙ ap (λ xs. number_at xs k) on

        by : (k : ℕ) → k < n + 1 → (b : Bool) → (k == n) ≡ b
            → holds_classes (with_classes set (fetched_classes normal u)) (fetched_classes normal (use_at us (number_at r2 k))) ≡ true
        by k b true e =
            let at = eqb-true k n e in
            let v = ap (use_at us) (stays k (omega arith) ∙ ap (number_at r) at) ∙ sym is in
            subst (λ x. holds_classes (with_classes set (fetched_classes normal u)) (fetched_classes normal x) ≡ true) (sym v)
            (all_held set (fetched_classes normal u) (in_range u (length set) so.classes))
        by k b false e =
            let at : k < n = below k b e in
            subst (λ w. holds_classes (with_classes set (fetched_classes normal u)) (fetched_classes normal (use_at us w)) ≡ true) (sym (stays k (omega arith)))
            (holds-within set (with_classes set (fetched_classes normal u)) (fetched_classes normal (use_at us (number_at r k))) (kept set
            (fetched_classes normal u)) (far.done k at))
          where
            below : (a : ℕ) → a < n + 1 → (a == n) ≡ false → a < n
            below a o f = let g = eqb-false a n f in omega arith

    -- after all that are ready: the covered set
    pub closing_all : length start ≡ normal.count → length r ≤ n → set ≡ covered_set normal accesses start
    closing_all counted all =
        let cover = covered_set_least normal accesses start counted ranges in
        same_set set (covered_set normal accesses start) (so.classes ∙ sym (length-covered normal accesses start counted))
        (far.least (covered_set normal accesses start) cover.from_start cover.closed)
        (cover.least set far.from_start closed)
      where
        closed : IsClosed normal accesses set
        closed u member keys =
            let w = at_number us u (subst (λ vs. Contains vs u) (sym same) member) in
            let k = held_ready normal us set m waiting r so w.0 w.1 (subst (λ v. holds_classes set (key_classes normal v) ≡ true) (sym w.2) keys) in
            subst (λ v. holds_classes set (fetched_classes normal v) ≡ true) (ap (use_at us) k.2 ∙ w.2) (far.done k.0 (omega (arith, k.1)))

        same_set : (a b : ClassSet) → length a ≡ length b → Within a b → Within b a → a ≡ b
        same_set [] [] e f g = refl
        same_set [] (y ∷ b) e f g = absurd (omega (arith, e))
        same_set (x ∷ a) [] e f g = absurd (omega (arith, e))
        same_set (x ∷ a) (y ∷ b) e f g = ap (λ z. z ∷ a) (bit x y (f 0) (g 0))
            ∙ ap (λ zs. y ∷ zs) (same_set a b (omega arith) (λ c. f (suc c)) (λ c. g (suc c)))
          where
            bit : (p q : Bool) → (p ≡ true → q ≡ true) → (q ≡ true → p ≡ true) → p ≡ q
            bit true q h i = sym (h refl)
            bit false true h i = i refl
            bit false false h i = refl

-- the same, as the code has it
pub closing_start : (normal : Normal) (us : List Use) (accesses : List Access) (start set : ClassSet) (r : List ℕ) → set ≡ start
    → Closing normal us accesses start 0 set r
closing_start normal us accesses start set r e = record {
  from_start = λ c h. ap (λ s. has s c) e ∙ h;
  least = λ other w closed c h. w c (sym (ap (λ s. has s c) e) ∙ h);
  done = λ k l. absurd (omega (arith, l));
}

pub closing_step : (normal : Normal) (accesses : List Access) (start : ClassSet) → ClassesInRange normal → (us : List Use) → us ≡ uses normal accesses
    → (n : ℕ) (set : ClassSet) (m : List ℕ) (waiting : List (List ℕ)) (r : List ℕ)
    → AreCounted normal us set m waiting r → Closing normal us accesses start n set r → (r2 : List ℕ) (u : Use) → u ≡ use_at us (number_at r n)
    → n < length r → GoesOn r r2
    → (us2 : List Use) → us2 ≡ us → (set2 : ClassSet) (fetched : List ColumnId) → fetched ≡ u.access.fetched
    → set2 ≡ with_classes set (map (class_at normal u.atom) fetched)
    → Closing normal us2 accesses start (n + 1) set2 r2
closing_step normal accesses start ranges us same n set m waiting r so far r2 u is l on us2 eu set2 fetched ef es =
    subst (λ vs. Closing normal vs accesses start (n + 1) set2 r2) (sym eu)
    (subst (λ s. Closing normal us accesses start (n + 1) s r2) (sym (es ∙ ap (λ cs. with_classes set (map (class_at normal u.atom) cs)) ef))
    (closing_more normal accesses start ranges us same n set m waiting r so far r2 u is l on))

-- The turns of a derivation, one at a time.
use Rattle.std.proofs.Common.{◌≡◌, ◌<◌, ◌≤◌, ◌-◌, ◌+◌, ◌&&◌, ◌||◌, ◌==◌, ℕ, zero, suc, Bool, true, false, cond, List, [], ◌∷◌, ◌++◌, length, length-append, map, take, drop, get_or, Option, Some, None, refl, ap, sym, ◌∙◌, subst, arith, append_assoc, add-one, drop-cons}
use Rattle.std.specs.List.{All, filter}
use Rattle.std.specs.Option.{option_map, is_some}
use Rattle.std.proofs.lemmas.List.{append-nil, drop_all, take-append-le}
use Rattle.std.proofs.lemmas.List.Elements.{All-append, All-cons, All-nil}
use Rattle.std.proofs.lemmas.List.FromFn.{get_or-range_with_len, length-range_with_len}
use Rattle.beas_core.specs.declared.schema.Access.{Access}
use Rattle.beas_core.specs.declared.plan.DStep.{DStep}
use Rattle.beas_core.specs.declared.plan.Normal.{Normal}
use Rattle.beas_core.specs.declared.plan.NotCovered.{NotCovered}
use Rattle.beas_core.specs.Types.{ClassSet, Use}
use Rattle.beas_core.specs.Shapes.{EachIdOnce}
use Rattle.beas_core.specs.Coverage.{serves, uses, is_covered, reason, atoms_of, covered_set, holds_needed, ClassesInRange}
use Rattle.beas_core.specs.Derivations.{least_bound, is_live, is_served_by, then_step, enabled_uses, adding_steps, serving_steps, greedy_steps, step_of, with_use, use_of, bound_after, bound_by}
use Rattle.beas_core.specs.Pruning.{derivation, pruned}
use Rattle.beas_core.proofs.Sets.{Has, Has-from_filter}
use Rattle.beas_core.proofs.MemberTests.{any_by}
use Rattle.beas_core.proofs.UseFacts.{use_facts, least_has}
use Rattle.beas_core.proofs.SoundDerivations.{bound_step, bound-append}
use Rattle.beas_core.proofs.DerivationsExist.{derivation_exists}
use Rattle.beas_core.proofs.ReasonFacts.{reason-covered, covered-reason}
use Rattle.std.specs.Bool.{MatchBool}
use Rattle.std.proofs.lemmas.Bool.{eq-eqb}
use Rattle.attribute_closure.specs.declared.uses.UseAt.{UseAt}
use Rattle.attribute_closure.specs.Uses.{as_use}
use Rattle.plan_builder.specs.Plans.{served_among}

module _ (normal : Normal) (accesses : List Access) (set : ClassSet) where
  adding_done : (n : ℕ) → is_covered normal accesses set ≡ true → adding_steps n normal accesses set ≡ Some []
  adding_done zero e = ap (λ b. cond b (Some []) None) e
  adding_done (suc n) e = ap (λ b. cond b (Some []) (then_step (least_bound (enabled_uses normal accesses set)) None (λ u. option_map
      (λ steps. step_of normal set u ∷ steps) (adding_steps n normal accesses (with_use normal set u))))) e

  adding_out : is_covered normal accesses set ≡ false → adding_steps 0 normal accesses set ≡ None
  adding_out e = ap (λ b. cond b (Some []) None) e

  adding_stuck : (n : ℕ) → is_covered normal accesses set ≡ false → least_bound (enabled_uses normal accesses set) ≡ None
      → adding_steps n normal accesses set ≡ None
  adding_stuck zero e h = ap (λ b. cond b (Some []) None) e
  adding_stuck (suc n) e h =
      ap (λ b. cond b (Some []) (then_step (least_bound (enabled_uses normal accesses set)) None (λ u. option_map
      (λ steps. step_of normal set u ∷ steps) (adding_steps n normal accesses (with_use normal set u))))) e
      ∙ ap (λ o. then_step o None (λ u. option_map (λ steps. step_of normal set u ∷ steps) (adding_steps n normal accesses (with_use normal set u)))) h

  adding_more : (m : ℕ) (u : Use) → is_covered normal accesses set ≡ false → least_bound (enabled_uses normal accesses set) ≡ Some u
      → adding_steps (suc m) normal accesses set ≡ option_map (λ steps. step_of normal set u ∷ steps) (adding_steps m normal accesses (with_use normal set u))
  adding_more m u e h =
      ap (λ b. cond b (Some []) (then_step (least_bound (enabled_uses normal accesses set)) None (λ v. option_map
      (λ steps. step_of normal set v ∷ steps) (adding_steps m normal accesses (with_use normal set v))))) e
      ∙ ap (λ o. then_step o None (λ v. option_map (λ steps. step_of normal set v ∷ steps) (adding_steps m normal accesses (with_use normal set v)))) h

-- a set that a reason speaks against doesn't cover
pub not_covered : (normal : Normal) (accesses : List Access) (set : ClassSet) (why : NotCovered) → reason normal accesses set ≡ Some why
    → is_covered normal accesses set ≡ false
not_covered normal accesses set why h = by (is_covered normal accesses set) refl
  where
    by : (b : Bool) → is_covered normal accesses set ≡ b → b ≡ false
    by true e = let g = covered-reason normal accesses set e in cc
    by false e = refl

prefixed : (xs : List DStep) (x : DStep) (o : Option (List DStep))
    → option_map (λ more. xs ++ more) (option_map (λ more. x ∷ more) o) ≡ option_map (λ more. (xs ++ x ∷ []) ++ more) o
prefixed xs x None = refl
prefixed xs x (Some ys) = ap Some (sym (append_assoc xs (x ∷ []) ys))

module _ (normal : Normal) (accesses : List Access) (start set : ClassSet) (steps : List DStep) (n i : ℕ) (below : i ≤ n)
    (left : adding_steps n normal accesses start ≡ option_map (λ more. steps ++ more) (adding_steps (n - i) normal accesses set)) where
  pub left_done : is_covered normal accesses set ≡ true → adding_steps n normal accesses start ≡ Some steps
  left_done h = left ∙ ap (option_map (λ more. steps ++ more)) (adding_done normal accesses set (n - i) h) ∙ ap Some (append-nil steps)

  pub left_stuck : is_covered normal accesses set ≡ false → least_bound (enabled_uses normal accesses set) ≡ None → adding_steps n normal accesses start ≡ None
  left_stuck h g = left ∙ ap (option_map (λ more. steps ++ more)) (adding_stuck normal accesses set (n - i) h g)

  pub left_out : is_covered normal accesses set ≡ false → n ≤ i → adding_steps n normal accesses start ≡ None
  left_out h all =
      let z : n - i ≡ 0 = omega arith in
      left ∙ ap (λ k. option_map (λ more. steps ++ more) (adding_steps k normal accesses set)) z
      ∙ ap (option_map (λ more. steps ++ more)) (adding_out normal accesses set h)

  pub left_more : (u : Use) → is_covered normal accesses set ≡ false → least_bound (enabled_uses normal accesses set) ≡ Some u → i < n
      → adding_steps n normal accesses start ≡ option_map (λ more. (steps ++ step_of normal set u ∷ []) ++ more) (adding_steps (n -
      (i + 1)) normal accesses (with_use normal set u))
  left_more u h g l =
      let k : n - i ≡ suc (n - (i + 1)) = omega arith in
      left ∙ ap (λ m. option_map (λ more. steps ++ more) (adding_steps m normal accesses set)) k
      ∙ ap (option_map (λ more. steps ++ more)) (adding_more normal accesses set (n - (i + 1)) u h g)
      ∙ prefixed steps (step_of normal set u) (adding_steps (n - (i + 1)) normal accesses (with_use normal set u))

-- one more step of a plan
module _ (normal : Normal) (accesses : List Access) (once : EachIdOnce accesses) (start set : ClassSet) (steps : List DStep) (u : Use)
    (member : Has (uses normal accesses) u) where
  pub bound_more : set ≡ bound_after normal accesses start steps
      → with_use normal set u ≡ bound_after normal accesses start (steps ++ step_of normal set u ∷ [])
  bound_more e =
      sym (bound_step normal accesses once set u member) ∙ ap (λ s. bound_by normal accesses s (step_of normal set u)) e
      ∙ sym (bound-append normal accesses steps (step_of normal set u ∷ []) start)

-- whether an atom is served, by the steps or by their uses
pub served_same : (normal : Normal) (accesses : List Access) (steps : List DStep) (us : List Use) (atom : ℕ) → map (use_of accesses) steps ≡ us
    → is_served_by normal accesses steps atom ≡ served_among normal atom us
served_same normal accesses steps us atom e = by steps ∙ ap (served_among normal atom) e
  where
    by : (ss : List DStep) → is_served_by normal accesses ss atom ≡ served_among normal atom (map (use_of accesses) ss)
    by [] = refl
    by (s ∷ ss) = ap (λ b. ((s.atom == atom) && holds_needed normal (use_of accesses s)) || b) (by ss)

-- the atoms from one on
pub atoms_more : (normal : Normal) (i : ℕ) → i < length normal.atoms → drop i (atoms_of normal) ≡ i ∷ drop (i + 1) (atoms_of normal)
atoms_more normal i below =
    drop-cons (atoms_of normal) i 0 (subst (λ n. i < n) (sym (length-range_with_len 0 (length normal.atoms))) below)
    ∙ ap (λ k. k ∷ drop (suc i) (atoms_of normal)) (get_or-range_with_len 0 (length normal.atoms) i 0 below ∙ zero_plus i)
    ∙ ap (λ k. i ∷ drop k (atoms_of normal)) (sym (add-one i))
  where
    zero_plus : (n : ℕ) → 0 + n ≡ n
    zero_plus n = omega arith

pub atoms_end : (normal : Normal) (i : ℕ) → length normal.atoms ≤ i → drop i (atoms_of normal) ≡ []
atoms_end normal i l = drop_all i (atoms_of normal) (subst (λ n. n ≤ i) (sym (length-range_with_len 0 (length normal.atoms))) l)

-- one atom more
module _ (normal : Normal) (accesses : List Access) (first steps : List DStep) (set : ClassSet) (i : ℕ) (below : i < length normal.atoms) (whole : List DStep)
    (left : whole ≡ steps ++ serving_steps normal accesses first set (drop i (atoms_of normal))) where
  turn : whole ≡ steps ++ serving_steps normal accesses first set (i ∷ drop (i + 1) (atoms_of normal))
  turn = left ∙ ap (λ atoms. steps ++ serving_steps normal accesses first set atoms) (atoms_more normal i below)

  abbrev rest : ClassSet → List DStep
  rest s = serving_steps normal accesses first s (drop (i + 1) (atoms_of normal))

  pub serve_served : is_served_by normal accesses first i ≡ true → whole ≡ steps ++ rest set
  serve_served h = turn ∙ ap (λ b. steps ++ cond b (rest set) (then_step (least_bound (filter (λ u. (u.atom == i) && serves normal set u)
      (uses normal accesses))) (rest set) (λ u. step_of normal set u ∷ rest (with_use normal set u)))) h

  not_served : is_served_by normal accesses first i ≡ false
      → whole ≡ steps ++ then_step (least_bound (filter (λ u. (u.atom == i) && serves normal set u) (uses normal accesses))) (rest set)
      (λ u. step_of normal set u ∷ rest (with_use normal set u))
  not_served h = turn ∙ ap (λ b. steps ++ cond b (rest set) (then_step (least_bound (filter (λ u. (u.atom == i) && serves normal set u)
      (uses normal accesses))) (rest set) (λ u. step_of normal set u ∷ rest (with_use normal set u)))) h

  pub serve_none : is_served_by normal accesses first i ≡ false
      → least_bound (filter (λ u. (u.atom == i) && serves normal set u) (uses normal accesses)) ≡ None → whole ≡ steps ++ rest set
  serve_none h g = not_served h ∙ ap (λ o. steps ++ then_step o (rest set) (λ u. step_of normal set u ∷ rest (with_use normal set u))) g

  pub serve_some : (u : Use) → is_served_by normal accesses first i ≡ false
      → least_bound (filter (λ u. (u.atom == i) && serves normal set u) (uses normal accesses)) ≡ Some u
      → whole ≡ (steps ++ step_of normal set u ∷ []) ++ rest (with_use normal set u)
  serve_some u h g = not_served h ∙ ap (λ o. steps ++ then_step o (rest set) (λ v. step_of normal set v ∷ rest (with_use normal set v))) g
      ∙ sym (append_assoc steps (step_of normal set u ∷ []) (rest (with_use normal set u)))

-- the steps that stood before atoms are served go on standing in front
pub front_stays : (n : ℕ) (steps first : List DStep) (s : DStep) → n ≤ length steps → take n steps ≡ first
    → (n ≤ length (steps ++ s ∷ [])) × (take n (steps ++ s ∷ []) ≡ first)
front_stays n steps first s l e =
    let long = length-append steps (s ∷ []) in
    (omega (arith, l, long), take-append-le n steps (s ∷ []) l ∙ e)

pub serve_end : (normal : Normal) (accesses : List Access) (first steps : List DStep) (set : ClassSet) (i : ℕ) → length normal.atoms ≤ i
    → steps ++ serving_steps normal accesses first set (drop i (atoms_of normal)) ≡ steps
serve_end normal accesses first steps set i l =
    ap (λ atoms. steps ++ serving_steps normal accesses first set atoms) (atoms_end normal i l) ∙ append-nil steps

-- the derivation
pub greedy_some : (normal : Normal) (accesses : List Access) (start : ClassSet) (first : List DStep)
    → adding_steps normal.count normal accesses start ≡ Some first
    → greedy_steps normal accesses start ≡ Some (first ++ serving_steps normal accesses first (bound_after normal accesses start first) (atoms_of normal))
unfolding greedy_steps
greedy_some normal accesses start first h = ap (option_map (λ steps. steps ++ serving_steps normal accesses steps
    (bound_after normal accesses start steps) (atoms_of normal))) h

pub greedy_none : (normal : Normal) (accesses : List Access) (start : ClassSet) → adding_steps normal.count normal accesses start ≡ None
    → greedy_steps normal accesses start ≡ None
unfolding greedy_steps
greedy_none normal accesses start h = ap (option_map (λ steps. steps ++ serving_steps normal accesses steps (bound_after normal accesses start steps)
    (atoms_of normal))) h

pub always_why : (normal : Normal) (accesses : List Access) (start : ClassSet) → ClassesInRange normal → length start ≡ normal.count
    → derivation normal accesses start ≡ None
    → reason normal accesses (covered_set normal accesses start) ≡ None → ⊥
always_why normal accesses start ranges counted h g =
    let e = derivation_exists normal accesses ranges start counted (reason-covered normal accesses (covered_set normal accesses start) g) in
    let f = ap is_some h in
    cc

-- where there is no derivation there is a reason
pub why_there : (normal : Normal) (accesses : List Access) (start : ClassSet) → ClassesInRange normal → length start ≡ normal.count
    → derivation normal accesses start ≡ None
    → (why : NotCovered) × (reason normal accesses (covered_set normal accesses start) ≡ Some why)
why_there normal accesses start ranges counted h = by (reason normal accesses (covered_set normal accesses start)) refl
  where
    by : (o : Option NotCovered) → reason normal accesses (covered_set normal accesses start) ≡ o
        → (why : NotCovered) × (reason normal accesses (covered_set normal accesses start) ≡ Some why)
    by None e = absurd (always_why normal accesses start ranges counted h e)
    by (Some why) e = (why, e)

pub derivation_none : (normal : Normal) (accesses : List Access) (start : ClassSet) → greedy_steps normal accesses start ≡ None
    → derivation normal accesses start ≡ None
unfolding derivation
derivation_none normal accesses start h = ap (option_map (pruned normal accesses start)) h

pub derivation_some : (normal : Normal) (accesses : List Access) (start : ClassSet) (steps : List DStep) → greedy_steps normal accesses start ≡ Some steps
    → derivation normal accesses start ≡ Some (pruned normal accesses start steps)
unfolding derivation
derivation_some normal accesses start steps h = ap (option_map (pruned normal accesses start)) h

pub chosen_member : (p : Use → Bool) (us : List Use) (u : Use) → Some u ≡ least_bound (filter p us) → Has us u
chosen_member p us u e = (Has-from_filter p us u (least_has (filter p us) u (sym e))).0

-- one more step, as the code takes it
module _ (normal : Normal) (accesses : List Access) (once : EachIdOnce accesses) (start set : ClassSet) (steps : List DStep)
    (x : UseAt) (member : Has (uses normal accesses) (as_use x))
    (set2 : ClassSet) (steps2 : List DStep) (es : set2 ≡ with_use normal set (as_use x)) (et : steps2 ≡ steps ++ step_of normal set (as_use x) ∷ []) where
  pub plan_bound : set ≡ bound_after normal accesses start steps → set2 ≡ bound_after normal accesses start steps2
  plan_bound e = es ∙ bound_more normal accesses once start set steps (as_use x) member e ∙ ap (bound_after normal accesses start) (sym et)

  pub plan_live : All (λ s. is_live accesses s.access ≡ true) steps → All (λ s. is_live accesses s.access ≡ true) steps2
  plan_live h =
      let own = any_by (λ a. a.id.0 == x.access.now.id.0) accesses x.access.now (use_facts normal accesses (as_use x) member).member
      (eq-eqb x.access.now.id.0 x.access.now.id.0 refl) in
      subst (All (λ s. is_live accesses s.access ≡ true)) (sym et)
      (All-append (λ s. is_live accesses s.access ≡ true) steps (step_of normal set (as_use x) ∷ []) h
      (All-cons (λ s. is_live accesses s.access ≡ true) (step_of normal set (as_use x)) [] own (All-nil (λ s. is_live accesses s.access ≡ true))))

  pub plan_left : (n i : ℕ) → i < n → adding_steps n normal accesses start
      ≡ option_map (λ more. steps ++ more) (adding_steps (n - i) normal accesses set) → is_covered normal accesses set ≡ false
      → least_bound (enabled_uses normal accesses set) ≡ Some (as_use x)
      → adding_steps n normal accesses start ≡ option_map (λ more. steps2 ++ more) (adding_steps (n - (i + 1)) normal accesses set2)
  plan_left n i l left out best =
      left_more normal accesses start set steps n i (omega arith) left (as_use x) out best l
      ∙ ap (λ xs. option_map (λ more. xs ++ more) (adding_steps (n - (i + 1)) normal accesses (with_use normal set (as_use x)))) (sym et)
      ∙ ap (λ s. option_map (λ more. steps2 ++ more) (adding_steps (n - (i + 1)) normal accesses s)) (sym es)

pub by_bool : {P Q : Type 0} (b c : Bool) → b ≡ c → (c ≡ true → P) → (c ≡ false → Q) → MatchBool b P Q
by_bool true c e f g = f (sym e)
by_bool false c e f g = g (sym e)

pub among_here : (normal : Normal) (atom : ℕ) (us : List UseAt) (i : ℕ) (x : UseAt) → i < length us → x ≡ get_or us i x → x.atom ≡ atom
    → holds_needed normal (as_use x) ≡ true → true ≡ served_among normal atom (map as_use us)
among_here normal atom us i x l is same held = sym (by us i l is)
  where
    by : (vs : List UseAt) (k : ℕ) → k < length vs → x ≡ get_or vs k x → served_among normal atom (map as_use vs) ≡ true
    by [] k m e = absurd (omega (arith, m))
    by (v ∷ vs) zero m e =
        ap (λ y. ((y.atom == atom) && holds_needed normal (as_use y)) || served_among normal atom (map as_use vs)) (sym e)
        ∙ ap (λ b. (b && holds_needed normal (as_use x)) || served_among normal atom (map as_use vs)) (eq-eqb x.atom atom same)
        ∙ ap (λ b. b || served_among normal atom (map as_use vs)) held
    by (v ∷ vs) (suc k) m e = ap (λ b. ((v.atom == atom) && holds_needed normal (as_use v)) || b) (by vs k (omega arith) e)
        ∙ or_true ((v.atom == atom) && holds_needed normal (as_use v))
      where
        or_true : (b : Bool) → (b || true) ≡ true
        or_true true = refl
        or_true false = refl

pub from_true : (P Q : Type 0) (b : Bool) → MatchBool b P Q → b ≡ true → P
from_true P Q true h e = h
from_true P Q false h e = cc

pub from_false : (P Q : Type 0) (b : Bool) → MatchBool b P Q → b ≡ false → Q
from_false P Q true h e = cc
from_false P Q false h e = h

-- one atom more, as the code serves it
pub serve_taken : (normal : Normal) (accesses : List Access) (first steps : List DStep) (set : ClassSet) (i : ℕ) → i < length normal.atoms
    → (whole : List DStep)
    → whole ≡ steps ++ serving_steps normal accesses first set (drop i (atoms_of normal)) → (u : Use) → is_served_by normal accesses first i ≡ false
    → least_bound (filter (λ v. (v.atom == i) && serves normal set v) (uses normal accesses)) ≡ Some u → (steps2 : List DStep) (set2 : ClassSet)
    → steps2 ≡ steps ++ step_of normal set u ∷ [] → set2 ≡ with_use normal set u
    → whole ≡ steps2 ++ serving_steps normal accesses first set2 (drop (i + 1) (atoms_of normal))
serve_taken normal accesses first steps set i below whole left u h g steps2 set2 et es =
    serve_some normal accesses first steps set i below whole left u h g
    ∙ ap (λ xs. xs ++ serving_steps normal accesses first (with_use normal set u) (drop (i + 1) (atoms_of normal))) (sym et)
    ∙ ap (λ s. steps2 ++ serving_steps normal accesses first s (drop (i + 1) (atoms_of normal))) (sym es)

pub greedy_whole : (normal : Normal) (accesses a2 a4 : List Access) (start set0 set1 : ClassSet) (first result : List DStep) → a2 ≡ accesses
    → a4 ≡ accesses → set0 ≡ start → set1 ≡ bound_after normal a2 set0 first
    → adding_steps normal.count normal a2 set0 ≡ Some first → result ≡ first ++ serving_steps normal a4 first set1 (atoms_of normal)
    → Some result ≡ greedy_steps normal accesses start
greedy_whole normal accesses a2 a4 start set0 set1 first result e2 e4 e0 eb ea er =
    let bound = eb ∙ ap (λ s. bound_after normal a2 s first) e0 ∙ ap (λ a. bound_after normal a start first) e2 in
    let added = ap (λ a. adding_steps normal.count normal a start) (sym e2) ∙ ap (adding_steps normal.count normal a2) (sym e0) ∙ ea in
    ap Some (er ∙ ap (λ a. first ++ serving_steps normal a first set1 (atoms_of normal)) e4
    ∙ ap (λ s. first ++ serving_steps normal accesses first s (atoms_of normal)) bound)
    ∙ sym (greedy_some normal accesses start first added)

pub greedy_nothing : (normal : Normal) (accesses a2 : List Access) (start set0 : ClassSet) → a2 ≡ accesses → set0 ≡ start
    → adding_steps normal.count normal a2 set0 ≡ None → None ≡ greedy_steps normal accesses start
greedy_nothing normal accesses a2 start set0 e2 e0 ea =
    sym (greedy_none normal accesses start (ap (λ a. adding_steps normal.count normal a start) (sym e2)
    ∙ ap (adding_steps normal.count normal a2) (sym e0) ∙ ea))

pub not_some : {A : Type 0} (o : Option A) → ((x : A) → o ≡ Some x → ⊥) → o ≡ None
not_some None h = refl
not_some (Some x) h = absurd (h x refl)

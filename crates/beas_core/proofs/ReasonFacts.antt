-- A block is covered, or there is a reason why it isn't.
use Rattle.std.proofs.Common.{◌≡◌, ◌==◌, ◌&&◌, ◌||◌, ◌<◌, ◌+◌, ℕ, Bool, true, false, not, cond, List, [], ◌∷◌, length, Option, Some, None, refl, ap, ◌∙◌, arith}
use Rattle.std.specs.List.{list_any, list_all, find}
use Rattle.std.specs.Option.{option_map, option_or}
use Rattle.std.proofs.lemmas.Bool.{eqb-true}
use Rattle.beas_core.specs.declared.schema.Access.{Access}
use Rattle.beas_core.specs.declared.plan.Normal.{Normal}
use Rattle.beas_core.specs.declared.plan.NotCovered.{NotCovered}
use Rattle.beas_core.specs.declared.plan.NotCovered.TheVariants.{ColumnOpen, AtomUnindexed}
use Rattle.beas_core.specs.Types.{ClassSet}
use Rattle.beas_core.specs.Coverage.{has, place_class, uses, needed_places, serves, is_served, is_open, atoms_of, is_covered, covered_set, reason}
use Rattle.beas_core.specs.Guiding.{BlockTask, task_start, task_reason, first_uncovered_from, first_uncovered}
use Rattle.beas_core.proofs.Sets.{Has-from_contains, Contains-from_has}
use Rattle.beas_core.specs.Covered.{Server, IsCovered, task_is_covered}
use Rattle.beas_core.proofs.MemberTests.{and_left, and_right, and_both, from_not, to_not, any_has, any_by, all_has, all_by, none_has, none_by}
use Rattle.beas_core.proofs.UseFacts.{same_number}
use Rattle.beas_core.proofs.BindingFacts.{Has-range, from_range}

-- nothing passes a test exactly where none is found
find_none : {A : Type 0} (p : A → Bool) (xs : List A) → list_any p xs ≡ false → find p xs ≡ None
find_none p [] h = refl
find_none {A} p (x ∷ xs) h = by (p x) h (find_none p xs)
  where
    by : (b : Bool) → (b || list_any p xs) ≡ false → (list_any p xs ≡ false → find p xs ≡ None) → cond b (Some x) (find p xs) ≡ None
    by true g later = cc
    by false g later = later g

none_found : {A : Type 0} (p : A → Bool) (xs : List A) → find p xs ≡ None → list_any p xs ≡ false
none_found p [] h = refl
none_found {A} p (x ∷ xs) h = by (p x) h (none_found p xs)
  where
    by : (b : Bool) → cond b (Some x) (find p xs) ≡ None → (find p xs ≡ None → list_any p xs ≡ false) → (b || list_any p xs) ≡ false
    by true g later = cc
    by false g later = later g

any_not : {A : Type 0} (p : A → Bool) (xs : List A) → list_all p xs ≡ true → list_any (λ x. not (p x)) xs ≡ false
any_not p xs h = none_by (λ x. not (p x)) xs (λ y m. ap not (all_has p xs y h m))

all_not : {A : Type 0} (p : A → Bool) (xs : List A) → list_any (λ x. not (p x)) xs ≡ false → list_all p xs ≡ true
all_not p xs h = all_by p xs (λ y m. twice (p y) (none_has (λ x. not (p x)) xs y h m))
  where
    twice : (b : Bool) → not b ≡ false → b ≡ true
    twice true e = refl
    twice false e = cc

neither : {A B C : Type 0} (f : A → C) (g : B → C) (a : Option A) (b : Option B) → option_or (option_map f a) (option_map g b) ≡ None → (a ≡ None) × (b ≡ None)
neither f g None None h = (refl, refl)
neither f g None (Some y) h = cc
neither f g (Some x) b h = cc

module _ (normal : Normal) (accesses : List Access) (set : ClassSet) where
  pub reason-covered : reason normal accesses set ≡ None → is_covered normal accesses set ≡ true
  unfolding reason is_covered
  reason-covered h =
      let n = neither (λ p. ColumnOpen p.atom p.column) (λ atom. AtomUnindexed atom) (find (is_open normal set) (needed_places normal))
      (find (λ atom. not (is_served normal accesses set atom)) (atoms_of normal)) h in
      and_both (not (list_any (is_open normal set) (needed_places normal))) (list_all (is_served normal accesses set) (atoms_of normal))
      (to_not (list_any (is_open normal set) (needed_places normal)) (none_found (is_open normal set) (needed_places normal) n.0))
      (all_not (is_served normal accesses set) (atoms_of normal) (none_found (λ atom. not (is_served normal accesses set atom)) (atoms_of normal) n.1))

  pub covered-reason : is_covered normal accesses set ≡ true → reason normal accesses set ≡ None
  unfolding reason is_covered
  covered-reason h =
      let none_open = not (list_any (is_open normal set) (needed_places normal)) in
      let all_served = list_all (is_served normal accesses set) (atoms_of normal) in
      let a = find_none (is_open normal set) (needed_places normal)
      (from_not (list_any (is_open normal set) (needed_places normal)) (and_left none_open all_served h)) in
      let b = find_none (λ atom. not (is_served normal accesses set atom)) (atoms_of normal)
      (any_not (is_served normal accesses set) (atoms_of normal) (and_right none_open all_served h)) in
      ap (λ o. option_or (option_map (λ p. ColumnOpen p.atom p.column) o)
      (option_map (λ atom. AtomUnindexed atom) (find (λ atom. not (is_served normal accesses set atom)) (atoms_of normal)))) a
      ∙ ap (λ o. option_map (λ atom. AtomUnindexed atom) o) b

  pub covered_in_words : is_covered normal accesses set ≡ true → IsCovered normal accesses set
  unfolding is_covered
  covered_in_words h = record {
    columns = λ place m. twice (has set (place_class normal place))
        (none_has (is_open normal set) (needed_places normal) place
        (from_not (list_any (is_open normal set) (needed_places normal))
        (and_left (not (list_any (is_open normal set) (needed_places normal))) (list_all (is_served normal accesses set) (atoms_of normal)) h))
        (Has-from_contains (needed_places normal) place m));
    atoms = λ atom l. served atom
        (all_has (is_served normal accesses set) (atoms_of normal) atom
        (and_right (not (list_any (is_open normal set) (needed_places normal))) (list_all (is_served normal accesses set) (atoms_of normal)) h)
        (Has-range (length normal.atoms) 0 atom (omega arith) (omega arith)));
  }
    where
      twice : (b : Bool) → not b ≡ false → b ≡ true
      twice true e = refl
      twice false e = cc

      served : (atom : ℕ) → is_served normal accesses set atom ≡ true → Server normal accesses set atom
      served atom g =
          let r = any_has (λ u. (u.atom == atom) && serves normal set u) (uses normal accesses) g in
          record {
            by = r.0;
            member = Contains-from_has (uses normal accesses) r.0 r.1;
            on_atom = eqb-true r.0.atom atom (and_left (r.0.atom == atom) (serves normal set r.0) r.2);
            serves_it = and_right (r.0.atom == atom) (serves normal set r.0) r.2;
          }

  pub covered_from_words : IsCovered normal accesses set → is_covered normal accesses set ≡ true
  unfolding is_covered
  covered_from_words h =
      and_both (not (list_any (is_open normal set) (needed_places normal))) (list_all (is_served normal accesses set) (atoms_of normal))
      (to_not (list_any (is_open normal set) (needed_places normal))
      (none_by (is_open normal set) (needed_places normal) (λ place m. ap not (h.columns place (Contains-from_has (needed_places normal) place m)))))
      (all_by (is_served normal accesses set) (atoms_of normal) (λ atom m. served atom (from_range (length normal.atoms) 0 atom m)))
    where
      served : (atom : ℕ) → atom < 0 + length normal.atoms → is_served normal accesses set atom ≡ true
      served atom l =
          let s = h.atoms atom (omega (arith, l)) in
          any_by (λ u. (u.atom == atom) && serves normal set u) (uses normal accesses) s.by (Has-from_contains (uses normal accesses) s.by s.member)
          (and_both (s.by.atom == atom) (serves normal set s.by) (same_number s.by.atom atom s.on_atom) s.serves_it)

-- there is no first uncovered block exactly where each is covered
none_uncovered : (n : ℕ) (tasks : List BlockTask) → list_all task_is_covered tasks ≡ true → first_uncovered_from n tasks ≡ None
none_uncovered n [] h = refl
none_uncovered n (task ∷ tasks) h =
    let here = covered-reason task.normal task.accesses (covered_set task.normal task.accesses (task_start task))
    (and_left (task_is_covered task) (list_all task_is_covered tasks) h) in
    let later = none_uncovered (n + 1) tasks (and_right (task_is_covered task) (list_all task_is_covered tasks) h) in
    ap (λ o. option_or (option_map (λ why. record { block = n; why = why }) o) (first_uncovered_from (n + 1) tasks)) here ∙ later

all_covered : (n : ℕ) (tasks : List BlockTask) → first_uncovered_from n tasks ≡ None → list_all task_is_covered tasks ≡ true
all_covered n [] h = refl
all_covered n (task ∷ tasks) h = by (task_reason task) refl h (all_covered (n + 1) tasks)
  where
    by : (o : Option NotCovered) → task_reason task ≡ o
        → option_or (option_map (λ why. record { block = n; why = why }) o) (first_uncovered_from (n + 1) tasks) ≡ None
        → (first_uncovered_from (n + 1) tasks ≡ None → list_all task_is_covered tasks ≡ true)
        → list_all task_is_covered (task ∷ tasks) ≡ true
    by None e g later =
        and_both (task_is_covered task) (list_all task_is_covered tasks)
        (reason-covered task.normal task.accesses (covered_set task.normal task.accesses (task_start task)) e) (later g)
    by (Some why) e g later = cc

pub covered-no_first : (tasks : List BlockTask) → list_all task_is_covered tasks ≡ true → first_uncovered tasks ≡ None
covered-no_first tasks h = none_uncovered 0 tasks h

pub no_first-covered : (tasks : List BlockTask) → first_uncovered tasks ≡ None → list_all task_is_covered tasks ≡ true
no_first-covered tasks h = all_covered 0 tasks h

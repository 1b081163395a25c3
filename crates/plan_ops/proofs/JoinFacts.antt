-- Joined rows: their classes, their places, and the values there.
use Rattle.std.proofs.Common.{◌≡◌, ◌==◌, ◌<◌, ◌+◌, ◌-◌, ℕ, false, not, cond, List, [], ◌∷◌, ◌++◌, length, get_or, map, All, inl, inr, refl, ap, sym, subst, ◌∙◌, arith, ◌≤◌}
use Rattle.std.specs.List.{filter, range_with_len}
use Rattle.std.proofs.lemmas.Bool.{eqb-true}
use Rattle.std.proofs.lemmas.List.{map-append, length-map, length-append, append-nil}
use Rattle.std.proofs.lemmas.List.Elements.{filter-append}
use Rattle.beas_core.specs.declared.plan.Normal.{Normal}
use Rattle.beas_core.specs.Types.{ClassSet, Use}
use Rattle.beas_core.specs.Coverage.{with_classes, class_at, ClassesInRange}
use Rattle.beas_core.specs.Derivations.{member_classes}
use Rattle.beas_core.specs.Groups.{member_columns}
use Rattle.beas_core.specs.Valuations.{classes_in}
use Rattle.beas_core.proofs.Sets.{Has, Has-get_or, Has-from_filter, Has-from_map, Has-append_cases}
use Rattle.beas_core.proofs.BindingFacts.{from_classes_in, from_range, range_least}
use Rattle.beas_core.proofs.ClassSetFacts.{has_below}
use Rattle.beas_core.proofs.MemberTests.{which}
use Rattle.beas_core.proofs.UseFacts.{same_number}
use Rattle.plan_ops.specs.declared.joining.Join.{Join}
use Rattle.plan_ops.specs.Joins.{checks_of, joined_classes, IsWithin}
use Rattle.plan_ops.specs.Over.{set_of}
use Rattle.plan_ops.specs.Places.{place_of}
use Rattle.plan_ops.proofs.BoundSets.{counted, held_from, range-push}
use Rattle.plan_ops.proofs.PlaceFacts.{place-in}

-- the checks of the places before one
abbrev pub checks_upto : ℕ → List ℕ → ℕ → List (ℕ × ℕ)
checks_upto known classes at = filter (λ c. not (c.0 == c.1)) (map (λ i. (i, place_of classes (get_or classes i 0))) (range_with_len known (at - known)))

one_more : (known : ℕ) (classes : List ℕ) (n : ℕ) → known ≤ n → checks_upto known classes (n + 1)
    ≡ checks_upto known classes n ++ filter (λ c. not (c.0 == c.1)) ((n, place_of classes (get_or classes n 0)) ∷ [])
one_more known classes n le =
    let pair : ℕ → ℕ × ℕ = λ i. (i, place_of classes (get_or classes i 0)) in
    let p = λ (c : ℕ × ℕ). not (c.0 == c.1) in
    ap (λ m. filter p (map pair (range_with_len known m))) (longer known n le)
    ∙ ap (λ ks. filter p (map pair ks)) (range-push known (n - known))
    ∙ ap (filter p) (map-append pair (range_with_len known (n - known)) ((known + (n - known)) ∷ []))
    ∙ filter-append p (map pair (range_with_len known (n - known))) (pair (known + (n - known)) ∷ [])
    ∙ ap (λ k. checks_upto known classes n ++ filter p (pair k ∷ [])) (back known n le)
  where
    longer : (k n : ℕ) → k ≤ n → (n + 1) - k ≡ (n - k) + 1
    longer k n l = omega (arith, l)

    back : (k n : ℕ) → k ≤ n → k + (n - k) ≡ n
    back k n l = omega (arith, l)

pub checks_none : (known : ℕ) (classes : List ℕ) → [] ≡ checks_upto known classes known
checks_none known classes = sym (ap (λ m. filter (λ c. not (c.0 == c.1)) (map (λ i. (i, place_of classes (get_or classes i 0))) (range_with_len known m)))
    (none known))
  where
    none : (k : ℕ) → k - k ≡ 0
    none k = omega arith

pub checks_more : (known : ℕ) (classes : List ℕ) (n first : ℕ) → known ≤ n → first ≡ place_of classes (get_or classes n 0) → (n ≡ first → ⊥)
    → checks_upto known classes n ++ (n, first) ∷ [] ≡ checks_upto known classes (n + 1)
checks_more known classes n first le e h = sym (one_more known classes n le
    ∙ ap (λ f. checks_upto known classes n ++ filter (λ c. not (c.0 == c.1)) ((n, f) ∷ [])) (sym e)
    ∙ ap (λ b. checks_upto known classes n ++ cond (not b) ((n, first) ∷ []) []) (differ n first h))
  where
    differ : (a b : ℕ) → (a ≡ b → ⊥) → (a == b) ≡ false
    differ a b h = elim (which (a == b)) [ inl e ↦ absurd (h (eqb-true a b e)) | inr e ↦ e ]

pub checks_same : (known : ℕ) (classes : List ℕ) (n first : ℕ) → known ≤ n → first ≡ place_of classes (get_or classes n 0) → n ≡ first
    → checks_upto known classes n ≡ checks_upto known classes (n + 1)
checks_same known classes n first le e h = sym (one_more known classes n le
    ∙ ap (λ f. checks_upto known classes n ++ filter (λ c. not (c.0 == c.1)) ((n, f) ∷ [])) (sym e)
    ∙ ap (λ b. checks_upto known classes n ++ cond (not b) ((n, first) ∷ []) []) (same_number n first h)
    ∙ append-nil (checks_upto known classes n))

pub with-append : (set : ClassSet) (xs ys : List ℕ) → with_classes set (xs ++ ys) ≡ with_classes (with_classes set xs) ys
with-append set [] ys = refl
with-append set (x ∷ xs) ys = with-append (with_classes set (x ∷ [])) xs ys

module _ (normal : Normal) (ranges : ClassesInRange normal) (u : Use) (classes : List ℕ) (are : classes ≡ classes_in (set_of normal classes)) where
  abbrev joined : List ℕ
  joined = joined_classes normal u classes

  pub joined_small : All (λ class. class < normal.count) (joined_classes normal u classes)
  joined_small k d l = elim (Has-append_cases classes (member_classes normal u) (get_or joined k d) (Has-get_or joined k d l)) [
    | inl h ↦ (
        let b = has_below (set_of normal classes) (get_or joined k d)
        (from_classes_in (set_of normal classes) (get_or joined k d) (subst (λ cs. Has cs (get_or joined k d)) are h)) in
        let n = counted normal classes in
        omega (arith, b, n))
    | inr h ↦ (
        let m = Has-from_map (class_at normal u.atom) (member_columns u.access) (get_or joined k d) h in
        subst (λ c. c < normal.count) (sym m.2) (ranges u.atom m.0))
  ]

  pub joined_length : length (joined_classes normal u classes) ≡ length classes + length (member_columns u.access)
  joined_length =
      let a = length-append classes (member_classes normal u) in
      let b = length-map (member_columns u.access) (class_at normal u.atom) in
      omega (arith, a, b)

  pub sources_within : All (λ place. place < length classes + length (member_columns u.access))
      (map (place_of (joined_classes normal u classes)) (classes_in (set_of normal (joined_classes normal u classes))))
  sources_within k d l =
      let m = Has-from_map (place_of joined) (classes_in (set_of normal joined)) (get_or (map (place_of joined) (classes_in (set_of normal joined))) k d)
      (Has-get_or (map (place_of joined) (classes_in (set_of normal joined))) k d l) in
      let p = place-in joined m.0 (held_from normal joined m.0 (from_classes_in (set_of normal joined) m.0 m.1)) in
      let n = joined_length in
      let e = m.2 in
      omega (arith, p, n, e)

  abbrev known : ℕ
  known = length classes + length u.access.key

  check_from : (k : ℕ) (d : ℕ × ℕ) → k < length (checks_of known joined)
      → (i : ℕ) × (known ≤ i) × (i < length joined) × (get_or (checks_of known joined) k d ≡ (i, place_of joined (get_or joined i 0)))
  check_from k d l =
      let pair : ℕ → ℕ × ℕ = λ i. (i, place_of joined (get_or joined i 0)) in
      let f = Has-from_filter (λ (c : ℕ × ℕ). not (c.0 == c.1)) (map pair (range_with_len known (length joined - known))) (get_or (checks_of known joined) k d)
      (Has-get_or (checks_of known joined) k d l) in
      let m = Has-from_map pair (range_with_len known (length joined - known)) (get_or (checks_of known joined) k d) f.0 in
      let r = from_range (length joined - known) known m.0 m.1 in
      let a = range_least (length joined - known) known m.0 m.1 in
      (m.0, a, omega (arith, r, a), m.2)

  -- the first place of a check is a tuple's
  pub left_behind : All (λ c. length classes ≤ c.0) (checks_of (length classes + length u.access.key) (joined_classes normal u classes))
  left_behind k d l =
      let r = check_from k d l in
      let i = r.1 in
      let e = ap (λ (c : ℕ × ℕ). c.0) r.3 in
      omega (arith, i, e)

  pub left_within : All (λ c. c.0 < length classes + length (member_columns u.access)) (checks_of (length classes + length u.access.key)
      (joined_classes normal u classes))
  left_within k d l =
      let r = check_from k d l in
      let n = joined_length in
      let i = r.2 in
      let e = ap (λ (c : ℕ × ℕ). c.0) r.3 in
      omega (arith, n, i, e)

  pub right_within : All (λ c. c.1 < length classes + length (member_columns u.access)) (checks_of (length classes + length u.access.key)
      (joined_classes normal u classes))
  right_within k d l =
      let r = check_from k d l in
      let n = joined_length in
      let p = place-in joined (get_or joined r.0 0) (Has-get_or joined r.0 0 r.2) in
      let e = ap (λ (c : ℕ × ℕ). c.1) r.3 in
      omega (arith, n, p, e)

  pub is_within : (join : Join) → join.sources.items ≡ map (place_of (joined_classes normal u classes)) (classes_in (set_of normal (joined_classes
      normal u classes)))
      → join.checks.items ≡ checks_of (length classes + length u.access.key) (joined_classes normal u classes) → IsWithin (length classes + length
      (member_columns u.access)) join
  is_within join e f =
      let width = length classes + length (member_columns u.access) in
      record {
        sources_are = subst (All (λ place. place < width)) (sym e) sources_within;
        left_are = subst (All (λ (c : ℕ × ℕ). c.0 < width)) (sym f) left_within;
        right_are = subst (All (λ (c : ℕ × ℕ). c.1 < width)) (sym f) right_within;
      }

  pub known_few : length classes + length u.access.key ≤ length (joined_classes normal u classes)
  known_few =
      let n = joined_length in
      let m = length-append u.access.key u.access.fetched in
      omega (arith, n, m)

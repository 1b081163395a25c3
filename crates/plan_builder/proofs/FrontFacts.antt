-- What a front comes to with one use more, and what follows it without the use at a place.
use Rattle.std.proofs.Common.{◌≡◌, ◌&&◌, ◌||◌, ◌==◌, ◌+◌, ◌-◌, ◌*◌, ◌<◌, ◌≤◌, ◌^◌, ℕ, zero, suc, Bool, true, false, cond, List, [], ◌∷◌, ◌++◌, length, map, take, drop, get_or, Option, Some, None, inl, inr, refl, ap, sym, ◌∙◌, subst, arith, add-one}
use Rattle.std.specs.Prelude.{IfSome, MatchOption}
use Rattle.std.proofs.Math.Seq.{split_at}
use Rattle.std.proofs.lemmas.Bool.{eqb-true}
use Rattle.std.proofs.lemmas.List.{drop-map, length-drop, take_all}
use Rattle.std.proofs.lemmas.List.Folds.{list_any-append}
use Rattle.std.proofs.lemmas.List.Sums.{fold-append}
use Rattle.beas_core.specs.declared.plan.Normal.{Normal}
use Rattle.beas_core.specs.declared.plan.Sizes.{Sizes}
use Rattle.beas_core.specs.Types.{ClassSet, Use}
use Rattle.beas_core.specs.Coverage.{atoms_of, holds_classes, holds_needed, key_classes}
use Rattle.beas_core.specs.Derivations.{adds_class, with_use}
use Rattle.beas_core.proofs.Sets.{Has, Has-append_cases, Has-append_left, Has-append_right}
use Rattle.beas_core.proofs.MemberTests.{all_by, all_has, and_left, and_right, any_by, any_has, which}
use Rattle.beas_core.proofs.BindingFacts.{Has-range, from_range}
use Rattle.attribute_closure.specs.declared.uses.UseAt.{UseAt}
use Rattle.attribute_closure.specs.Uses.{as_use}
use Rattle.plan_builder.specs.declared.fronts.Front.{Front}
use Rattle.plan_builder.specs.Fronts.{IsFront, SizesAre, size_from, sizes_from}
use Rattle.plan_builder.specs.Plans.{served_among}
use Rattle.plan_builder.specs.Trials.{all_are_served, are_sound, binds_needed, keys_are_bound, more_size, number_from, set_after, uses_without}

-- ---- lists of uses

pub at_use : (us : List UseAt) (i : ℕ) (item : UseAt) → item ≡ get_or us i item → as_use item ≡ get_or (map as_use us) i (as_use item)
at_use us i item is = ap as_use is ∙ sym (by us i)
  where
    by : (us : List UseAt) (i : ℕ) → get_or (map as_use us) i (as_use item) ≡ as_use (get_or us i item)
    by [] zero = refl
    by [] (suc i) = refl
    by (u ∷ us) zero = refl
    by (u ∷ us) (suc i) = by us i

-- the uses from a place on, as a slice has them
pub uses_from : (us : List UseAt) (n : ℕ) → map as_use (take (length us - n) (drop n us)) ≡ drop n (map as_use us)
uses_from us n =
    let long = length-drop n us in
    ap (map as_use) (take_all (length us - n) (drop n us) (omega (arith, long))) ∙ sym (drop-map as_use n us)

-- ---- one use more

module _ (normal : Normal) where
  number_more : (done : List Use) (set : ClassSet) (b : ℕ) (u : Use)
      → number_from normal set b (done ++ u ∷ []) ≡ number_from normal set b done + size_from normal set b done * u.access.bound
  number_more [] set b u = omega arith
  number_more (v ∷ done) set b u =
      let rest = number_more done (with_use normal set v) (more_size normal set b v) u in
      omega (arith, rest)

  size_more : (done : List Use) (set : ClassSet) (b : ℕ) (u : Use)
      → size_from normal set b (done ++ u ∷ []) ≡ more_size normal (set_after normal set done) (size_from normal set b done) u
  size_more [] set b u = refl
  size_more (v ∷ done) set b u = size_more done (with_use normal set v) (more_size normal set b v) u

  module _ (start : ClassSet) (done : List Use) (u : Use) where
    pub set_more : set_after normal start (done ++ u ∷ []) ≡ with_use normal (set_after normal start done) u
    set_more = fold-append (with_use normal) start done (u ∷ [])

    pub no_sizes_more : SizesAre normal start done None → SizesAre normal start (done ++ u ∷ []) None
    no_sizes_more h = record {
      are = (let past = h.are in let more = number_more done start 1 u in omega (arith, past, more));
      small = tt;
    }

    abbrev step : Bool → Sizes → Sizes
    step adds s = record {
      reads = s.reads + s.last * u.access.bound;
      last = cond adds (s.last * u.access.bound) s.last;
    }

    pub sizes_more : (set : ClassSet) (sizes : Sizes) (adds : Bool) (next : Option Sizes) → set ≡ set_after normal start done
        → adds ≡ adds_class normal set u → SizesAre normal start done (Some sizes)
        → MatchOption next (2 ^ 128 ≤ sizes.reads + sizes.last * u.access.bound) (λ n. n ≡ step adds sizes)
        → IfSome next (λ n. n.reads < 2 ^ 128) → SizesAre normal start (done ++ u ∷ []) next
    sizes_more set sizes adds None e a h past small = record {
      are = (
          let same = ap (λ (s : Sizes). s.reads + s.last * u.access.bound) h.are in
          let more = number_more done start 1 u in
          omega (arith, past, same, more));
      small = tt;
    }
    sizes_more set sizes adds (Some next) e a h is small = record {
      are = is ∙ ap (step adds) h.are ∙ ap (λ b. step b (sizes_from normal start done)) (a ∙ ap (λ s. adds_class normal s u) e)
          ∙ ap (λ r. record { reads = r; last = more_size normal (set_after normal start done) (size_from normal start 1 done) u })
          (sym (number_more done start 1 u))
          ∙ ap (λ l. record { reads = number_from normal start 1 (done ++ u ∷ []); last = l }) (sym (size_more done start 1 u));
      small = small;
    }

  -- ---- without the use at a place

  both : (a b c : Bool) → (a && (b && c)) ≡ ((a && b) && c)
  both true b c = refl
  both false b c = refl

  keys-append : (set : ClassSet) (xs ys : List Use)
      → keys_are_bound normal set (xs ++ ys) ≡ (keys_are_bound normal set xs && keys_are_bound normal (set_after normal set xs) ys)
  keys-append set [] ys = refl
  keys-append set (x ∷ xs) ys =
      let first = holds_classes set (key_classes normal x) in
      ap (λ b. first && b) (keys-append (with_use normal set x) xs ys)
      ∙ both first (keys_are_bound normal (with_use normal set x) xs) (keys_are_bound normal (set_after normal set (x ∷ xs)) ys)

  module _ (start : ClassSet) (us : List Use) (p : ℕ) (first later : List Use) (is : first ≡ take p us) (are : later ≡ drop (p + 1) us) where
    abbrev keys_apart : keys_are_bound normal start (uses_without p us)
        ≡ (keys_are_bound normal start first && keys_are_bound normal (set_after normal start first) later)
    keys_apart = keys-append start (take p us) (drop (p + 1) us)
        ∙ ap (λ vs. keys_are_bound normal start vs && keys_are_bound normal (set_after normal start vs) (drop (p + 1) us)) (sym is)
        ∙ ap (λ vs. keys_are_bound normal start first && keys_are_bound normal (set_after normal start first) vs) (sym are)

    pub first_unbound : keys_are_bound normal start first ≡ false → keys_are_bound normal start (uses_without p us) ≡ false
    first_unbound h = keys_apart ∙ ap (λ b. b && keys_are_bound normal (set_after normal start first) later) h

    pub later_keys : (set : ClassSet) (answer : Bool) → keys_are_bound normal start first ≡ true → set ≡ set_after normal start first
        → answer ≡ keys_are_bound normal set later → keys_are_bound normal start (uses_without p us) ≡ answer
    later_keys set answer h e told = keys_apart ∙ ap (λ b. b && keys_are_bound normal (set_after normal start first) later) h
        ∙ ap (λ s. keys_are_bound normal s later) (sym e) ∙ sym told

    pub later_front : (front : Front) → IsFront normal start (first ++ later) front → IsFront normal start (uses_without p us) front
    later_front front h = subst (λ vs. IsFront normal start (vs ++ drop (p + 1) us) front) is (subst (λ vs. IsFront normal start (first ++ vs) front) are h)

  pub bound_of : (start : ClassSet) (us : List Use) → are_sound normal start us ≡ true → keys_are_bound normal start us ≡ true
  bound_of start us sound = and_left (keys_are_bound normal start us) (binds_needed normal (set_after normal start us))
      (and_left (keys_are_bound normal start us && binds_needed normal (set_after normal start us)) (all_are_served normal us) sound)

  pub served_of : (start : ClassSet) (us : List Use) → are_sound normal start us ≡ true → all_are_served normal us ≡ true
  served_of start us sound =
      and_right (keys_are_bound normal start us && binds_needed normal (set_after normal start us)) (all_are_served normal us) sound

  -- the use at the place served its own atom alone
  served_apart : (atom : ℕ) (x : Use) (xs ys : List Use) → served_among normal atom (xs ++ x ∷ ys) ≡ true
      → ((x.atom == atom) ≡ true → served_among normal atom (xs ++ ys) ≡ true) → served_among normal atom (xs ++ ys) ≡ true
  served_apart atom x xs ys all own =
      by (any_has serves (xs ++ x ∷ ys) all)
    where
      serves : Use → Bool
      serves u = (u.atom == atom) && holds_needed normal u

      by : (y : Use) × (Has (xs ++ x ∷ ys) y) × (serves y ≡ true) → served_among normal atom (xs ++ ys) ≡ true
      by (y, m, s) = elim (Has-append_cases xs (x ∷ ys) y m) [
        | inl h ↦ any_by serves (xs ++ ys) y (Has-append_left xs ys y h) s
        | inr (inl e) ↦ own (sym (ap (λ (u : Use). u.atom == atom) e) ∙ and_left (y.atom == atom) (holds_needed normal y) s)
        | inr (inr h) ↦ any_by serves (xs ++ ys) y (Has-append_right xs ys y h) s
      ]

  module _ (us : List Use) (p : ℕ) (x : Use) (is : x ≡ get_or us p x) (l : p < length us) (all : all_are_served normal us ≡ true) where
    abbrev rest : List Use
    rest = uses_without p us

    split : us ≡ take p us ++ x ∷ drop (p + 1) us
    split = split_at us p x l ∙ ap (λ u. take p us ++ u ∷ drop (suc p) us) (sym is) ∙ ap (λ n. take p us ++ x ∷ drop n us) (sym (add-one p))

    still_served : (atom : ℕ) → Has (atoms_of normal) atom → ((x.atom == atom) ≡ true → served_among normal atom rest ≡ true)
        → served_among normal atom rest ≡ true
    still_served atom m own = served_apart atom x (take p us) (drop (p + 1) us)
        (ap (served_among normal atom) (sym split) ∙ all_has (λ a. served_among normal a us) (atoms_of normal) atom all m) own

    pub served_besides : (answer : Bool) → x.atom < length normal.atoms
        → answer ≡ (served_among normal x.atom (take p us) || served_among normal x.atom (drop (p + 1) us)) → answer ≡ all_are_served normal rest
    served_besides answer inside either =
        let told = either ∙ sym (list_any-append (λ u. (u.atom == x.atom) && holds_needed normal u) (take p us) (drop (p + 1) us)) in
        elim (which (served_among normal x.atom rest)) [
          | inl e ↦ (told ∙ e) ∙ sym (all_by (λ a. served_among normal a rest) (atoms_of normal) (λ a m. still_served a m (λ same.
              subst (λ n. served_among normal n rest ≡ true) (eqb-true x.atom a same) e)))
          | inr e ↦ elim (which (all_are_served normal rest)) [
            | inl t ↦ (
                let s = all_has (λ a. served_among normal a rest) (atoms_of normal) x.atom t
                (Has-range (length normal.atoms) 0 x.atom (omega arith) (omega (arith, inside))) in
                told ∙ s ∙ sym t)
            | inr f ↦ (told ∙ e) ∙ sym f
          ]
        ]

    pub served_outside : length normal.atoms ≤ x.atom → true ≡ all_are_served normal rest
    served_outside outside = sym (all_by (λ a. served_among normal a rest) (atoms_of normal) (λ a m. still_served a m (λ same.
        let inside = from_range (length normal.atoms) 0 a m in
        let e = eqb-true x.atom a same in
        absurd (omega (arith, inside, e, outside)))))

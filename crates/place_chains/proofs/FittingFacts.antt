-- Tuples that pass a test have some values, so that none of them is left out where tuples are gone through by these values.
use Rattle.std.proofs.Common.{◌≡◌, ◌<◌, ◌≤◌, ◌+◌, ◌-◌, ◌++◌, ◌∷◌, ◌∙◌, [], ℕ, zero, suc, Bool, true, false, true≢false, cond, List, Option, Some, None, Bor, Contains, IfSome, is_some, length, take, get_or, refl, ap, sym, subst, append-nil, arith}
use Rattle.std.specs.List.{filter}
use Rattle.std.specs.List.Sorted.{IsStrictlyIncreasing}
use Rattle.std.proofs.lemmas.List.{get_or_default, take_all, take_more}
use Rattle.std.proofs.lemmas.List.Elements.{filter-append}
use Rattle.beas_core.specs.Types.{Row}
use Rattle.place_chains.specs.declared.fitting.Fitting.{Fitting}
use Rattle.place_chains.specs.Fitting.{HasNone, IsFitting, IsNext, IsRun}
use Rattle.place_chains.specs.TupleOrder.{values_at}

-- ---- a run, from its first number on

module _ (places : List ℕ) (tuples : List Row) (values : Row) where
  others_ascend : (x : ℕ) (xs : List ℕ) → IsStrictlyIncreasing (x ∷ xs) → IsStrictlyIncreasing xs
  others_ascend x xs up k l =
      let e : suc k + 1 ≡ suc (k + 1) = omega arith in
      subst (λ n. get_or xs k 0 < get_or (x ∷ xs) n 0) e (up (suc k) (omega (arith, l)))

  -- the first number is the least
  first_least : (x : ℕ) (xs : List ℕ) → IsStrictlyIncreasing (x ∷ xs) → (j : ℕ) → j < length xs → x < get_or xs j 0
  first_least x xs up zero l = up 0 (omega (arith, l))
  first_least x xs up (suc j) l =
      let e : j + 1 ≡ suc j = omega arith in
      let before = first_least x xs up j (omega (arith, l)) in
      let next = subst (λ n. get_or xs j 0 < get_or xs n 0) e (others_ascend x xs up j (omega (arith, l))) in
      omega (arith, before, next)

  module _ (from x : ℕ) (xs : List ℕ) (run : IsRun places tuples values from (x ∷ xs)) where
    first_within : (from ≤ x) × (x < length tuples)
    first_within = run.within 0 0 (omega arith)

    none_before : HasNone places tuples values from x
    none_before k lo hi e =
        let inside = first_within.1 in
        there k hi (run.none_left k lo (omega (arith, hi, inside)) e)
      where
        at : (k j : ℕ) → k < x → j < length (x ∷ xs) → get_or (x ∷ xs) j k ≡ k → ⊥
        at k zero less l is = omega (arith, less, is)
        at k (suc j) less l is =
            let far = first_least x xs run.ascending j (omega (arith, l)) in
            let same = get_or_default xs j k 0 (omega (arith, l)) in
            omega (arith, less, is, far, same)

        there : (k : ℕ) → k < x → Contains (x ∷ xs) k → ⊥
        there k less c = at k c.0 less c.1 c.2

    others_run : IsRun places tuples values (x + 1) xs
    others_run = record {
      ascending = others_ascend x xs run.ascending;
      within = λ k d l.
          let far = first_least x xs run.ascending k l in
          let same = get_or_default xs k d 0 l in
          let inside = run.within (suc k) d (omega (arith, l)) in
          let below = inside.1 in
          (omega (arith, far, same), omega (arith, below));
      have = λ k d l. run.have (suc k) d (omega (arith, l));
      none_left = λ i lo hi e. let from_first = first_within.0 in later i lo (run.none_left i (omega (arith, lo, from_first)) hi e);
    }
      where
        at : (i j : ℕ) → x + 1 ≤ i → j < length (x ∷ xs) → get_or (x ∷ xs) j i ≡ i → Contains xs i
        at i zero lo l is = absurd (omega (arith, lo, is))
        at i (suc j) lo l is = (j, omega (arith, l), is)

        later : (i : ℕ) → x + 1 ≤ i → Contains (x ∷ xs) i → Contains xs i
        later i lo c = at i c.0 lo c.1 c.2

-- ---- what comes next

module _ (places : List ℕ) (tuples : List Row) (values : Row) (f : Fitting) (fits : IsFitting places tuples values f) where
  abbrev RunIs : ℕ → Option (Bor (List ℕ)) → Type 0
  RunIs from o = IfSome o (λ run. IsRun places tuples values from run.now)

  module _ (run : Bor (List ℕ)) (is : f.run ≡ Some run) where
    run_is : IsRun places tuples values f.from run.now
    run_is = subst (RunIs f.from) is fits.run

    pub next_none : length run.now ≡ 0 → HasNone places tuples values f.from (length tuples)
    next_none empty k lo hi e = let c = run_is.none_left k lo hi e in let within = c.1 in omega (arith, within, empty)

    pub first_below : (first : ℕ) (others : List ℕ) → run.now ≡ first ∷ others → first < f.count
    first_below first others e =
        let whole = fits.count in
        let below = (first_within places tuples values f.from first others (subst (IsRun places tuples values f.from) e run_is)).1 in
        omega (arith, whole, below)

    pub next_found : (first : ℕ) (others : Bor (List ℕ)) → run.now ≡ first ∷ others.now
        → IsNext places tuples values f (Some first) (record { count = f.count; from = first + 1; run = Some others })
    next_found first others e =
        let whole : IsRun places tuples values f.from (first ∷ others.now) = subst (IsRun places tuples values f.from) e run_is in
        let inside = first_within places tuples values f.from first others.now whole in
        let below = inside.1 in (
          inside.0,
          below,
          none_before places tuples values f.from first others.now whole,
          refl,
          record { count = fits.count; from = omega (arith, below); run = others_run places tuples values f.from first others.now whole },
          λ some. whole.have 0 0 (omega arith),
        )

  -- where there is no run, it is the next tuple
  pub next_of_all : f.run ≡ None → f.from < f.count
      → IsNext places tuples values f (Some f.from) (record { count = f.count; from = f.from + 1; run = f.run })
  next_of_all none below =
      let whole = fits.count in (
        omega arith,
        omega (arith, below, whole),
        λ k lo hi e. absurd (omega (arith, lo, hi)),
        refl,
        record { count = whole; from = omega (arith, below, whole); run = subst (RunIs (f.from + 1)) (sym none) tt },
        λ some. absurd (true≢false (sym some ∙ ap is_some none)),
      )

-- ---- tuples that pass

module _ (p : Row → Bool) (tuples : List Row) where
  pub pass_more : (k : ℕ) → k < length tuples → filter p (take (k + 1) tuples) ≡ filter p (take k tuples) ++ cond (p (get_or tuples k [])) (get_or tuples k [] ∷ []) []
  pass_more k l = ap (filter p) (take_more tuples k [] l) ∙ filter-append p (take k tuples) (get_or tuples k [] ∷ [])

  none_between : (i n : ℕ) → i + n ≤ length tuples → ((k : ℕ) → i ≤ k → k < i + n → p (get_or tuples k []) ≡ true → ⊥)
      → filter p (take (i + n) tuples) ≡ filter p (take i tuples)
  none_between i zero l none = let e : i + 0 ≡ i = omega arith in ap (λ k. filter p (take k tuples)) e
  none_between i (suc n) l none =
      let e : i + suc n ≡ (i + n) + 1 = omega arith in
      ap (λ k. filter p (take k tuples)) e ∙ pass_more (i + n) (omega (arith, l))
      ∙ left_out (p (get_or tuples (i + n) [])) (none (i + n) (omega (arith)) (omega (arith)))
      ∙ none_between i n (omega (arith, l)) (λ k a b. none k a (omega (arith, b)))
    where
      left_out : (b : Bool) → (b ≡ true → ⊥)
          → filter p (take (i + n) tuples) ++ cond b (get_or tuples (i + n) [] ∷ []) [] ≡ filter p (take (i + n) tuples)
      left_out true not = absurd (not refl)
      left_out false not = append-nil (filter p (take (i + n) tuples))

  module _ (places : List ℕ) (values : Row) (only : (k : ℕ) → k < length tuples → p (get_or tuples k []) ≡ true → values_at places (get_or tuples k []) ≡ values) where
    -- no tuple passes that lies between
    pub none_passes : (i j : ℕ) → i ≤ j → j ≤ length tuples → HasNone places tuples values i j → filter p (take j tuples) ≡ filter p (take i tuples)
    none_passes i j lo hi none =
        let e : i + (j - i) ≡ j = omega (arith, lo) in
        sym (ap (λ k. filter p (take k tuples)) e)
        ∙ none_between i (j - i) (omega (arith, lo, hi)) (λ k a b t. none k a (omega (arith, b, lo)) (only k (omega (arith, b, lo, hi)) t))

    pub none_passes_more : (i : ℕ) → i ≤ length tuples → HasNone places tuples values i (length tuples) → filter p tuples ≡ filter p (take i tuples)
    none_passes_more i l none =
        ap (filter p) (sym (take_all (length tuples) tuples (omega arith))) ∙ none_passes i (length tuples) l (omega arith) none

-- Rows in order, cut where their keys change: the runs are the groups by key.
--     runs_of keys rows      the runs of rows with the same key
--     IsRun keys n rows      the first run has n rows
use Rattle.std.proofs.Common.{◌≡◌, ◌<◌, ◌≤◌, ◌+◌, ◌-◌, ◌∙◌, ℕ, zero, suc, Bool, true, false, cond, List, [], ◌∷◌, length, map, take, drop, get_or, refl, ap, sym, subst, arith}
use Rattle.std.specs.Prelude.{if◌then◌else◌}
use Rattle.std.specs.List.{AllByRecursion}
use Rattle.std.specs.declared.cmp.Ordering.{Ordering}
use Rattle.std.specs.declared.cmp.Ordering.TheVariants.{Less, Equal, Greater}
use Rattle.std.specs.Ordering.{is_eq, ordering_then}
use Rattle.beas_core.specs.Groups.{same_row}
use Rattle.beas_core.specs.Order.{row_cmp, row_cmp_total, value_cmp}
use Rattle.beas_core.specs.Sets.{by_order, add_in_order, IsInOrder}
use Rattle.beas_core.specs.Telling.{row_cmp_tells}
use Rattle.beas_core.specs.Types.{Row}
use Rattle.beas_core.proofs.Groups.{same_row_itself}
use Rattle.beas_core.proofs.Sets.{Has, Has-map, Has-distinct, all_at, all_from, greater_from_less}
use Rattle.aggregate.specs.Grouping.{group_at, groups_of, keys_of}
use Rattle.aggregate.specs.Runs.{same_key}

-- a row before the runs of those after it
abbrev pub before_runs : ℕ → Row → List (List Row) → List (List Row)
before_runs keys row [] = (row ∷ []) ∷ []
before_runs keys row ([] ∷ groups) = (row ∷ []) ∷ groups
before_runs keys row ((next ∷ group) ∷ groups) =
    if same_key keys row next then (row ∷ next ∷ group) ∷ groups else (row ∷ []) ∷ (next ∷ group) ∷ groups

abbrev pub runs_of : ℕ → List Row → List (List Row)
runs_of keys [] = []
runs_of keys (row ∷ rows) = before_runs keys row (runs_of keys rows)

pub record Begins (row : Row) (groups : List (List Row)) : Type 0 where
  pub group : List Row
  pub others : List (List Row)
  pub is : groups ≡ (row ∷ group) ∷ others

beginning : (keys : ℕ) (row : Row) (groups : List (List Row)) → Begins row (before_runs keys row groups)
beginning keys row [] = record { group = []; others = []; is = refl }
beginning keys row ([] ∷ groups) = record { group = []; others = groups; is = refl }
beginning keys row ((next ∷ group) ∷ groups) = by (same_key keys row next)
  where
    by : (b : Bool) → Begins row (if b then (row ∷ next ∷ group) ∷ groups else (row ∷ []) ∷ (next ∷ group) ∷ groups)
    by true = record { group = next ∷ group; others = groups; is = refl }
    by false = record { group = []; others = (next ∷ group) ∷ groups; is = refl }

-- so many rows from the front on have the first one's key, and no more
pub record IsRun (keys n : ℕ) (rows : List Row) : Type 0 where
  pub some : 1 ≤ n
  pub within : n ≤ length rows
  pub same : (i : ℕ) → suc i < n → same_key keys (get_or rows i []) (get_or rows (suc i) []) ≡ true
  pub ends : (k : ℕ) → suc k ≡ n → n < length rows → same_key keys (get_or rows k []) (get_or rows n []) ≡ false

alone : (keys : ℕ) (x y : Row) (zs : List Row) → same_key keys x y ≡ false → runs_of keys (x ∷ y ∷ zs) ≡ (x ∷ []) ∷ runs_of keys (y ∷ zs)
alone keys x y zs differ =
    let h = beginning keys y (runs_of keys zs) in
    ap (before_runs keys x) h.is
    ∙ ap (λ b. if b then (x ∷ y ∷ h.group) ∷ h.others else (x ∷ []) ∷ (y ∷ h.group) ∷ h.others) differ
    ∙ ap (λ rest. (x ∷ []) ∷ rest) (sym h.is)

pub first_run : (keys n : ℕ) (rows : List Row) → IsRun keys n rows → runs_of keys rows ≡ take n rows ∷ runs_of keys (drop n rows)
first_run keys zero rows h = absurd (let some = h.some in omega arith)
first_run keys (suc n) [] h = absurd (let within = h.within in omega arith)
first_run keys (suc zero) (x ∷ []) h = refl
first_run keys (suc zero) (x ∷ y ∷ zs) h = alone keys x y zs (h.ends 0 refl (omega arith))
first_run keys (suc (suc n)) (x ∷ []) h = absurd (let within = h.within in omega arith)
first_run keys (suc (suc n)) (x ∷ y ∷ zs) h =
    let later : IsRun keys (suc n) (y ∷ zs) = record {
      some = omega arith;
      within = let within = h.within in omega arith;
      same = λ i below. h.same (suc i) (omega arith);
      ends = λ k last below. h.ends (suc k) (ap suc last) (omega arith);
    } in
    ap (before_runs keys x) (first_run keys (suc n) (y ∷ zs) later)
    ∙ ap (λ b. if b then (x ∷ y ∷ take n zs) ∷ runs_of keys (drop n zs) else (x ∷ []) ∷ (y ∷ take n zs) ∷ runs_of keys (drop n zs))
    (h.same 0 (omega arith))

pub run_is : (keys n : ℕ) (rows : List Row) → 1 ≤ n → n ≤ length rows
    → ((i : ℕ) → i + 1 < n → same_key keys (get_or rows i []) (get_or rows (i + 1) []) ≡ true)
    → (n < length rows → same_key keys (get_or rows (n - 1) []) (get_or rows n []) ≡ false) → IsRun keys n rows
run_is keys n rows some within same ends = record {
  some = some;
  within = within;
  same = λ i below. let one : i + 1 ≡ suc i = omega arith in
      subst (λ j. same_key keys (get_or rows i []) (get_or rows j []) ≡ true) one (same i (omega arith));
  ends = λ k last below. let before : n - 1 ≡ k = omega (arith, last) in
      subst (λ j. same_key keys (get_or rows j []) (get_or rows n []) ≡ false) before (ends below);
}

pub IsInOrder-drop : {K : Type 0} (cmp : K → K → Ordering) (n : ℕ) (xs : List K) → IsInOrder cmp xs → IsInOrder cmp (drop n xs)
IsInOrder-drop cmp zero xs h = h
IsInOrder-drop cmp (suc n) [] h = h
IsInOrder-drop cmp (suc n) (x ∷ xs) h = IsInOrder-drop cmp n xs h.1

-- ---- runs are groups

-- rows in order have their first columns in order, if not strictly
take_keeps : (n : ℕ) (x y : Row) → row_cmp x y ≡ Less → row_cmp (take n x) (take n y) ≡ Greater → ⊥
take_keeps zero x y less greater = cc
take_keeps (suc n) [] [] less greater = cc
take_keeps (suc n) [] (y ∷ ys) less greater = cc
take_keeps (suc n) (x ∷ xs) [] less greater = cc
take_keeps (suc n) (x ∷ xs) (y ∷ ys) less greater = by (value_cmp x y) less greater (take_keeps n xs ys)
  where
    by : (o : Ordering) → ordering_then o (row_cmp xs ys) ≡ Less → ordering_then o (row_cmp (take n xs) (take n ys)) ≡ Greater
        → (row_cmp xs ys ≡ Less → row_cmp (take n xs) (take n ys) ≡ Greater → ⊥) → ⊥
    by Less l g rest = cc
    by Equal l g rest = rest l g
    by Greater l g rest = cc

-- a row isn't in the groups of keys after its own
passes_by : (keys : ℕ) (row : Row) (rows ks : List Row) → AllByRecursion (λ u. row_cmp (take keys row) u ≡ Less) ks
    → map (group_at keys (row ∷ rows)) ks ≡ map (group_at keys rows) ks
passes_by keys row rows [] h = refl
passes_by keys row rows (u ∷ ks) h =
    let other : same_row u (take keys row) ≡ false = ap is_eq (greater_from_less row_cmp_total row_cmp_tells (take keys row) u h.0) in
    ap (λ b. cond b (row ∷ group_at keys rows u) (group_at keys rows u) ∷ map (group_at keys (row ∷ rows)) ks) other
    ∙ ap (λ groups. group_at keys rows u ∷ groups) (passes_by keys row rows ks h.1)

-- a key before those of all rows has no row
none_left : (keys : ℕ) (key : Row) (rows : List Row) → AllByRecursion (λ (row : Row). row_cmp key (take keys row) ≡ Less) rows → group_at keys rows key ≡ []
none_left keys key [] h = refl
none_left keys key (row ∷ rows) h =
    ap (λ b. cond b (row ∷ group_at keys rows key) (group_at keys rows key)) (ap is_eq h.0) ∙ none_left keys key rows h.1

-- the keys of rows in order begin with the first row's
record Keys (keys : ℕ) (row : Row) (rows : List Row) : Type 0 where
  later : List Row
  is : keys_of keys (row ∷ rows) ≡ take keys row ∷ later
  after : AllByRecursion (λ u. row_cmp (take keys row) u ≡ Less) later

add_is : (key : Row) (first : Row) (later : List Row) (o : Ordering) → row_cmp key first ≡ o
    → add_in_order row_cmp key (first ∷ later) ≡ by_order o (key ∷ first ∷ later) (first ∷ later) (first ∷ add_in_order row_cmp key later)
add_is key first later o e = ap (λ d. by_order d (key ∷ first ∷ later) (first ∷ later) (first ∷ add_in_order row_cmp key later)) e

beyond : (key first : Row) (later : List Row) → row_cmp key first ≡ Less → AllByRecursion (λ u. row_cmp first u ≡ Less) later
    → AllByRecursion (λ u. row_cmp key u ≡ Less) later
beyond key first later e h =
    all_from (λ u. row_cmp key u ≡ Less) later (λ u m. row_cmp_total.trans key first u e (all_at (λ u. row_cmp first u ≡ Less) later u h m))

keys_begin : (keys : ℕ) (row : Row) (rows : List Row) → IsInOrder row_cmp (row ∷ rows) → Keys keys row rows
keys_begin keys row [] h = record { later = []; is = refl; after = tt }
keys_begin keys row (next ∷ rows) h = by (row_cmp (take keys row) (take keys next)) refl (keys_begin keys next rows h.1)
  where
    by : (o : Ordering) → row_cmp (take keys row) (take keys next) ≡ o → Keys keys next rows → Keys keys row (next ∷ rows)
    by Less e g = record {
      later = take keys next ∷ g.later;
      is = ap (add_in_order row_cmp (take keys row)) g.is ∙ add_is (take keys row) (take keys next) g.later Less e;
      after = (e, beyond (take keys row) (take keys next) g.later e g.after);
    }
    by Equal e g = let same = row_cmp_tells (take keys row) (take keys next) e in record {
      later = g.later;
      is = ap (add_in_order row_cmp (take keys row)) g.is ∙ add_is (take keys row) (take keys next) g.later Equal e ∙ ap (λ k. k ∷ g.later) (sym same);
      after = subst (λ k. AllByRecursion (λ u. row_cmp k u ≡ Less) g.later) (sym same) g.after;
    }
    by Greater e g = absurd (take_keeps keys row next h.0.0 e)

own_row : (keys : ℕ) (key row : Row) (rows : List Row) → key ≡ take keys row → group_at keys (row ∷ rows) key ≡ row ∷ group_at keys rows key
own_row keys key row rows same =
    ap (λ b. cond b (row ∷ group_at keys rows key) (group_at keys rows key)) (ap (same_row key) (sym same) ∙ same_row_itself key)

first_groups : (keys : ℕ) (row : Row) (rows : List Row) (g : Keys keys row rows)
    → groups_of keys (row ∷ rows) ≡ (row ∷ group_at keys rows (take keys row)) ∷ map (group_at keys rows) g.later
first_groups keys row rows g =
    ap (map (group_at keys (row ∷ rows))) g.is
    ∙ ap (λ group. group ∷ map (group_at keys (row ∷ rows)) g.later) (own_row keys (take keys row) row rows refl)
    ∙ ap (λ groups. (row ∷ group_at keys rows (take keys row)) ∷ groups) (passes_by keys row rows g.later g.after)

one_more : (keys : ℕ) (row next : Row) (rows : List Row) → IsInOrder row_cmp (row ∷ next ∷ rows)
    → groups_of keys (row ∷ next ∷ rows) ≡ before_runs keys row (groups_of keys (next ∷ rows))
one_more keys row next rows h =
    by (row_cmp k first) refl ∙ sym (ap (before_runs keys row) (first_groups keys next rows g))
  where
    k : Row
    k = take keys row

    first : Row
    first = take keys next

    g : Keys keys next rows
    g = keys_begin keys next rows h.1

    group : List Row
    group = group_at keys rows first

    groups : List (List Row)
    groups = map (group_at keys rows) g.later

    joins : (b : Bool) → same_key keys row next ≡ b
        → before_runs keys row ((next ∷ group) ∷ groups) ≡ (if b then (row ∷ next ∷ group) ∷ groups else (row ∷ []) ∷ (next ∷ group) ∷ groups)
    joins b e = ap (λ b. if b then (row ∷ next ∷ group) ∷ groups else (row ∷ []) ∷ (next ∷ group) ∷ groups) e

    by : (o : Ordering) → row_cmp k first ≡ o → groups_of keys (row ∷ next ∷ rows) ≡ before_runs keys row ((next ∷ group) ∷ groups)
    by Less e =
        let mine : Keys keys row (next ∷ rows) = record {
          later = first ∷ g.later;
          is = ap (add_in_order row_cmp k) g.is ∙ add_is k first g.later Less e;
          after = (e, beyond k first g.later e g.after);
        } in
        let all : AllByRecursion (λ (r : Row). row_cmp k (take keys r) ≡ Less) (next ∷ rows) =
        all_from (λ (r : Row). row_cmp k (take keys r) ≡ Less) (next ∷ rows) (λ r m.
        all_at (λ u. row_cmp k u ≡ Less) (first ∷ g.later) (take keys r) (e, beyond k first g.later e g.after)
        (subst (λ ks. Has ks (take keys r)) g.is
        (Has-distinct row_cmp_total row_cmp_tells (map (take keys) (next ∷ rows)) (take keys r) (Has-map (take keys) (next ∷ rows) r m)))) in
        first_groups keys row (next ∷ rows) mine
        ∙ ap (λ own. (row ∷ own) ∷ map (group_at keys (next ∷ rows)) (first ∷ g.later)) (none_left keys k (next ∷ rows) all)
        ∙ ap (λ own. (row ∷ []) ∷ own ∷ map (group_at keys (next ∷ rows)) g.later) (own_row keys first next rows refl)
        ∙ ap (λ others. (row ∷ []) ∷ (next ∷ group) ∷ others) (passes_by keys next rows g.later g.after)
        ∙ sym (joins false (ap is_eq e))
    by Equal e =
        let same = row_cmp_tells k first e in
        let mine : Keys keys row (next ∷ rows) = record {
          later = g.later;
          is = ap (add_in_order row_cmp k) g.is ∙ add_is k first g.later Equal e ∙ ap (λ x. x ∷ g.later) (sym same);
          after = subst (λ x. AllByRecursion (λ u. row_cmp x u ≡ Less) g.later) (sym same) g.after;
        } in
        first_groups keys row (next ∷ rows) mine
        ∙ ap (λ own. (row ∷ own) ∷ map (group_at keys (next ∷ rows)) g.later)
        (own_row keys k next rows same ∙ ap (λ x. next ∷ group_at keys rows x) same)
        ∙ ap (λ others. (row ∷ next ∷ group) ∷ others) (passes_by keys next rows g.later g.after)
        ∙ sym (joins true (ap is_eq e))
    by Greater e = absurd (take_keeps keys row next h.0.0 e)

pub runs_are : (keys : ℕ) (rows : List Row) → IsInOrder row_cmp rows → groups_of keys rows ≡ runs_of keys rows
runs_are keys [] h = refl
runs_are keys (row ∷ []) h = first_groups keys row [] (record { later = []; is = refl; after = tt })
runs_are keys (row ∷ next ∷ rows) h = one_more keys row next rows h ∙ ap (before_runs keys row) (runs_are keys (next ∷ rows) h.1)

-- The queue of the uses whose key is bound gives the best of those that add a class.
use Rattle.std.proofs.Common.{◌≡◌, ◌==◌, ◌&&◌, ◌||◌, ◌<◌, ◌≤◌, ◌+◌, ◌-◌, ℕ, zero, suc, Bool, true, false, not, cond, nat_lt, List, [], ◌∷◌, ◌++◌, length, map, take, drop, get_or, replicate, ◌⊎◌, inl, inr, Some, None, refl, ap, sym, ◌∙◌, subst, arith, add-one, append_assoc}
use Rattle.std.specs.List.{All, Contains, filter, find, best_of, list_any, list_all, slice_set}
use Rattle.std.specs.List.Sorted.{IsPermutation}
use Rattle.std.specs.Ordering.{is_lt, nat_cmp, ordering_then}
use Rattle.std.specs.BinaryHeap.{IsHeap, IsUpperBound}
use Rattle.std.proofs.lemmas.Bool.{cases_lt}
use Rattle.std.proofs.lemmas.Bool.Decides.{nat_tests}
use Rattle.std.proofs.lemmas.List.Elements.{All-tail, All-append, All-from_recursion, filter-append}
use Rattle.std.proofs.lemmas.List.Sorted.{All-permutation, Contains-permutation}
use Rattle.std.proofs.Math.Seq.{take-suc}
use Rattle.std.proofs.lemmas.List.{length-map, append-nil, length-drop, take_all, get_or-map, get_or-take, length-replicate, map-append, map_more}
use Rattle.attribute_closure.proofs.Sets.{with_push}
use Rattle.std.proofs.lemmas.Bool.{eqb-true}
use Rattle.beas_core.specs.declared.plan.Normal.{Normal}
use Rattle.beas_core.specs.declared.query.Place.{Place}
use Rattle.beas_core.specs.declared.schema.Access.{Access}
use Rattle.beas_core.specs.Types.{ClassSet, Use}
use Rattle.beas_core.specs.Groups.{member_columns}
use Rattle.beas_core.specs.Coverage.{ClassesInRange, Within, atoms_of, class_at, fetched_classes, has, holds_classes, holds_needed, is_covered, is_open, is_served, key_classes, needed_places, serves, uses, with_classes}
use Rattle.beas_core.specs.Derivations.{adds_class, least_bound, member_classes, with_use}
use Rattle.beas_core.proofs.Sets.{Has, Has-append_left, Has-append_right, Has-filter, Has-from_filter, Has-from_map, Has-map, Has-get_or, Has-from_contains, Contains-from_has, all_at, all_from}
use Rattle.beas_core.proofs.MemberTests.{all_by, all_has, and_left, and_right, and_both, any_by, any_has}
use Rattle.beas_core.proofs.ClassSetFacts.{has-with_cases, has-with_kept, has-with_new, holds-within, length-with}
use Rattle.beas_core.proofs.BindingFacts.{Has-range, from_range}
use Rattle.beas_core.proofs.SoundDerivations.{serves_within}
use Rattle.beas_core.proofs.UseFacts.{same_number, use_facts}
use Rattle.attribute_closure.specs.Keys.{number_at, AreCounted, GoesOn}
use Rattle.attribute_closure.specs.declared.uses.UseAt.{UseAt}
use Rattle.attribute_closure.specs.Uses.{no_use, as_use, use_at}
use Rattle.attribute_closure.proofs.Closing.{held_ready, ready_held}
use Rattle.plan_builder.specs.Candidates.{AreLeft, AreServed, AreWaiting, Entry, IsEntry, atoms_served, entry_of, later}
use Rattle.plan_builder.specs.Choices.{may_add}
use Rattle.plan_builder.proofs.ChoiceFacts.{lesser}

-- an open place among some, found or not
pub none_open : (normal : Normal) (set : ClassSet) (ps : List Place) → find (is_open normal set) ps ≡ None → list_any (is_open normal set) ps ≡ false
none_open normal set [] e = refl
none_open normal set (p ∷ ps) e = by (is_open normal set p) e (none_open normal set ps)
  where
    by : (b : Bool) → cond b (Some p) (find (is_open normal set) ps) ≡ None
        → (find (is_open normal set) ps ≡ None → list_any (is_open normal set) ps ≡ false) → (b || list_any (is_open normal set) ps) ≡ false
    by true f more = cc
    by false f more = more f

pub some_open : (normal : Normal) (set : ClassSet) (p : Place) (ps : List Place) → find (is_open normal set) ps ≡ Some p
    → list_any (is_open normal set) ps ≡ true
some_open normal set p [] e = cc
some_open normal set p (q ∷ ps) e = by (is_open normal set q) e (some_open normal set p ps)
  where
    by : (b : Bool) → cond b (Some q) (find (is_open normal set) ps) ≡ Some p
        → (find (is_open normal set) ps ≡ Some p → list_any (is_open normal set) ps ≡ true) → (b || list_any (is_open normal set) ps) ≡ true
    by true f more = refl
    by false f more = more f

-- ---- the least bound of a list

keeps : (x : Use) (back : List Use) → ((v : Use) → Has back v → lesser v x ≡ false) → best_of lesser x back ≡ x
keeps x [] h = refl
keeps x (v ∷ back) h = ap (λ b. best_of lesser (cond b v x) back) (h v (inl refl)) ∙ keeps x back (λ w m. h w (inr m))

finds : (u : Use) (front : List Use) (x : Use) (back : List Use) → lesser x u ≡ true → ((v : Use) → Has front v → lesser x v ≡ true)
    → ((v : Use) → Has back v → lesser v x ≡ false) → best_of lesser u (front ++ x ∷ back) ≡ x
finds u [] x back a f b = ap (λ c. best_of lesser (cond c x u) back) a ∙ keeps x back b
finds u (v ∷ front) x back a f b = finds (cond (lesser v u) v u) front x back (either (lesser v u)) (λ w m. f w (inr m)) b
  where
    either : (c : Bool) → lesser x (cond c v u) ≡ true
    either true = f v (inl refl)
    either false = a

least_split : (front : List Use) (x : Use) (back : List Use) → ((v : Use) → Has front v → lesser x v ≡ true)
    → ((v : Use) → Has back v → lesser v x ≡ false) → least_bound (front ++ x ∷ back) ≡ Some x
least_split [] x back f b = ap Some (keeps x back b)
least_split (v ∷ front) x back f b = ap Some (finds v front x back (f v (inl refl)) (λ w m. f w (inr m)) b)

at_take : {X : Type 0} (xs : List X) (n : ℕ) (y d : X) → Has (take n xs) y → (k : ℕ) × (k < n) × (k < length xs) × (get_or xs k d ≡ y)
at_take [] zero y d h = absurd h
at_take [] (suc n) y d h = absurd h
at_take (x ∷ xs) zero y d h = absurd h
at_take (x ∷ xs) (suc n) y d (inl e) = (0, omega arith, omega arith, sym e)
at_take (x ∷ xs) (suc n) y d (inr h) = let r = at_take xs n y d h in (suc r.0, omega (arith, r.1), omega (arith, r.2), r.3)

at_drop : {X : Type 0} (xs : List X) (n : ℕ) (y d : X) → Has (drop n xs) y → (k : ℕ) × (n ≤ k) × (k < length xs) × (get_or xs k d ≡ y)
at_drop [] zero y d h = absurd h
at_drop [] (suc n) y d h = absurd h
at_drop (x ∷ xs) zero y d (inl e) = (0, omega arith, omega arith, sym e)
at_drop (x ∷ xs) zero y d (inr h) = let r = at_drop xs zero y d h in (suc r.0, omega arith, omega (arith, r.2), r.3)
at_drop (x ∷ xs) (suc n) y d h = let r = at_drop xs n y d h in (suc r.0, omega (arith, r.1), omega (arith, r.2), r.3)

pub in_drop : {X : Type 0} (xs : List X) (n k : ℕ) (d : X) → n ≤ k → k < length xs → Has (drop n xs) (get_or xs k d)
in_drop [] n k d a l = absurd (omega (arith, l))
in_drop (x ∷ xs) zero k d a l = Has-get_or (x ∷ xs) k d l
in_drop (x ∷ xs) (suc n) zero d a l = absurd (omega (arith, a))
in_drop (x ∷ xs) (suc n) (suc k) d a l = in_drop xs n k d (omega arith) (omega arith)

halves : {X : Type 0} (xs : List X) (n : ℕ) (d : X) → n < length xs → xs ≡ take n xs ++ get_or xs n d ∷ drop (suc n) xs
halves [] n d l = absurd (omega (arith, l))
halves (x ∷ xs) zero d l = refl
halves (x ∷ xs) (suc n) d l = ap (λ ys. x ∷ ys) (halves xs n d (omega arith))

-- the use of least bound that passes a test, the first of those
module _ (p : Use → Bool) (us : List Use) (w : ℕ) (inside : w < length us) (passes : p (use_at us w) ≡ true)
    (lesser_first : (v : ℕ) → v < length us → p (use_at us v) ≡ true
    → ((use_at us w).access.bound ≤ (use_at us v).access.bound) × ((use_at us v).access.bound ≡ (use_at us w).access.bound → w ≤ v)) where
  below : (a b : ℕ) → a < b → nat_lt a b ≡ true
  below a b h = grind (arith, nat_tests)

  not_below : (a b : ℕ) → b ≤ a → nat_lt a b ≡ false
  not_below a b h = grind (arith, nat_tests)

  pub least_is : least_bound (filter p us) ≡ Some (use_at us w)
  least_is =
      ap (λ vs. least_bound (filter p vs)) (halves us w no_use inside)
      ∙ ap least_bound (filter-append p (take w us) (use_at us w ∷ drop (suc w) us))
      ∙ ap (λ b. least_bound (filter p (take w us) ++ cond b (use_at us w ∷ filter p (drop (suc w) us)) (filter p (drop (suc w) us)))) passes
      ∙ least_split (filter p (take w us)) (use_at us w) (filter p (drop (suc w) us)) before after
    where
      before : (v : Use) → Has (filter p (take w us)) v → lesser (use_at us w) v ≡ true
      before v m =
          let f = Has-from_filter p (take w us) v m in
          let k = at_take us w v no_use f.0 in
          let c = lesser_first k.0 k.2 (ap p k.3 ∙ f.1) in
          subst (λ x. lesser (use_at us w) x ≡ true) k.3
          (below (use_at us w).access.bound (use_at us k.0).access.bound (strict (use_at us w).access.bound (use_at us k.0).access.bound w k.0 c.0 c.1 k.1))
        where
          strict : (a b n k : ℕ) → a ≤ b → (b ≡ a → n ≤ k) → k < n → a < b
          strict a b n k h g l = elim (cases_lt a b) [
            | inl less ↦ less
            | inr most ↦ (let e : b ≡ a = omega arith in let few = g e in absurd (omega arith))
          ]

      after : (v : Use) → Has (filter p (drop (suc w) us)) v → lesser v (use_at us w) ≡ false
      after v m =
          let f = Has-from_filter p (drop (suc w) us) v m in
          let k = at_drop us (suc w) v no_use f.0 in
          let c = lesser_first k.0 k.2 (ap p k.3 ∙ f.1) in
          subst (λ x. lesser x (use_at us w) ≡ false) k.3 (not_below (use_at us k.0).access.bound (use_at us w).access.bound c.0)

pub empty : {X : Type 0} (xs : List X) → length xs ≡ 0 → xs ≡ []
empty [] h = refl
empty (x ∷ xs) h = absurd (omega (arith, h))

-- ---- what comes up

not_less : (a b c d : ℕ) → is_lt (ordering_then (nat_cmp a b) (nat_cmp c d)) ≡ false → (b ≤ a) × (a ≡ b → d ≤ c)
not_less a b c d h = (first a b c d h, second a b c d h)
  where
    first : (a b c d : ℕ) → is_lt (ordering_then (nat_cmp a b) (nat_cmp c d)) ≡ false → b ≤ a
    first a b c d h = grind (arith, nat_tests)

    second : (a b c d : ℕ) → is_lt (ordering_then (nat_cmp a b) (nat_cmp c d)) ≡ false → a ≡ b → d ≤ c
    second a b c d h e = grind (arith, nat_tests)

pub seen_is : (us : List UseAt) (i : ℕ) (u : UseAt) → i < length us → u ≡ get_or us i u → as_use u ≡ use_at (map as_use us) i
seen_is us i u below is = ap as_use is ∙ sym (get_or-map as_use us i u no_use below)

module _ (normal : Normal) (us : List Use) (set : ClassSet) where
  -- nothing is left where the queue is empty
  pub none_waiting : (entries : List Entry) → entries ≡ [] → AreWaiting normal us set entries → least_bound (filter (may_add normal set) us) ≡ None
  none_waiting entries empty waiting = by (filter (may_add normal set) us) refl
    where
      by : (vs : List Use) → filter (may_add normal set) us ≡ vs → least_bound vs ≡ None
      by [] e = refl
      by (v ∷ vs) e =
          let f = Has-from_filter (may_add normal set) us v (subst (λ xs. Has xs v) (sym e) (inl refl)) in
          let k = at_drop us 0 v no_use f.0 in
          let c = waiting.all k.0 k.2 (ap (may_add normal set) k.3 ∙ f.1) in
          absurd (Has-from_contains [] (entry_of us k.0) (subst (λ xs. Contains xs (entry_of us k.0)) empty c))

  module _ (entries rest : List Entry) (e : Entry) (waiting : AreWaiting normal us set entries) (permuted : IsPermutation entries (e ∷ rest))
      (order : IsHeap later rest) (greatest : IsUpperBound later e entries) where
    all_each : All (IsEntry normal us set) (e ∷ rest)
    all_each = All-permutation (IsEntry normal us set) entries (e ∷ rest) permuted waiting.each

    up : IsEntry normal us set e
    up = all_each 0 e (omega arith)

    -- the use that it stands for, where the code reads it
    pub up_is : (seen : List UseAt) (u : UseAt) → map as_use seen ≡ us → u ≡ get_or seen e.0.1 u → as_use u ≡ use_at us e.0.1
    up_is seen u same is =
        let number = up.number in
        seen_is seen e.0.1 u (omega (arith, number, ap length same, length-map seen as_use)) is ∙ ap (λ vs. use_at vs e.0.1) same

    left_each : All (IsEntry normal us set) rest
    left_each = All-tail (IsEntry normal us set) e rest all_each

    -- another use that may add a class is in the rest
    in_rest : (w : ℕ) → w < length us → may_add normal set (use_at us w) ≡ true → (w ≡ e.0.1) ⊎ Contains rest (entry_of us w)
    in_rest w l may = by (Has-from_contains (e ∷ rest) (entry_of us w)
        (Contains-permutation entries (e ∷ rest) (entry_of us w) permuted (waiting.all w l may)))
      where
        by : Has (e ∷ rest) (entry_of us w) → (w ≡ e.0.1) ⊎ Contains rest (entry_of us w)
        by (inl same) = inl (ap (λ (x : Entry). x.0.1) same)
        by (inr m) = inr (Contains-from_has rest (entry_of us w) m)

    pub passed : adds_class normal set (use_at us e.0.1) ≡ false → AreWaiting normal us set rest
    passed none = record {
      order = order;
      each = left_each;
      all = λ w l may. other w may (in_rest w l may);
    }
      where
        other : (w : ℕ) → may_add normal set (use_at us w) ≡ true → (w ≡ e.0.1) ⊎ Contains rest (entry_of us w) → Contains rest (entry_of us w)
        other w may (inl same) =
            let adds = and_right (holds_classes set (key_classes normal (use_at us w))) (adds_class normal set (use_at us w)) may in
            let same_adds = ap (λ n. adds_class normal set (use_at us n)) same in
            cc
        other w may (inr m) = m

    pub best : adds_class normal set (use_at us e.0.1) ≡ true → least_bound (filter (may_add normal set) us) ≡ Some (use_at us e.0.1)
    best adds = least_is (may_add normal set) us e.0.1 up.number
        (and_both (holds_classes set (key_classes normal (use_at us e.0.1))) (adds_class normal set (use_at us e.0.1)) up.held adds)
        (λ v l may. compared v (waiting.all v l may))
      where
        compared : (v : ℕ) → Contains entries (entry_of us v)
            → ((use_at us e.0.1).access.bound ≤ (use_at us v).access.bound) × ((use_at us v).access.bound ≡ (use_at us e.0.1).access.bound → e.0.1 ≤ v)
        compared v m =
            let test = all_at (λ y. is_lt (later e y) ≡ false) entries (entry_of us v) greatest (Has-from_contains entries (entry_of us v) m) in
            let order = not_less (use_at us v).access.bound e.0.0 v e.0.1 test in
            (subst (λ n. n ≤ (use_at us v).access.bound) up.bound order.0, λ same. order.1 (same ∙ sym up.bound))

    pub others : (taken : Use) → taken ≡ use_at us e.0.1 → adds_class normal (with_use normal set (use_at us e.0.1)) (use_at us e.0.1) ≡ false
        → AreLeft normal us set taken rest
    others taken is gone = record {
      order = order;
      each = left_each;
      all = λ w l may adds. other w adds (in_rest w l may);
    }
      where
        other : (w : ℕ) → adds_class normal (with_use normal set taken) (use_at us w) ≡ true → (w ≡ e.0.1) ⊎ Contains rest (entry_of us w)
            → Contains rest (entry_of us w)
        other w adds (inl same) =
            let one = ap (λ x. adds_class normal (with_use normal set x) (use_at us w)) is in
            let two = ap (λ n. adds_class normal (with_use normal set (use_at us e.0.1)) (use_at us n)) same in
            cc
        other w adds (inr m) = m

-- ---- one number more

pub entries_step : (us : List Use) (old : List Entry) (ns : List ℕ) (i : ℕ) (entry : Entry) → i < length ns → entry ≡ entry_of us (get_or ns i 0)
    → (old ++ map (entry_of us) (take i ns)) ++ entry ∷ [] ≡ old ++ map (entry_of us) (take (i + 1) ns)
entries_step us old ns i entry below is =
    append_assoc old (map (entry_of us) (take i ns)) (entry ∷ [])
    ∙ ap (λ e. old ++ (map (entry_of us) (take i ns) ++ e ∷ [])) is
    ∙ ap (λ es. old ++ es) (sym (map_more (entry_of us) ns i 0 below))

module _ (normal : Normal) (us : List Use) (s : List Bool) (ns : List ℕ) (i n : ℕ) (below : i < length ns) (is : n ≡ get_or ns i 0) where
  abbrev held : List ℕ → List Bool
  held xs = with_classes s (atoms_served normal us xs)

  front : take (i + 1) ns ≡ take i ns ++ n ∷ []
  front = ap (λ k. take k ns) (add-one i) ∙ take-suc ns i 0 below ∙ ap (λ m. take i ns ++ m ∷ []) (sym is)

  with_one : (xs : List ℕ) → atoms_served normal us (xs ++ n ∷ []) ≡ atoms_served normal us xs ++ cond (holds_needed normal (use_at us n))
      ((use_at us n).atom ∷ []) []
  with_one xs =
      ap (λ vs. map (λ (u : Use). u.atom) (filter (holds_needed normal) vs)) (map-append (use_at us) xs (n ∷ []))
      ∙ ap (map (λ (u : Use). u.atom)) (filter-append (holds_needed normal) (map (use_at us) xs) (use_at us n ∷ []))
      ∙ map-append (λ (u : Use). u.atom) (filter (holds_needed normal) (map (use_at us) xs)) (filter (holds_needed normal) (use_at us n ∷ []))
      ∙ ap (λ vs. atoms_served normal us xs ++ vs) (either (holds_needed normal (use_at us n)))
    where
      either : (b : Bool) → map (λ (u : Use). u.atom) (cond b (use_at us n ∷ []) []) ≡ cond b ((use_at us n).atom ∷ []) []
      either true = refl
      either false = refl

  pub served_step : with_classes s (atoms_served normal us (take (i + 1) ns))
      ≡ cond (holds_needed normal (use_at us n)) (slice_set (with_classes s (atoms_served normal us (take i ns))) (use_at us n).atom true)
      (with_classes s (atoms_served normal us (take i ns)))
  served_step =
      ap held front ∙ ap (with_classes s) (with_one (take i ns)) ∙ either (holds_needed normal (use_at us n))
    where
      either : (b : Bool) → with_classes s (atoms_served normal us (take i ns) ++ cond b ((use_at us n).atom ∷ []) [])
          ≡ cond b (slice_set (held (take i ns)) (use_at us n).atom true) (held (take i ns))
      either true = with_push s (atoms_served normal us (take i ns)) (use_at us n).atom
      either false = ap (with_classes s) (append-nil (atoms_served normal us (take i ns)))

-- ---- more uses whose key is bound

module _ (normal : Normal) (us : List Use) (set : ClassSet) (m : List ℕ) (lists : List (List ℕ)) (ready : List ℕ)
    (counted : AreCounted normal us set m lists ready) (n : ℕ) where
  new_each : All (IsEntry normal us set) (map (entry_of us) (drop n ready))
  new_each = All-from_recursion (IsEntry normal us set) (map (entry_of us) (drop n ready))
      (all_from (IsEntry normal us set) (map (entry_of us) (drop n ready)) (λ y h. one y (Has-from_map (entry_of us) (drop n ready) y h)))
    where
      one : (y : Entry) → (w : ℕ) × (Has (drop n ready) w) × (y ≡ entry_of us w) → IsEntry normal us set y
      one y found =
          let k = at_drop ready n found.0 0 found.1 in
          let held = ready_held normal us set m lists ready counted k.0 k.2 in
          subst (IsEntry normal us set) (ap (entry_of us) k.3 ∙ sym found.2) (record { number = held.0; bound = refl; held = held.1 })

  -- those that were ready before n have entries, where they may add a class, and the others are added
  pub waiting_more : (entries entries2 : List Entry) → IsHeap later entries2 → All (IsEntry normal us set) entries
      → ((k : ℕ) → k < n → k < length ready → may_add normal set (use_at us (number_at ready k)) ≡ true → Contains entries (entry_of us (number_at ready k)))
      → IsPermutation (entries ++ map (entry_of us) (drop n ready)) entries2 → AreWaiting normal us set entries2
  waiting_more entries entries2 order each before joined = record {
    order = order;
    each = All-permutation (IsEntry normal us set) (entries ++ map (entry_of us) (drop n ready)) entries2 joined
        (All-append (IsEntry normal us set) entries (map (entry_of us) (drop n ready)) each new_each);
    all = λ w l may. Contains-permutation (entries ++ map (entry_of us) (drop n ready)) entries2 (entry_of us w) joined
        (Contains-from_has (entries ++ map (entry_of us) (drop n ready)) (entry_of us w)
        (one w may (held_ready normal us set m lists ready counted w l (and_left (holds_classes set (key_classes normal (use_at us w)))
        (adds_class normal set (use_at us w)) may))));
  }
    where
      one : (w : ℕ) → may_add normal set (use_at us w) ≡ true → (k : ℕ) × (k < length ready) × (number_at ready k ≡ w)
          → Has (entries ++ map (entry_of us) (drop n ready)) (entry_of us w)
      one w may k = subst (λ v. Has (entries ++ map (entry_of us) (drop n ready)) (entry_of us v)) k.2 (elim (cases_lt k.0 n) [
        | inl early ↦ Has-append_left entries (map (entry_of us) (drop n ready)) (entry_of us (number_at ready k.0))
            (Has-from_contains entries (entry_of us (number_at ready k.0)) (before k.0 early k.1 (ap (λ v. may_add normal set (use_at us v)) k.2 ∙ may)))
        | inr late ↦ Has-append_right entries (map (entry_of us) (drop n ready)) (entry_of us (number_at ready k.0))
            (Has-map (entry_of us) (drop n ready) (number_at ready k.0) (in_drop ready n k.0 0 late k.1))
      ])

  -- so with the atoms that they serve
  pub served_more : (served : List Bool) → length served ≡ length normal.atoms → All (λ u. u.atom < length normal.atoms) us
      → ((a : ℕ) → has served a ≡ true → list_any (λ u. (u.atom == a) && serves normal set u) us ≡ true)
      → ((k : ℕ) → k < n → k < length ready → holds_needed normal (use_at us (number_at ready k)) ≡ true
      → has served (use_at us (number_at ready k)).atom ≡ true)
      → AreServed normal us set (with_classes served (atoms_served normal us (drop n ready)))
  served_more served long atoms only before = record {
    atoms = length-with (atoms_served normal us (drop n ready)) served ∙ long;
    only = λ a h. elim (has-with_cases (atoms_served normal us (drop n ready)) served a h) [
      | inl old ↦ only a old
      | inr new ↦ from_new a new
    ];
    all = λ w l h. by w l h (held_ready normal us set m lists ready counted w l (and_left (holds_classes set (key_classes normal (use_at us w)))
        (holds_needed normal (use_at us w)) h));
  }
    where
      from_new : (a : ℕ) → Has (atoms_served normal us (drop n ready)) a → list_any (λ u. (u.atom == a) && serves normal set u) us ≡ true
      from_new a h =
          let u = Has-from_map (λ (u : Use). u.atom) (filter (holds_needed normal) (map (use_at us) (drop n ready))) a h in
          let f = Has-from_filter (holds_needed normal) (map (use_at us) (drop n ready)) u.0 u.1 in
          let w = Has-from_map (use_at us) (drop n ready) u.0 f.0 in
          let k = at_drop ready n w.0 0 w.1 in
          let held = ready_held normal us set m lists ready counted k.0 k.2 in
          let is : u.0 ≡ use_at us (number_at ready k.0) = w.2 ∙ ap (use_at us) (sym k.3) in
          any_by (λ (u : Use). (u.atom == a) && serves normal set u) us u.0
          (subst (Has us) (sym is) (Has-get_or us (number_at ready k.0) no_use held.0))
          (and_both (u.0.atom == a) (serves normal set u.0) (same_number u.0.atom a (sym u.2))
          (and_both (holds_classes set (key_classes normal u.0)) (holds_needed normal u.0)
          (ap (λ x. holds_classes set (key_classes normal x)) is ∙ held.1) f.1))

      by : (w : ℕ) → w < length us → serves normal set (use_at us w) ≡ true → (k : ℕ) × (k < length ready) × (number_at ready k ≡ w)
          → has (with_classes served (atoms_served normal us (drop n ready))) (use_at us w).atom ≡ true
      by w l h k =
          let needed = and_right (holds_classes set (key_classes normal (use_at us w))) (holds_needed normal (use_at us w)) h in
          let needed_there = ap (λ v. holds_needed normal (use_at us v)) k.2 ∙ needed in
          elim (cases_lt k.0 n) [
            | inl early ↦ has-with_kept (atoms_served normal us (drop n ready)) served (use_at us w).atom
                (ap (λ v. has served (use_at us v).atom) (sym k.2) ∙ before k.0 early k.1 needed_there)
            | inr late ↦ (let there = subst (Has (drop n ready)) k.2 (in_drop ready n k.0 0 late k.1) in
                let listed = Has-map (λ (u : Use). u.atom) (filter (holds_needed normal) (map (use_at us) (drop n ready))) (use_at us w)
                (Has-filter (holds_needed normal) (map (use_at us) (drop n ready)) (use_at us w) (Has-map (use_at us) (drop n ready) w there) needed) in
                let inside : (use_at us w).atom < length served = subst (λ x. (use_at us w).atom < x) (sym long) (atoms w no_use l) in
                has-with_new (atoms_served normal us (drop n ready)) served (use_at us w).atom listed inside)
          ]

-- ---- from a start

pub uses_inside : (normal : Normal) (accesses : List Access) (us : List Use) → us ≡ uses normal accesses → All (λ u. u.atom < length normal.atoms) us
uses_inside normal accesses us e =
    subst (All (λ u. u.atom < length normal.atoms)) (sym e) (All-from_recursion (λ u. u.atom < length normal.atoms) (uses normal accesses)
    (all_from (λ u. u.atom < length normal.atoms) (uses normal accesses) (λ u h. (use_facts normal accesses u h).atom)))

none_held : (n a : ℕ) → has (replicate n false) a ≡ true → ⊥
none_held zero a h = cc
none_held (suc n) zero h = cc
none_held (suc n) (suc a) h = none_held n a h

pub rest_of : (xs : List ℕ) (n : ℕ) → take (length xs - n) (drop n xs) ≡ drop n xs
rest_of xs n = take_all (length xs - n) (drop n xs) (omega (arith, length-drop n xs))

-- what the code pushed is what it was to push
pub joined_same : (old old2 : List Entry) (xs xs2 : List UseAt) (ns ns2 : List ℕ) (new : List Entry) → old ≡ old2 → xs ≡ xs2 → ns ≡ ns2
    → IsPermutation (old ++ map (entry_of (map as_use xs)) ns) new → IsPermutation (old2 ++ map (entry_of (map as_use xs2)) ns2) new
joined_same old old2 xs xs2 ns ns2 new o x n h =
    subst (λ es. IsPermutation es new) (ap (λ es. es ++ map (entry_of (map as_use xs)) ns) o
    ∙ ap (λ us. old2 ++ map (entry_of (map as_use us)) ns) x ∙ ap (λ ks. old2 ++ map (entry_of (map as_use xs2)) ks) n) h

-- and what it noted
pub noted_same : (normal : Normal) (old old2 : List Bool) (xs xs2 : List UseAt) (ns ns2 : List ℕ) (new : List Bool) → old ≡ old2 → xs ≡ xs2 → ns ≡ ns2
    → new ≡ with_classes old (atoms_served normal (map as_use xs) ns) → new ≡ with_classes old2 (atoms_served normal (map as_use xs2) ns2)
noted_same normal old old2 xs xs2 ns ns2 new o x n h =
    h ∙ ap (λ s. with_classes s (atoms_served normal (map as_use xs) ns)) o
    ∙ ap (λ us. with_classes old2 (atoms_served normal (map as_use us) ns)) x ∙ ap (λ ks. with_classes old2 (atoms_served normal (map as_use xs2) ks)) n

module _ (normal : Normal) (us : List Use) (set : ClassSet) (m : List ℕ) (lists : List (List ℕ)) (ready : List ℕ)
    (counted : AreCounted normal us set m lists ready) where
  pub waiting_first : (entries : List Entry) → IsHeap later entries → IsPermutation ([] ++ map (entry_of us) ready) entries
      → AreWaiting normal us set entries
  waiting_first entries order joined =
      waiting_more normal us set m lists ready counted 0 [] entries order (λ i d l. absurd (omega (arith, l)))
      (λ k early l may. absurd (omega (arith, early))) joined

  pub served_first : (served : List Bool) → All (λ u. u.atom < length normal.atoms) us
      → served ≡ with_classes (replicate (length normal.atoms) false) (atoms_served normal us ready) → AreServed normal us set served
  served_first served atoms is =
      subst (AreServed normal us set) (sym is)
      (served_more normal us set m lists ready counted 0 (replicate (length normal.atoms) false) (length-replicate (length normal.atoms) false) atoms
      (λ a h. absurd (none_held (length normal.atoms) a h)) (λ k early l needed. absurd (omega (arith, early))))

-- ---- one use is taken

module _ (normal : Normal) (us : List Use) (set : ClassSet) (taken : Use) where
  bigger : Within set (with_use normal set taken)
  bigger c h = has-with_kept (member_classes normal taken) set c h

  adds_before : (u : Use) → adds_class normal (with_use normal set taken) u ≡ true → adds_class normal set u ≡ true
  adds_before u h = by (holds_classes set (fetched_classes normal u)) refl
    where
      by : (b : Bool) → holds_classes set (fetched_classes normal u) ≡ b → not (holds_classes set (fetched_classes normal u)) ≡ true
      by true e =
          let more = holds-within set (with_use normal set taken) (fetched_classes normal u) bigger e in
          let lacks = ap not more in
          cc
      by false e = ap not e

  -- what is taken adds nothing more
  pub adds_none : ClassesInRange normal → length set ≡ normal.count → adds_class normal (with_use normal set taken) taken ≡ false
  adds_none ranges long = ap not (all_by (has (with_use normal set taken)) (fetched_classes normal taken) held)
    where
      held : (c : ℕ) → Has (fetched_classes normal taken) c → has (with_use normal set taken) c ≡ true
      held c h =
          let column = Has-from_map (class_at normal taken.atom) taken.access.fetched c h in
          let inside : c < length set = subst (λ x. x < length set) (sym column.2) (subst (λ n. class_at normal taken.atom column.0 < n) (sym long)
          (ranges taken.atom column.0)) in
          has-with_new (member_classes normal taken) set c
          (subst (Has (member_classes normal taken)) (sym column.2) (Has-map (class_at normal taken.atom) (member_columns taken.access) column.0
          (Has-append_right taken.access.key taken.access.fetched column.0 column.1))) inside

  module _ (m : List ℕ) (lists : List (List ℕ)) (ready : List ℕ) (counted : AreCounted normal us set m lists ready)
      (set2 : ClassSet) (is : set2 ≡ with_use normal set taken) (m2 : List ℕ) (lists2 : List (List ℕ)) (ready2 : List ℕ)
      (counted2 : AreCounted normal us set2 m2 lists2 ready2) (goes_on : GoesOn ready ready2) where
    same_ready : (k : ℕ) → k < length ready → number_at ready2 k ≡ number_at ready k
    same_ready k l = sym (get_or-take (length ready) ready2 k 0 l) ∙ ap (λ r. number_at r k) goes_on

    pub taken_waiting : (entries entries2 : List Entry) → AreLeft normal us set taken entries → IsHeap later entries2
        → IsPermutation (entries ++ map (entry_of us) (drop (length ready) ready2)) entries2 → AreWaiting normal us set2 entries2
    taken_waiting entries entries2 left order joined = waiting_more normal us set2 m2 lists2 ready2 counted2 (length ready) entries entries2 order
        (λ i d l. kept (get_or entries i d) (left.each i d l)) before joined
      where
        kept : (e : Entry) → IsEntry normal us set e → IsEntry normal us set2 e
        kept e old = record {
          number = old.number;
          bound = old.bound;
          held = ap (λ s. holds_classes s (key_classes normal (use_at us e.0.1))) is
              ∙ holds-within set (with_use normal set taken) (key_classes normal (use_at us e.0.1)) bigger old.held;
        }

        before : (k : ℕ) → k < length ready → k < length ready2 → may_add normal set2 (use_at us (number_at ready2 k)) ≡ true
            → Contains entries (entry_of us (number_at ready2 k))
        before k early l may =
            let u = use_at us (number_at ready2 k) in
            let held = ready_held normal us set m lists ready counted k early in
            let number = same_ready k early in
            let adds = ap (λ s. adds_class normal s u) (sym is) ∙ and_right (holds_classes set2 (key_classes normal u)) (adds_class normal set2 u) may in
            left.all (number_at ready2 k) (subst (λ w. w < length us) (sym number) held.0)
            (and_both (holds_classes set (key_classes normal u)) (adds_class normal set u)
            (ap (λ w. holds_classes set (key_classes normal (use_at us w))) number ∙ held.1) (adds_before u adds)) adds

    pub taken_served : (served : List Bool) → AreServed normal us set served → All (λ u. u.atom < length normal.atoms) us
        → AreServed normal us set2 (with_classes served (atoms_served normal us (drop (length ready) ready2)))
    taken_served served old atoms = served_more normal us set2 m2 lists2 ready2 counted2 (length ready) served old.atoms atoms only before
      where
        only : (a : ℕ) → has served a ≡ true → list_any (λ u. (u.atom == a) && serves normal set2 u) us ≡ true
        only a h =
            let r = any_has (λ (u : Use). (u.atom == a) && serves normal set u) us (old.only a h) in
            any_by (λ (u : Use). (u.atom == a) && serves normal set2 u) us r.0 r.1
            (and_both (r.0.atom == a) (serves normal set2 r.0) (and_left (r.0.atom == a) (serves normal set r.0) r.2)
            (ap (λ s. serves normal s r.0) is ∙ serves_within normal [] set (with_use normal set taken) r.0 bigger
            (and_right (r.0.atom == a) (serves normal set r.0) r.2)))

        before : (k : ℕ) → k < length ready → k < length ready2 → holds_needed normal (use_at us (number_at ready2 k)) ≡ true
            → has served (use_at us (number_at ready2 k)).atom ≡ true
        before k early l needed =
            let held = ready_held normal us set m lists ready counted k early in
            let number = same_ready k early in
            ap (λ w. has served (use_at us w).atom) number
            ∙ old.all (number_at ready k) held.0 (and_both (holds_classes set (key_classes normal (use_at us (number_at ready k))))
            (holds_needed normal (use_at us (number_at ready k))) held.1 (ap (λ w. holds_needed normal (use_at us w)) (sym number) ∙ needed))

-- ---- the cover

same_truth : (b c : Bool) → (b ≡ true → c ≡ true) → (c ≡ true → b ≡ true) → b ≡ c
same_truth true c f g = sym (f refl)
same_truth false true f g = g refl
same_truth false false f g = refl

module _ (normal : Normal) (accesses : List Access) (us : List Use) (same : us ≡ uses normal accesses) (set : ClassSet) (served : List Bool)
    (are : AreServed normal us set served) where
  all_served : list_all (λ b. b) served ≡ list_all (is_served normal accesses set) (atoms_of normal)
  all_served = same_truth (list_all (λ b. b) served) (list_all (is_served normal accesses set) (atoms_of normal)) forth back
    where
      forth : list_all (λ b. b) served ≡ true → list_all (is_served normal accesses set) (atoms_of normal) ≡ true
      forth h = all_by (is_served normal accesses set) (atoms_of normal) (λ a m. one a (from_range (length normal.atoms) 0 a m))
        where
          one : (a : ℕ) → a < 0 + length normal.atoms → is_served normal accesses set a ≡ true
          one a l =
              let inside : a < length served = omega (arith, l, are.atoms) in
              ap (λ vs. list_any (λ u. (u.atom == a) && serves normal set u) vs) (sym same)
              ∙ are.only a (all_has (λ b. b) served (get_or served a false) h (Has-get_or served a false inside))

      back : list_all (is_served normal accesses set) (atoms_of normal) ≡ true → list_all (λ b. b) served ≡ true
      back h = all_by (λ b. b) served (λ b m. one b (at_drop served 0 b false m))
        where
          one : (b : Bool) → (k : ℕ) × (0 ≤ k) × (k < length served) × (get_or served k false ≡ b) → b ≡ true
          one b k =
              let inside : k.0 < length normal.atoms = omega (arith, k.2, are.atoms) in
              let there = all_has (is_served normal accesses set) (atoms_of normal) k.0 h (Has-range (length normal.atoms) 0 k.0 (omega arith) (omega arith)) in
              let r = any_has (λ (u : Use). (u.atom == k.0) && serves normal set u) us
              (ap (λ vs. list_any (λ (u : Use). (u.atom == k.0) && serves normal set u) vs) same ∙ there) in
              let w = at_drop us 0 r.0 no_use r.1 in
              let serving = ap (serves normal set) w.3 ∙ and_right (r.0.atom == k.0) (serves normal set r.0) r.2 in
              let atom : (use_at us w.0).atom ≡ k.0 =
              ap (λ (u : Use). u.atom) w.3 ∙ eqb-true r.0.atom k.0 (and_left (r.0.atom == k.0) (serves normal set r.0) r.2) in
              sym k.3 ∙ ap (λ a. get_or served a false) (sym atom) ∙ are.all w.0 w.2 serving

  pub covers : (answer : Bool) → answer ≡ list_all (λ b. b) served → find (is_open normal set) (needed_places normal) ≡ None
      → answer ≡ is_covered normal accesses set
  unfolding is_covered
  covers answer is none =
      is ∙ all_served
      ∙ sym (ap (λ b. not b && list_all (is_served normal accesses set) (atoms_of normal)) (none_open normal set (needed_places normal) none))

pub covers_not : (normal : Normal) (accesses : List Access) (set : ClassSet) (p : Place) → find (is_open normal set) (needed_places normal) ≡ Some p
    → false ≡ is_covered normal accesses set
unfolding is_covered
covers_not normal accesses set p some =
    sym (ap (λ b. not b && list_all (is_served normal accesses set) (atoms_of normal)) (some_open normal set p (needed_places normal) some))

-- Dropping steps, by their uses alone.
use Rattle.std.proofs.Common.{◌≡◌, ◌&&◌, ◌+◌, ◌*◌, ◌==◌, ℕ, zero, suc, Bool, true, false, not, cond, nat_lt, List, [], ◌∷◌, ◌++◌, length, map, take, drop, refl, ap, sym, ◌∙◌, subst}
use Rattle.std.specs.List.{list_all, list_any}
use Rattle.std.proofs.lemmas.List.{map-append, length-map, take-map, drop-map}
use Rattle.std.proofs.lemmas.Bool.{eqb-true}
use Rattle.beas_core.specs.declared.schema.Access.{Access}
use Rattle.beas_core.specs.declared.schema.AccessId.{AccessId}
use Rattle.beas_core.specs.declared.plan.DStep.{DStep}
use Rattle.beas_core.specs.declared.plan.Normal.{Normal}
use Rattle.beas_core.specs.Types.{ClassSet, Use}
use Rattle.beas_core.specs.Coverage.{atoms_of, is_open, needed_places}
use Rattle.beas_core.specs.Derivations.{access_in, adds_class, adds_rightly, bound_after, bound_by, each_step, is_on_table, is_served_by, is_sound, key_is_bound, use_of, IsSound}
use Rattle.beas_core.specs.Numbers.{announced_from, cap}
use Rattle.beas_core.specs.Pruning.{capped_number, may_go, pruned, pruned_at, pruned_below, shorter, with_adds, without}
use Rattle.beas_core.proofs.Accesses.{access_in-first, access_in-rest}
use Rattle.beas_core.proofs.MemberTests.{and_both, and_left, and_right}
use Rattle.beas_core.proofs.SoundParts.{sound_parts}
use Rattle.plan_builder.specs.Plans.{served_among}
use Rattle.plan_builder.specs.Trials.{all_are_served, are_sound, binds_needed, capped_uses, keys_are_bound, more_size, number_from, set_after, steps_from, use_may_go, uses_pruned, uses_pruned_at, uses_pruned_below, uses_without}
use Rattle.plan_builder.proofs.Turns.{served_same}

-- ---- lists without an item

all-take : {A : Type 0} (p : A → Bool) (n : ℕ) (xs : List A) → list_all p xs ≡ true → list_all p (take n xs) ≡ true
all-take p zero xs h = refl
all-take p (suc n) [] h = refl
all-take p (suc n) (x ∷ xs) h = and_both (p x) (list_all p (take n xs)) (and_left (p x) (list_all p xs) h) (all-take p n xs (and_right (p x) (list_all p xs) h))

all-drop : {A : Type 0} (p : A → Bool) (n : ℕ) (xs : List A) → list_all p xs ≡ true → list_all p (drop n xs) ≡ true
all-drop p zero xs h = h
all-drop p (suc n) [] h = refl
all-drop p (suc n) (x ∷ xs) h = all-drop p n xs (and_right (p x) (list_all p xs) h)

all-both : {A : Type 0} (p : A → Bool) (xs ys : List A) → list_all p xs ≡ true → list_all p ys ≡ true → list_all p (xs ++ ys) ≡ true
all-both p [] ys h g = g
all-both p (x ∷ xs) ys h g =
    and_both (p x) (list_all p (xs ++ ys)) (and_left (p x) (list_all p xs) h) (all-both p xs ys (and_right (p x) (list_all p xs) h) g)

all-without : {A : Type 0} (p : A → Bool) (n : ℕ) (xs : List A) → list_all p xs ≡ true → list_all p (uses_without n xs) ≡ true
all-without p n xs h = all-both p (take n xs) (drop (n + 1) xs) (all-take p n xs h) (all-drop p (n + 1) xs h)

pub map-without : {A B : Type 0} (f : A → B) (n : ℕ) (xs : List A) → map f (uses_without n xs) ≡ uses_without n (map f xs)
map-without f n xs = map-append f (take n xs) (drop (n + 1) xs) ∙ ap (λ ys. ys ++ map f (drop (n + 1) xs)) (sym (take-map f n xs))
    ∙ ap (λ ys. take n (map f xs) ++ ys) (sym (drop-map f (n + 1) xs))

all-same : {A : Type 0} (p q : A → Bool) → ((x : A) → p x ≡ q x) → (xs : List A) → list_all p xs ≡ list_all q xs
all-same p q e [] = refl
all-same p q e (x ∷ xs) = ap (λ b. b && list_all p xs) (e x) ∙ ap (λ b. q x && b) (all-same p q e xs)

-- ---- steps and their uses

id_found : (accesses : List Access) (id : AccessId) → (access_in accesses id).id ≡ id
unfolding access_in
id_found [] id = refl
id_found (a ∷ accesses) id = by (a.id.0 == id.0) refl (id_found accesses id)
  where
    by : (b : Bool) → (a.id.0 == id.0) ≡ b → (access_in accesses id).id ≡ id → (access_in (a ∷ accesses) id).id ≡ id
    by true e later = ap (λ (c : Access). c.id) (access_in-first a accesses id e) ∙ ap (λ (n : ℕ). record { 0 = n }) (eqb-true a.id.0 id.0 e)
    by false e later = ap (λ (c : Access). c.id) (access_in-rest a accesses id e) ∙ later

whether : (s a : Bool) → cond s a (not a) ≡ true → s ≡ a
whether true a h = sym h
whether false true h = cc
whether false false h = refl

by_itself : (b : Bool) → cond b b (not b) ≡ true
by_itself true = refl
by_itself false = refl

module _ (normal : Normal) (accesses : List Access) where
  abbrev uses_in : List DStep → List Use
  uses_in steps = map (use_of accesses) steps

  -- steps that say rightly whether they add a class say nothing new
  pub nothing_new : (set : ClassSet) (steps : List DStep) → each_step normal accesses (adds_rightly normal accesses) set steps ≡ true
      → steps ≡ with_adds normal accesses set steps
  nothing_new set [] h = refl
  nothing_new set (s ∷ steps) h =
      let a = adds_class normal set (use_of accesses s) in
      let rest = each_step normal accesses (adds_rightly normal accesses) (bound_by normal accesses set s) steps in
      let e = whether s.adds a (and_left (adds_rightly normal accesses set s) rest h) in
      ap (λ (b : Bool). record s { adds = b } ∷ steps) e
      ∙ ap (λ ss. record s { adds = a } ∷ ss) (nothing_new (bound_by normal accesses set s) steps (and_right (adds_rightly normal accesses set s) rest h))

  with_adds_twice : (set : ClassSet) (steps : List DStep)
      → with_adds normal accesses set steps ≡ with_adds normal accesses set (with_adds normal accesses set steps)
  with_adds_twice set [] = refl
  with_adds_twice set (s ∷ steps) =
      ap (λ ss. record s { adds = adds_class normal set (use_of accesses s) } ∷ ss) (with_adds_twice (bound_by normal accesses set s) steps)

  with_adds_uses : (set : ClassSet) (steps : List DStep) → uses_in (with_adds normal accesses set steps) ≡ uses_in steps
  with_adds_uses set [] = refl
  with_adds_uses set (s ∷ steps) = ap (λ us. use_of accesses s ∷ us) (with_adds_uses (bound_by normal accesses set s) steps)

  with_adds_tables : (set : ClassSet) (steps : List DStep)
      → list_all (is_on_table normal accesses) (with_adds normal accesses set steps) ≡ list_all (is_on_table normal accesses) steps
  with_adds_tables set [] = refl
  with_adds_tables set (s ∷ steps) = ap (λ b. is_on_table normal accesses s && b) (with_adds_tables (bound_by normal accesses set s) steps)

  pub with_adds_steps : (set : ClassSet) (steps : List DStep) → with_adds normal accesses set steps ≡ steps_from normal set (uses_in steps)
  with_adds_steps set [] = refl
  with_adds_steps set (s ∷ steps) =
      let adds = adds_class normal set (use_of accesses s) in
      ap (λ ss. record s { adds = adds } ∷ ss) (with_adds_steps (bound_by normal accesses set s) steps)
      ∙ ap (λ i. record s { access = i; adds = adds } ∷ steps_from normal (bound_by normal accesses set s) (uses_in steps))
      (sym (id_found accesses s.access))

  number_same : (set : ClassSet) (b : ℕ) (steps : List DStep)
      → announced_from accesses b (with_adds normal accesses set steps) ≡ number_from normal set b (uses_in steps)
  number_same set b [] = refl
  number_same set b (s ∷ steps) = ap (λ k. b * (access_in accesses s.access).bound + k)
      (number_same (bound_by normal accesses set s) (more_size normal set b (use_of accesses s)) steps)

  keys_same : (set : ClassSet) (steps : List DStep)
      → each_step normal accesses (key_is_bound normal accesses) set (with_adds normal accesses set steps) ≡ keys_are_bound normal set (uses_in steps)
  keys_same set [] = refl
  keys_same set (s ∷ steps) = ap (λ b. key_is_bound normal accesses set s && b) (keys_same (bound_by normal accesses set s) steps)

  rightly_all : (set : ClassSet) (steps : List DStep)
      → each_step normal accesses (adds_rightly normal accesses) set (with_adds normal accesses set steps) ≡ true
  rightly_all set [] = refl
  rightly_all set (s ∷ steps) =
      let a = adds_class normal set (use_of accesses s) in
      and_both (cond a a (not a)) (each_step normal accesses (adds_rightly normal accesses) (bound_by normal accesses set s)
      (with_adds normal accesses (bound_by normal accesses set s) steps)) (by_itself a) (rightly_all (bound_by normal accesses set s) steps)

  set_same : (set other : ClassSet) (steps : List DStep) → bound_after normal accesses other (with_adds normal accesses set steps)
      ≡ set_after normal other (uses_in steps)
  set_same set other [] = refl
  set_same set other (s ∷ steps) = set_same (bound_by normal accesses set s) (bound_by normal accesses other s) steps

  module _ (start : ClassSet) where
    sound_same : (steps : List DStep) → list_all (is_on_table normal accesses) steps ≡ true
        → is_sound normal accesses start (with_adds normal accesses start steps) ≡ are_sound normal start (uses_in steps)
    sound_same steps tables =
        let anew = with_adds normal accesses start steps in
        let us = uses_in steps in
        ap (λ t. (t && each_step normal accesses (key_is_bound normal accesses) start anew
        && each_step normal accesses (adds_rightly normal accesses) start anew)
        && not (list_any (is_open normal (bound_after normal accesses start anew)) (needed_places normal))
        && list_all (is_served_by normal accesses anew) (atoms_of normal)) (with_adds_tables start steps ∙ tables)
        ∙ ap (λ k. (true && k && each_step normal accesses (adds_rightly normal accesses) start anew)
        && not (list_any (is_open normal (bound_after normal accesses start anew)) (needed_places normal))
        && list_all (is_served_by normal accesses anew) (atoms_of normal)) (keys_same start steps)
        ∙ ap (λ r. (true && keys_are_bound normal start us && r)
        && not (list_any (is_open normal (bound_after normal accesses start anew)) (needed_places normal))
        && list_all (is_served_by normal accesses anew) (atoms_of normal)) (rightly_all start steps)
        ∙ ap (λ s. (true && keys_are_bound normal start us && true) && not (list_any (is_open normal s) (needed_places normal))
        && list_all (is_served_by normal accesses anew) (atoms_of normal)) (set_same start start steps)
        ∙ ap (λ v. (true && keys_are_bound normal start us && true) && binds_needed normal (set_after normal start us) && v)
        (all-same (is_served_by normal accesses anew) (λ atom. served_among normal atom us)
        (λ atom. served_same normal accesses anew us atom (with_adds_uses start steps)) (atoms_of normal))
        ∙ plain (keys_are_bound normal start us) (binds_needed normal (set_after normal start us)) (all_are_served normal us)
      where
        plain : (k o v : Bool) → ((true && k && true) && o && v) ≡ (k && o && v)
        plain true true v = refl
        plain true false v = refl
        plain false o v = refl

    -- how far the drops have come, by steps and by uses
    pub record AsUses (steps : List DStep) (us : List Use) : Type 0 where
      pub tables : list_all (is_on_table normal accesses) steps ≡ true
      pub anew : steps ≡ with_adds normal accesses start steps
      pub uses : uses_in steps ≡ us

    may_go_same : (n : ℕ) (steps : List DStep) (us : List Use) → AsUses steps us → may_go normal accesses start n steps ≡ use_may_go normal start n us
    may_go_same n steps us h =
        let less = shorter normal accesses start n steps in
        let less_uses = map-without (use_of accesses) n steps ∙ ap (uses_without n) h.uses in
        ap (λ b. b && not (nat_lt (capped_number accesses steps) (capped_number accesses less)))
        (sound_same (without n steps) (all-without (is_on_table normal accesses) n steps h.tables) ∙ ap (are_sound normal start) less_uses)
        ∙ ap (λ k. are_sound normal start (uses_without n us) && not (nat_lt (cap k) (capped_number accesses less)))
        (ap (announced_from accesses 1) h.anew ∙ number_same start 1 steps ∙ ap (number_from normal start 1) h.uses)
        ∙ ap (λ k. are_sound normal start (uses_without n us) && not (nat_lt (capped_uses normal start us) (cap k)))
        (number_same start 1 (without n steps) ∙ ap (number_from normal start 1) less_uses)

    as_uses_at : (n : ℕ) (steps : List DStep) (us : List Use) → AsUses steps us
        → AsUses (pruned_at normal accesses start n steps) (uses_pruned_at normal start n us)
    as_uses_at n steps us h =
        subst (λ b. AsUses (cond b (shorter normal accesses start n steps) steps) (uses_pruned_at normal start n us)) (sym (may_go_same n steps us h))
        (by (use_may_go normal start n us))
      where
        by : (b : Bool) → AsUses (cond b (shorter normal accesses start n steps) steps) (cond b (uses_without n us) us)
        by true = record {
          tables = with_adds_tables start (without n steps) ∙ all-without (is_on_table normal accesses) n steps h.tables;
          anew = with_adds_twice start (without n steps);
          uses = with_adds_uses start (without n steps) ∙ map-without (use_of accesses) n steps ∙ ap (uses_without n) h.uses;
        }
        by false = h

    as_uses_below : (n : ℕ) (steps : List DStep) (us : List Use) → AsUses steps us
        → AsUses (pruned_below normal accesses start n steps) (uses_pruned_below normal start n us)
    as_uses_below zero steps us h = h
    as_uses_below (suc n) steps us h =
        as_uses_below n (pruned_at normal accesses start n steps) (uses_pruned_at normal start n us) (as_uses_at n steps us h)

    -- sound steps are so by their uses
    pub sound_by_uses : (steps : List DStep) → IsSound normal accesses start steps → are_sound normal start (uses_in steps) ≡ true
    sound_by_uses steps sound =
        let parts = sound_parts normal accesses start steps sound.sound in
        sym (ap (is_sound normal accesses start) (nothing_new start steps parts.each.adds) ∙ sound_same steps parts.each.tables) ∙ sound.sound

    -- the steps that are left are those of the uses that are left
    pub left_by_uses : (steps : List DStep) → IsSound normal accesses start steps
        → steps_from normal start (uses_pruned normal start (uses_in steps)) ≡ pruned normal accesses start steps
    left_by_uses steps sound =
        let parts = sound_parts normal accesses start steps sound.sound in
        let first : AsUses steps (uses_in steps) =
        record { tables = parts.each.tables; anew = nothing_new start steps parts.each.adds; uses = refl } in
        let last = as_uses_below (length steps) steps (uses_in steps) first in
        ap (λ n. steps_from normal start (uses_pruned_below normal start n (uses_in steps))) (length-map steps (use_of accesses))
        ∙ ap (steps_from normal start) (sym last.uses)
        ∙ sym (with_adds_steps start (pruned_below normal accesses start (length steps) steps)) ∙ sym last.anew

-- The canonical derivation of a covered block is sound.
use Rattle.std.proofs.Common.{◌≡◌, ◌==◌, ◌&&◌, ◌||◌, ◌<◌, ℕ, zero, suc, Bool, true, false, not, cond, nat_lt, List, [], ◌∷◌, ◌++◌, length, Option, Some, None, ◌⊎◌, inl, inr, refl, ap, sym, ◌∙◌, subst}
use Rattle.std.specs.List.{list_any, list_all, filter}
use Rattle.std.specs.Option.{option_map}
use Rattle.std.proofs.lemmas.Bool.{eqb-true, lt-ltb}
use Rattle.std.proofs.lemmas.List.Elements.{All-from_recursion}
use Rattle.beas_core.specs.declared.schema.Access.{Access}
use Rattle.beas_core.specs.declared.query.Place.{Place}
use Rattle.beas_core.specs.declared.plan.DStep.{DStep}
use Rattle.beas_core.specs.declared.plan.Normal.{Normal}
use Rattle.beas_core.specs.Types.{ClassSet, Use}
use Rattle.beas_core.specs.Coverage.{has, holds_classes, key_classes, uses, with_classes, Within, needed_places, holds_needed, serves, is_served, is_open, is_covered, place_class, atoms_of}
use Rattle.beas_core.specs.Derivations.{access_in, is_live, table_of, member_classes, use_of, bound_by, bound_after, each_step, adds_class, is_on_table, key_is_bound, adds_rightly, is_served_by, IsSound, step_of, with_use, enabled_uses, least_bound, then_step, adding_steps, serving_steps, greedy_steps}
use Rattle.beas_core.specs.Pruning.{derivation, pruned}
use Rattle.beas_core.specs.Shapes.{EachIdOnce}
use Rattle.beas_core.proofs.Sets.{Has, Has-filter, Has-from_filter, all_from}
use Rattle.beas_core.proofs.MemberTests.{and_left, and_right, and_both, or_left, or_right, to_not, from_not, which, any_has, any_by, all_has, all_by, none_has, none_by}
use Rattle.beas_core.proofs.SoundParts.{sound_from}
use Rattle.beas_core.proofs.PruningFacts.{pruned_sound}
use Rattle.beas_core.proofs.ClassSetFacts.{has-with_kept, holds-within}
use Rattle.beas_core.proofs.UseFacts.{use_facts, found_by_id, least_has, least_none, same_number}

module _ (normal : Normal) (accesses : List Access) where
  -- more steps bind more classes
  pub bound_keeps : (steps : List DStep) (set : ClassSet) → Within set (bound_after normal accesses set steps)
  bound_keeps [] set c h = h
  bound_keeps (s ∷ steps) set c h = bound_keeps steps (bound_by normal accesses set s) c (has-with_kept (member_classes normal (use_of accesses s)) set c h)

  pub bound-append : (xs ys : List DStep) (set : ClassSet) → bound_after normal accesses set (xs ++ ys) ≡ bound_after normal accesses
      (bound_after normal accesses set xs) ys
  bound-append [] ys set = refl
  bound-append (x ∷ xs) ys set = bound-append xs ys (bound_by normal accesses set x)

  each-append : (p : ClassSet → DStep → Bool) (xs ys : List DStep) (set : ClassSet) → each_step normal accesses p set xs ≡ true
      → each_step normal accesses p (bound_after normal accesses set xs) ys ≡ true → each_step normal accesses p set (xs ++ ys) ≡ true
  each-append p [] ys set g h = h
  each-append p (x ∷ xs) ys set g h =
      and_both (p set x) (each_step normal accesses p (bound_by normal accesses set x) (xs ++ ys))
      (and_left (p set x) (each_step normal accesses p (bound_by normal accesses set x) xs) g)
      (each-append p xs ys (bound_by normal accesses set x) (and_right (p set x) (each_step normal accesses p (bound_by normal accesses set x) xs) g) h)

  each_weaker : (p q : ClassSet → DStep → Bool) → ((set : ClassSet) (s : DStep) → p set s ≡ true → q set s ≡ true) → (steps : List DStep) (set : ClassSet)
      → each_step normal accesses p set steps ≡ true → each_step normal accesses q set steps ≡ true
  each_weaker p q w [] set h = refl
  each_weaker p q w (s ∷ steps) set h =
      and_both (q set s) (each_step normal accesses q (bound_by normal accesses set s) steps)
      (w set s (and_left (p set s) (each_step normal accesses p (bound_by normal accesses set s) steps) h))
      (each_weaker p q w steps (bound_by normal accesses set s) (and_right (p set s) (each_step normal accesses p (bound_by normal accesses set s) steps) h))

  each_all : (p : ClassSet → DStep → Bool) (q : DStep → Bool) → ((set : ClassSet) (s : DStep) → p set s ≡ true → q s ≡ true)
      → (steps : List DStep) (set : ClassSet)
      → each_step normal accesses p set steps ≡ true → list_all q steps ≡ true
  each_all p q w [] set h = refl
  each_all p q w (s ∷ steps) set h =
      and_both (q s) (list_all q steps) (w set s (and_left (p set s) (each_step normal accesses p (bound_by normal accesses set s) steps) h))
      (each_all p q w steps (bound_by normal accesses set s) (and_right (p set s) (each_step normal accesses p (bound_by normal accesses set s) steps) h))

  served_more : (xs ys : List DStep) (atom : ℕ) → is_served_by normal accesses xs atom ≡ true → is_served_by normal accesses (xs ++ ys) atom ≡ true
  served_more [] ys atom h = cc
  served_more (x ∷ xs) ys atom h = by (which ((x.atom == atom) && holds_needed normal (use_of accesses x))) (served_more xs ys atom)
    where
      by : (((x.atom == atom) && holds_needed normal (use_of accesses x)) ≡ true) ⊎ (((x.atom == atom) && holds_needed normal (use_of accesses x)) ≡ false)
          → (is_served_by normal accesses xs atom ≡ true → is_served_by normal accesses (xs ++ ys) atom ≡ true)
          → is_served_by normal accesses (x ∷ xs ++ ys) atom ≡ true
      by (inl e) more = or_left ((x.atom == atom) && holds_needed normal (use_of accesses x)) (is_served_by normal accesses (xs ++ ys) atom) e
      by (inr e) more = or_right ((x.atom == atom) && holds_needed normal (use_of accesses x)) (is_served_by normal accesses (xs ++ ys) atom)
          (more (sym (ap (λ b. b || is_served_by normal accesses xs atom) e) ∙ h))

  served_after : (xs ys : List DStep) (atom : ℕ) → is_served_by normal accesses ys atom ≡ true → is_served_by normal accesses (xs ++ ys) atom ≡ true
  served_after [] ys atom h = h
  served_after (x ∷ xs) ys atom h = or_right ((x.atom == atom) && holds_needed normal (use_of accesses x)) (is_served_by normal accesses (xs ++ ys) atom)
      (served_after xs ys atom h)

module _ (normal : Normal) (accesses : List Access) where
  -- all that one step must meet, given the classes that are bound before it
  abbrev pub good : ClassSet → DStep → Bool
  good set s = is_live accesses s.access && is_on_table normal accesses s && key_is_bound normal accesses set s && adds_rightly normal accesses set s

  record GoodParts (set : ClassSet) (s : DStep) : Type 0 where
    live : is_live accesses s.access ≡ true
    table : is_on_table normal accesses s ≡ true
    key : key_is_bound normal accesses set s ≡ true
    adds : adds_rightly normal accesses set s ≡ true

  good_parts : (set : ClassSet) (s : DStep) → good set s ≡ true → GoodParts set s
  good_parts set s g =
      let a = is_live accesses s.access in
      let b = is_on_table normal accesses s in
      let c = key_is_bound normal accesses set s in
      let d = adds_rightly normal accesses set s in
      let three = and_left (a && b && c) d g in
      let two = and_left (a && b) c three in
      record { live = and_left a b two; table = and_right a b two; key = and_right (a && b) c three; adds = and_right (a && b && c) d g }

  pub serves_within : (small large : ClassSet) (u : Use) → Within small large → serves normal small u ≡ true → serves normal large u ≡ true
  serves_within small large u w h =
      and_both (holds_classes large (key_classes normal u)) (holds_needed normal u)
      (holds-within small large (key_classes normal u) w (and_left (holds_classes small (key_classes normal u)) (holds_needed normal u) h))
      (and_right (holds_classes small (key_classes normal u)) (holds_needed normal u) h)

  pub served_within : (small large : ClassSet) (atom : ℕ) → Within small large → is_served normal accesses small atom ≡ true
      → is_served normal accesses large atom ≡ true
  served_within small large atom w h =
      let r = any_has (λ u. (u.atom == atom) && serves normal small u) (uses normal accesses) h in
      any_by (λ u. (u.atom == atom) && serves normal large u) (uses normal accesses) r.0 r.1
      (and_both (r.0.atom == atom) (serves normal large r.0) (and_left (r.0.atom == atom) (serves normal small r.0) r.2)
      (serves_within small large r.0 w (and_right (r.0.atom == atom) (serves normal small r.0) r.2)))

  pub closed_places : (small large : ClassSet) → Within small large → not (list_any (is_open normal small) (needed_places normal)) ≡ true
      → not (list_any (is_open normal large) (needed_places normal)) ≡ true
  closed_places small large w h =
      let none = from_not (list_any (is_open normal small) (needed_places normal)) h in
      to_not (list_any (is_open normal large) (needed_places normal))
      (none_by (is_open normal large) (needed_places normal) (λ p g. shut p (none_has (is_open normal small) (needed_places normal) p none g)))
    where
      shut : (p : Place) → not (has small (place_class normal p)) ≡ false → not (has large (place_class normal p)) ≡ false
      shut p e = elim (which (has small (place_class normal p))) [
        | inl held ↦ ap not (w (place_class normal p) held)
        | inr lacking ↦ (let g : not (has small (place_class normal p)) ≡ true = ap not lacking in cc)
      ]

  -- a block that is covered for a set is covered for a larger one
  pub covered_within : (small large : ClassSet) → Within small large → is_covered normal accesses small ≡ true → is_covered normal accesses large ≡ true
  unfolding is_covered
  covered_within small large w h =
      and_both (not (list_any (is_open normal large) (needed_places normal))) (list_all (is_served normal accesses large) (atoms_of normal))
      (closed_places small large w
      (and_left (not (list_any (is_open normal small) (needed_places normal))) (list_all (is_served normal accesses small) (atoms_of normal)) h))
      (all_by (is_served normal accesses large) (atoms_of normal) (λ a g. served_within small large a w
      (all_has (is_served normal accesses small) (atoms_of normal) a
      (and_right (not (list_any (is_open normal small) (needed_places normal))) (list_all (is_served normal accesses small) (atoms_of normal)) h) g)))

  module _ (once : EachIdOnce accesses) where
    access_of_use : (u : Use) → Has (uses normal accesses) u → access_in accesses u.access.id ≡ u.access
    access_of_use u h = found_by_id accesses once u.access (use_facts normal accesses u h).member

    good_step : (set : ClassSet) (u : Use) → Has (uses normal accesses) u → holds_classes set (key_classes normal u) ≡ true
        → good set (step_of normal set u) ≡ true
    good_step set u h keys =
        let facts = use_facts normal accesses u h in
        let e = access_of_use u h in
        and_both
        (is_live accesses u.access.id && is_on_table normal accesses (step_of normal set u) && key_is_bound normal accesses set (step_of normal set u))
        (adds_rightly normal accesses set (step_of normal set u))
        (and_both (is_live accesses u.access.id && is_on_table normal accesses (step_of normal set u)) (key_is_bound normal accesses set (step_of normal set u))
        (and_both (is_live accesses u.access.id) (is_on_table normal accesses (step_of normal set u))
        (any_by (λ a. a.id.0 == u.access.id.0) accesses u.access facts.member (same_number u.access.id.0 u.access.id.0 refl))
        (and_both (nat_lt u.atom (length normal.atoms)) ((table_of normal u.atom).0 == (access_in accesses u.access.id).table.0)
        (below u.atom (length normal.atoms) facts.atom)
        (same_number (table_of normal u.atom).0 (access_in accesses u.access.id).table.0 (facts.table ∙ ap (λ a. a.table.0) (sym e)))))
        (ap (λ a. holds_classes set (key_classes normal (record u { access = a }))) e ∙ keys))
        (rightly (adds_class normal set u) (adds_class normal set (record u { access = access_in accesses u.access.id }))
        (ap (λ a. adds_class normal set (record u { access = a })) e))
      where
        rightly : (a b : Bool) → b ≡ a → cond a b (not b) ≡ true
        rightly true b e = e
        rightly false b e = ap not e

        below : (a b : ℕ) → a < b → nat_lt a b ≡ true
        below a b l = lt-ltb a b l

    pub bound_step : (set : ClassSet) (u : Use) → Has (uses normal accesses) u → bound_by normal accesses set (step_of normal set u) ≡ with_use normal set u
    bound_step set u h = ap (λ a. with_classes set (member_classes normal (record u { access = a }))) (access_of_use u h)

    abbrev pub Added : ClassSet → List DStep → Type 0
    Added set steps = (each_step normal accesses good set steps ≡ true) × (is_covered normal accesses (bound_after normal accesses set steps) ≡ true)

    added_none : (set : ClassSet) (steps : List DStep) → is_covered normal accesses set ≡ true → Some [] ≡ Some steps → Added set steps
    added_none set steps e h =
        let same : [] ≡ steps = cc in
        subst (Added set) same (refl, e)

    added_one : (set : ClassSet) (u : Use) (rest : List DStep) → Has (uses normal accesses) u → holds_classes set (key_classes normal u) ≡ true
        → Added (with_use normal set u) rest → Added set (step_of normal set u ∷ rest)
    added_one set u rest h keys later =
        let more = subst (λ s. Added s rest) (sym (bound_step set u h)) later in (
          and_both (good set (step_of normal set u)) (each_step normal accesses good (bound_by normal accesses set (step_of normal set u)) rest)
              (good_step set u h keys) more.0,
          more.1,
        )

    pub added : (n : ℕ) (set : ClassSet) (steps : List DStep) → adding_steps n normal accesses set ≡ Some steps → Added set steps
    added zero set steps h = by (is_covered normal accesses set) refl h
      where
        by : (b : Bool) → is_covered normal accesses set ≡ b → cond b (Some []) None ≡ Some steps → Added set steps
        by true e g = added_none set steps e g
        by false e g = cc
    added (suc n) set steps h = by (is_covered normal accesses set) refl h (added n)
      where
        one : (u : Use) (o : Option (List DStep)) → Has (enabled_uses normal accesses set) u
            → ((rest : List DStep) → o ≡ Some rest → Added (with_use normal set u) rest)
            → option_map (λ rest. step_of normal set u ∷ rest) o ≡ Some steps → Added set steps
        one u None m later g = cc
        one u (Some rest) m later g =
            let f = Has-from_filter (λ v. holds_classes set (key_classes normal v) && adds_class normal set v) (uses normal accesses) u m in
            let same : step_of normal set u ∷ rest ≡ steps = cc in
            subst (Added set) same (added_one set u rest f.0 (and_left (holds_classes set (key_classes normal u)) (adds_class normal set u) f.1)
            (later rest refl))

        pick : (o : Option Use) → least_bound (enabled_uses normal accesses set) ≡ o
            → ((s : ClassSet) (rest : List DStep) → adding_steps n normal accesses s ≡ Some rest → Added s rest)
            → then_step o None (λ u. option_map (λ rest. step_of normal set u ∷ rest) (adding_steps n normal accesses (with_use normal set u))) ≡ Some steps
            → Added set steps
        pick None e later g = cc
        pick (Some u) e later g = one u (adding_steps n normal accesses (with_use normal set u)) (least_has (enabled_uses normal accesses set) u e)
            (later (with_use normal set u)) g

        by : (b : Bool) → is_covered normal accesses set ≡ b
            → cond b (Some []) (then_step (least_bound (enabled_uses normal accesses set)) None
            (λ u. option_map (λ rest. step_of normal set u ∷ rest) (adding_steps n normal accesses (with_use normal set u)))) ≡ Some steps
            → ((s : ClassSet) (rest : List DStep) → adding_steps n normal accesses s ≡ Some rest → Added s rest) → Added set steps
        by true e g later = added_none set steps e g
        by false e g later = pick (least_bound (enabled_uses normal accesses set)) refl later g

    -- what further steps meet: each is good, and each of the atoms is served by the steps before or by them
    abbrev Met : List DStep → ClassSet → List ℕ → List DStep → Type 0
    Met steps set atoms more =
        (each_step normal accesses good set more ≡ true)
        × ((a : ℕ) → Has atoms a → (is_served_by normal accesses steps a ≡ true) ⊎ (is_served_by normal accesses more a ≡ true))

    met_one : (steps : List DStep) (set : ClassSet) (atom : ℕ) (atoms : List ℕ) (u : Use) (rest : List DStep) → Has (uses normal accesses) u
        → (u.atom == atom) ≡ true → serves normal set u ≡ true → Met steps (with_use normal set u) atoms rest
        → Met steps set (atom ∷ atoms) (step_of normal set u ∷ rest)
    met_one steps set atom atoms u rest h here served later = (
      and_both (good set (step_of normal set u)) (each_step normal accesses good (bound_by normal accesses set (step_of normal set u)) rest)
          (good_step set u h (and_left (holds_classes set (key_classes normal u)) (holds_needed normal u) served))
          (subst (λ s. each_step normal accesses good s rest ≡ true) (sym (bound_step set u h)) later.0),
      λ a m. elim m [
        | inl e ↦ inr (or_left ((u.atom == a) && holds_needed normal (record u { access = access_in accesses u.access.id }))
            (is_served_by normal accesses rest a)
            (and_both (u.atom == a) (holds_needed normal (record u { access = access_in accesses u.access.id }))
            (same_number u.atom a (eqb-true u.atom atom here ∙ sym e))
            (ap (λ c. holds_needed normal (record u { access = c })) (access_of_use u h)
            ∙ and_right (holds_classes set (key_classes normal u)) (holds_needed normal u) served)))
        | inr g ↦ elim (later.1 a g) [
          | inl k ↦ inl k
          | inr k ↦ inr (or_right ((u.atom == a) && holds_needed normal (record u { access = access_in accesses u.access.id }))
              (is_served_by normal accesses rest a) k)
        ]
      ],
    )

    abbrev Later : List DStep → List ℕ → Type 0
    Later steps atoms = (set : ClassSet) → ((a : ℕ) → Has atoms a → is_served normal accesses set a ≡ true)
        → Met steps set atoms (serving_steps normal accesses steps set atoms)

    serving : (steps : List DStep) (atoms : List ℕ) (set : ClassSet) → ((a : ℕ) → Has atoms a → is_served normal accesses set a ≡ true)
        → Met steps set atoms (serving_steps normal accesses steps set atoms)
    serving steps [] set s = (refl, λ a h. absurd h)
    serving steps (atom ∷ atoms) set s = by (is_served_by normal accesses steps atom) refl (serving steps atoms)
      where
        pick : (o : Option Use) → least_bound (filter (λ u. (u.atom == atom) && serves normal set u) (uses normal accesses)) ≡ o → Later steps atoms
            → Met steps set (atom ∷ atoms)
            (then_step o (serving_steps normal accesses steps set atoms)
            (λ u. step_of normal set u ∷ serving_steps normal accesses steps (with_use normal set u) atoms))
        pick None e later =
            let r = any_has (λ u. (u.atom == atom) && serves normal set u) (uses normal accesses) (s atom (inl refl)) in
            let none = least_none (filter (λ u. (u.atom == atom) && serves normal set u) (uses normal accesses)) e in
            absurd (subst (λ us. Has us r.0) none (Has-filter (λ u. (u.atom == atom) && serves normal set u) (uses normal accesses) r.0 r.1 r.2))
        pick (Some u) e later =
            let f = Has-from_filter (λ v. (v.atom == atom) && serves normal set v) (uses normal accesses) u
            (least_has (filter (λ v. (v.atom == atom) && serves normal set v) (uses normal accesses)) u e) in
            met_one steps set atom atoms u (serving_steps normal accesses steps (with_use normal set u) atoms) f.0
            (and_left (u.atom == atom) (serves normal set u) f.1) (and_right (u.atom == atom) (serves normal set u) f.1)
            (later (with_use normal set u) (λ a h. served_within set (with_use normal set u) a (λ c g. has-with_kept (member_classes normal u) set c g)
            (s a (inr h))))

        by : (b : Bool) → is_served_by normal accesses steps atom ≡ b → Later steps atoms
            → Met steps set (atom ∷ atoms)
            (cond b (serving_steps normal accesses steps set atoms)
            (then_step (least_bound (filter (λ u. (u.atom == atom) && serves normal set u) (uses normal accesses)))
            (serving_steps normal accesses steps set atoms)
            (λ u. step_of normal set u ∷ serving_steps normal accesses steps (with_use normal set u) atoms)))
        by true e later = let m = later set
            (λ a h. s a (inr h)) in (m.0, λ a h. elim h [ inl d ↦ inl (ap (is_served_by normal accesses steps) d ∙ e) | inr g ↦ m.1 a g ])
        by false e later = pick (least_bound (filter (λ u. (u.atom == atom) && serves normal set u) (uses normal accesses))) refl later

    sound_after : (start : ClassSet) (first more : List DStep) → Added start first → Met first (bound_after normal accesses start first) (atoms_of normal) more
        → IsSound normal accesses start (first ++ more)
    unfolding is_covered
    sound_after start first more a m =
        let bound = bound_after normal accesses start first in
        let all = first ++ more in
        let whole : each_step normal accesses good start all ≡ true = each-append normal accesses good first more start a.0 m.0 in
        record {
          live = All-from_recursion (λ s. is_live accesses s.access ≡ true) all (all_from (λ s. is_live accesses s.access ≡ true) all
              (λ s k. all_has (λ t. is_live accesses t.access) all s
              (each_all normal accesses good (λ t. is_live accesses t.access) (λ set t g. (good_parts set t g).live) all start whole) k));
          sound = sound_from normal accesses start all (record {
            each = record {
              tables = each_all normal accesses good (is_on_table normal accesses) (λ set s g. (good_parts set s g).table) all start whole;
              keys = each_weaker normal accesses good (key_is_bound normal accesses) (λ set s g. (good_parts set s g).key) all start whole;
              adds = each_weaker normal accesses good (adds_rightly normal accesses) (λ set s g. (good_parts set s g).adds) all start whole;
            };
            needed = closed_places bound (bound_after normal accesses start all)
                (λ c h. subst (λ s. has s c ≡ true) (sym (bound-append normal accesses first more start)) (bound_keeps normal accesses more bound c h))
                (and_left (not (list_any (is_open normal bound) (needed_places normal))) (list_all (is_served normal accesses bound) (atoms_of normal)) a.1);
            served = all_by (is_served_by normal accesses all) (atoms_of normal) (λ n h. elim (m.1 n h) [
              | inl e ↦ served_more normal accesses first more n e
              | inr e ↦ served_after normal accesses first more n e
            ]);
          });
        }

    -- the steps before any is dropped are sound
    pub greedy_sound : (start : ClassSet) (steps : List DStep) → greedy_steps normal accesses start ≡ Some steps → IsSound normal accesses start steps
    unfolding greedy_steps is_covered
    greedy_sound start steps h = by (adding_steps normal.count normal accesses start) refl h
      where
        by : (o : Option (List DStep)) → adding_steps normal.count normal accesses start ≡ o
            → option_map (λ first. first ++ serving_steps normal accesses first (bound_after normal accesses start first) (atoms_of normal)) o ≡ Some steps
            → IsSound normal accesses start steps
        by None e g = cc
        by (Some first) e g =
            let a = added normal.count start first e in
            let bound = bound_after normal accesses start first in
            let open_none = not (list_any (is_open normal bound) (needed_places normal)) in
            let all_served = and_right open_none (list_all (is_served normal accesses bound) (atoms_of normal)) a.1 in
            let more = serving_steps normal accesses first bound (atoms_of normal) in
            let m = serving first (atoms_of normal) bound (λ n k. all_has (is_served normal accesses bound) (atoms_of normal) n all_served k) in
            let same : first ++ more ≡ steps = cc in
            subst (IsSound normal accesses start) same (sound_after start first more a m)

    pub derivation_sound : (start : ClassSet) (steps : List DStep) → derivation normal accesses start ≡ Some steps → IsSound normal accesses start steps
    unfolding derivation
    derivation_sound start steps h = by (greedy_steps normal accesses start) refl h
      where
        by : (o : Option (List DStep)) → greedy_steps normal accesses start ≡ o → option_map (pruned normal accesses start) o ≡ Some steps
            → IsSound normal accesses start steps
        by None e g = cc
        by (Some greedy) e g =
            let same : pruned normal accesses start greedy ≡ steps = cc in
            subst (IsSound normal accesses start) same (pruned_sound normal accesses start greedy (greedy_sound start greedy e))

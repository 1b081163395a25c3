-- A pending valuation in one world: what it leads to step by step, and what two worlds agree on.
use Rattle.std.proofs.Common.{◌≡◌, ◌&&◌, ◌+◌, ◌<◌, ◌≤◌, ℕ, zero, suc, Bool, true, false, cond, List, [], ◌∷◌, ◌++◌, length, map, take, drop, get_or, refl, ap, sym, ◌∙◌, subst, arith, add-one}
use Rattle.std.specs.List.{filter, flat_map, sum_by, zip}
use Rattle.std.specs.Option.{is_some}
use Rattle.std.proofs.Math.Seq.{split_at, take-suc}
use Rattle.std.proofs.lemmas.List.{drop_all, drop_more, get_or-map, map-append}
use Rattle.std.proofs.lemmas.List.Sums.{sum_by-cons}
use Rattle.beas_core.specs.declared.schema.Access.{Access}
use Rattle.beas_core.specs.declared.plan.DStep.{DStep}
use Rattle.beas_core.specs.declared.plan.Normal.{Normal}
use Rattle.beas_core.specs.Types.{Row, ClassSet, Use}
use Rattle.beas_core.specs.Groups.{group_of}
use Rattle.beas_core.specs.Coverage.{class_at, with_classes}
use Rattle.beas_core.specs.Derivations.{access_in, bound_by, bound_after, key_is_bound, member_classes, steps_are_sound}
use Rattle.beas_core.specs.Valuations.{value_of, agrees, classes_in, as_bindings, output_row}
use Rattle.beas_core.specs.Reads.{access_of_step}
use Rattle.beas_core.proofs.Sets.{Contains-from_has}
use Rattle.beas_core.specs.Extensions.{meets_bound}
use Rattle.beas_core.proofs.FrontBounds.{next_step}
use Rattle.beas_core.proofs.SoundDerivations.{bound-append}
use Rattle.beas_core.proofs.SoundParts.{sound_parts, steps_from}
use Rattle.beas_core.proofs.StartFacts.{start_counted}
use Rattle.plan_ops.specs.declared.stages.Stage.{Stage}
use Rattle.plan_ops.specs.Over.{set_of}
use Rattle.plan_ops.specs.Stages.{bound_with, joined_row, next_by, set_before, use_at}
use Rattle.plan_ops.proofs.BoundSets.{set_again}
use Rattle.plan_ops.proofs.RowFacts.{after_classes, set_after}
use Rattle.block_walk.specs.Worlds.{World, Agrees, AgreesWith}
use Rattle.block_walk.specs.Routes.{Route, IsSoundIn, first_classes, step_at, probe_at}
use Rattle.block_walk.specs.Kept.{Pending, pending_at}
use Rattle.block_walk.specs.declared.walking.Walk.{Walk}
use Rattle.block_walk.specs.Descents.{reached, wanted, work}
use Rattle.block_walk.specs.Walks.{accesses_in, no_access, classes_at, fetched_at, fetched_in, IsTidy, set_at, children, probe_of, found_at, next_at, reached_from, outputs_from, wanted_from, work_from}
use Rattle.block_walk.proofs.OrderFacts.{fetched_here}

flat_map-map : {A B C : Type 0} (f : B → List C) (g : A → B) (xs : List A) → flat_map f (map g xs) ≡ flat_map (λ x. f (g x)) xs
flat_map-map f g [] = refl
flat_map-map f g (x ∷ xs) = ap (λ r. f (g x) ++ r) (flat_map-map f g xs)

map_flat : {A B C : Type 0} (f : B → C) (g : A → List B) (xs : List A) → map f (flat_map g xs) ≡ flat_map (λ x. map f (g x)) xs
map_flat f g [] = refl
map_flat f g (x ∷ xs) = map-append f (g x) (flat_map g xs) ∙ ap (λ r. map f (g x) ++ r) (map_flat f g xs)

sum_by-map : {A B : Type 0} (f : B → ℕ) (g : A → B) (xs : List A) → sum_by f (map g xs) ≡ sum_by (λ x. f (g x)) xs
sum_by-map f g [] = refl
sum_by-map f g (x ∷ xs) = sum_by-cons f (g x) (map g xs) ∙ ap (λ r. f (g x) + r) (sum_by-map f g xs) ∙ sym (sum_by-cons (λ y. f (g y)) x xs)

-- a filter after a map after a filter
filter-map-filter : {A B : Type 0} (p : B → Bool) (f : A → B) (q : A → Bool) (xs : List A)
    → map f (filter (λ x. q x && p (f x)) xs) ≡ filter p (map f (filter q xs))
filter-map-filter p f q [] = refl
filter-map-filter {A} p f q (x ∷ xs) = by (q x) (p (f x)) refl (filter-map-filter p f q xs)
  where
    by : (a b : Bool) → p (f x) ≡ b → map f (filter (λ y. q y && p (f y)) xs) ≡ filter p (map f (filter q xs))
        → map f (cond (a && b) (x ∷ filter (λ y. q y && p (f y)) xs) (filter (λ y. q y && p (f y)) xs)) ≡ filter p (map f (cond a (x ∷ filter q xs) (filter q xs)))
    by true true e r = ap (λ ys. f x ∷ ys) r ∙ ap (λ t. cond t (f x ∷ filter p (map f (filter q xs))) (filter p (map f (filter q xs)))) (sym e)
    by true false e r = r ∙ ap (λ t. cond t (f x ∷ filter p (map f (filter q xs))) (filter p (map f (filter q xs)))) (sym e)
    by false b e r = r

abbrev pub use_by : DStep → Access → Use
use_by s a = record { atom = s.atom; access = a }

-- the valuations that a step makes of one, by its constraint, the classes before it and the tuples
abbrev pub kept_with : Normal → DStep → Row → Access → ClassSet → List Row → List Row
kept_with normal s v a set tuples = filter (meets_bound normal (with_classes set (member_classes normal (use_by s a))))
    (map (joined_row normal (use_by s a) set v) (filter (λ t. agrees (as_bindings set v ++ zip (member_classes normal (use_by s a)) t)) tuples))

pub next_kept : (normal : Normal) (s : DStep) (v : Row) (a : Access) (set : ClassSet) (tuples : List Row)
    → next_by normal (use_by s a) set v tuples ≡ kept_with normal s v a set tuples
next_kept normal s v a set tuples = filter-map-filter (meets_bound normal (bound_with normal (use_by s a) set)) (joined_row normal (use_by s a) set v)
    (λ t. agrees (as_bindings set v ++ zip (member_classes normal (use_by s a)) t)) tuples

abbrev none : DStep
none = record { atom = 0; access = record { 0 = 0 }; adds = false }

module _ (w : World) (r : Route) where
  pub step_access : (n : ℕ) → n < length r.steps → access_of_step w.accesses r.steps n ≡ access_in w.accesses (step_at r n).access
  step_access n l = get_or-map (λ (s : DStep). access_in w.accesses s.access) r.steps n none (access_in w.accesses (record { 0 = 0 })) l

  pub set_more : (n : ℕ) → n < length r.steps → set_at w r (n + 1) ≡ bound_by r.normal w.accesses (set_at w r n) (step_at r n)
  set_more n l = ap (set_at w r) (add-one n) ∙ ap (bound_after r.normal w.accesses (first_classes r)) (take-suc r.steps n none l)
      ∙ bound-append r.normal w.accesses (take n r.steps) (step_at r n ∷ []) (first_classes r)

  abbrev later : ℕ → List DStep
  later n = drop (n + 1) r.steps

  module _ (at : Pending) (l : at.step < length r.steps) where
    abbrev n : ℕ
    n = at.step

    abbrev set : ClassSet
    set = set_at w r n

    reached_is : reached_from w r at ≡ flat_map (reached_from w r) (children at (next_at w r at))
    reached_is = ap (λ ss. reached w.rows r.normal w.accesses ss set at.row) (drop_more r.steps n none l)
        ∙ ap (λ s. flat_map (reached w.rows r.normal w.accesses (later n) s) (next_at w r at)) (sym (set_more n l))
        ∙ sym (flat_map-map (reached_from w r) (pending_at (n + 1)) (next_at w r at))

    pub outputs_is : outputs_from w r at ≡ flat_map (outputs_from w r) (children at (next_at w r at))
    outputs_is = ap (map (output_row r.normal (set_at w r (length r.steps)))) reached_is
        ∙ map_flat (output_row r.normal (set_at w r (length r.steps))) (reached_from w r) (children at (next_at w r at))

    pub wanted_is : wanted_from w r at ≡ probe_of w r at ∷ flat_map (wanted_from w r) (children at (next_at w r at))
    wanted_is = ap (λ ss. wanted w.rows r.normal w.accesses n ss set at.row) (drop_more r.steps n none l)
        ∙ ap (λ s. probe_of w r at ∷ flat_map (wanted w.rows r.normal w.accesses (n + 1) (later n) s) (next_at w r at)) (sym (set_more n l))
        ∙ ap (λ ps. probe_of w r at ∷ ps) (sym (flat_map-map (wanted_from w r) (pending_at (n + 1)) (next_at w r at)))

    pub work_is : work_from w r at ≡ 1 + sum_by (work_from w r) (children at (next_at w r at))
    work_is = ap (λ ss. work w.rows r.normal w.accesses ss set at.row) (drop_more r.steps n none l)
        ∙ ap (λ s. 1 + sum_by (work w.rows r.normal w.accesses (later n) s) (next_at w r at)) (sym (set_more n l))
        ∙ ap (λ m. 1 + m) (sym (sum_by-map (work_from w r) (pending_at (n + 1)) (next_at w r at)))

  module _ (at : Pending) (last : at.step ≡ length r.steps) where
    gone : drop at.step r.steps ≡ []
    gone = drop_all at.step r.steps (omega (arith, last))

    pub outputs_last : outputs_from w r at ≡ output_row r.normal (set_at w r (length r.steps)) at.row ∷ []
    outputs_last = ap (λ ss. map (output_row r.normal (set_at w r (length r.steps))) (reached w.rows r.normal w.accesses ss (set_at w r at.step) at.row)) gone

    pub wanted_last : wanted_from w r at ≡ []
    wanted_last = ap (λ ss. wanted w.rows r.normal w.accesses at.step ss (set_at w r at.step) at.row) gone

  -- what soundness gives
  module _ (sound : IsSoundIn w r) where
    pub all_sound : steps_are_sound r.normal w.accesses (first_classes r) r.steps ≡ true
    all_sound = steps_from r.normal w.accesses (first_classes r) r.steps (sound_parts r.normal w.accesses (first_classes r) r.steps sound.sound).each

    pub key_held : (n : ℕ) → n < length r.steps → key_is_bound r.normal w.accesses (set_at w r n) (step_at r n) ≡ true
    key_held n l = (next_step r.normal w.accesses (first_classes r) (take n r.steps) (drop (suc n) r.steps) (step_at r n)
        (subst (λ ss. steps_are_sound r.normal w.accesses (first_classes r) ss ≡ true) (split_at r.steps n none l) all_sound)).key

-- the classes before a step are those of their set
pub classes_own : (r : Route) (walk : Walk) → IsTidy r walk → (n : ℕ) → n ≤ length walk.stages.items
    → classes_at walk.first walk.stages.items n ≡ classes_in (set_of r.normal (classes_at walk.first walk.stages.items n))
classes_own r walk tidy zero l = tidy.first ∙ ap classes_in (sym (ap (set_of r.normal) tidy.first
    ∙ set_again r.normal (first_classes r) (start_counted r.normal (is_some r.guide))))
classes_own r walk tidy (suc n) l = by walk.stages.items refl
  where
    by : (ss : List Stage) → ss ≡ walk.stages.items
        → classes_at walk.first walk.stages.items (suc n) ≡ classes_in (set_of r.normal (classes_at walk.first walk.stages.items (suc n)))
    by [] e = let z = ap length e in absurd (omega (arith, l, z))
    by (d ∷ rest) e =
        let inside : n < length walk.stages.items = omega (arith, l) in
        let s = get_or walk.stages.items n d in
        let same = get_or-map (λ (x : Stage). x.join.classes) walk.stages.items n d [] inside in
        subst (λ cs. cs ≡ classes_in (set_of r.normal cs)) (sym same) (after_classes r.normal s (tidy.stages n d inside).stage)

-- what a world and a walk that it agrees with have alike
module _ (w : World) (r : Route) (walk : Walk) (tidy : IsTidy r walk) (agree : AgreesWith w r.steps (fetched_in walk)) where
  pub stage_access : (n : ℕ) (d : Stage) → n < length walk.stages.items → (get_or walk.stages.items n d).access.value ≡ access_in w.accesses (step_at r n).access
  stage_access n d l =
      let e = tidy.each n l in
      let few = tidy.few in
      let f = fetched_at walk.stages.items e.0 in
      let known = (agree f (Contains-from_has (fetched_in walk) f (fetched_here walk e.0 e.1))).access in
      sym (get_or-map (λ (s : Stage). s.access.value) walk.stages.items n d no_access l)
      ∙ sym (subst (λ k. access_of_step w.accesses r.steps k ≡ get_or (accesses_in walk.stages.items) k no_access) e.2 known)
      ∙ step_access w r n (omega (arith, l, few))

  pub set_is : (n : ℕ) → n ≤ length walk.stages.items → set_of r.normal (classes_at walk.first walk.stages.items n) ≡ set_at w r n
  set_is zero l = ap (set_of r.normal) tidy.first ∙ set_again r.normal (first_classes r) (start_counted r.normal (is_some r.guide))
  set_is (suc n) l = by walk.stages.items refl (set_is n (omega (arith, l)))
    where
      by : (ss : List Stage) → ss ≡ walk.stages.items → set_of r.normal (classes_at walk.first walk.stages.items n) ≡ set_at w r n
          → set_of r.normal (classes_at walk.first ss (suc n)) ≡ set_at w r (suc n)
      by [] e so_far = let z = ap length e in absurd (omega (arith, l, z))
      by (d ∷ rest) e so_far =
          let s = get_or walk.stages.items n d in
          let few = tidy.few in
          let inside : n < length walk.stages.items = omega (arith, l) in
          let below : n < length r.steps = omega (arith, l, few) in
          let is = tidy.stages n d inside in
          let before : set_before r.normal s ≡ set_at w r n = ap (set_of r.normal) is.from ∙ so_far in
          let same_use : use_at s ≡ use_by (step_at r n) (access_in w.accesses (step_at r n).access) =
          ap (λ k. record { atom = k; access = s.access.value }) is.atom ∙ ap (use_by (step_at r n)) (stage_access n d inside) in
          ap (λ xs. set_of r.normal (classes_at walk.first xs (suc n))) e
          ∙ ap (set_of r.normal) (get_or-map (λ (x : Stage). x.join.classes) walk.stages.items n d [] inside)
          ∙ set_after r.normal s is.stage
          ∙ ap (λ u. bound_with r.normal u (set_before r.normal s)) same_use
          ∙ ap (bound_with r.normal (use_by (step_at r n) (access_in w.accesses (step_at r n).access))) before
          ∙ sym (set_more w r n below) ∙ ap (set_at w r) (add-one n)

-- a valuation in two worlds that have the same constraint for its step, the same tuples for its key, and the same classes before it
module _ (w found : World) (r : Route) (at : Pending) (below : at.step < length r.steps) (same_set : set_at w r at.step ≡ set_at found r at.step)
    (agree : Agrees w r.steps (found_at found r at)) where
  abbrev s : DStep
  s = step_at r at.step

  same_access : access_in w.accesses s.access ≡ access_in found.accesses s.access
  same_access = sym (step_access w r at.step below) ∙ agree.access

  abbrev keyed : Access → ClassSet → Row
  keyed a set = map (λ c. value_of (as_bindings set at.row) (class_at r.normal s.atom c)) a.key

  same_key : (probe_of w r at).key ≡ (probe_of found r at).key
  same_key = ap (λ a. keyed a (set_at w r at.step)) same_access ∙ ap (keyed (access_in found.accesses s.access)) same_set

  pub same_probe : probe_of w r at ≡ probe_of found r at
  same_probe = ap (probe_at at.step) same_key

  same_group : (found_at w r at).tuples ≡ (found_at found r at).tuples
  same_group = ap (λ k. group_of (w.rows (access_in w.accesses s.access).table) (access_in w.accesses s.access) k) same_key
      ∙ ap (λ (a : Access). group_of (w.rows a.table) a (probe_of found r at).key) same_access ∙ agree.tuples

  pub same_next : next_at w r at ≡ next_at found r at
  same_next = ap (λ a. kept_with r.normal s at.row a (set_at w r at.step) (found_at w r at).tuples) same_access
      ∙ ap (λ set. kept_with r.normal s at.row (access_in found.accesses s.access) set (found_at w r at).tuples) same_set
      ∙ ap (kept_with r.normal s at.row (access_in found.accesses s.access) (set_at found r at.step)) same_group

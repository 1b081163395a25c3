-- What is known after each front of a block's steps.
--     Front done from      the valuations are those after these steps
use Rattle.std.proofs.Common.{◌≡◌, ◌≤◌, ◌<◌, ◌+◌, ◌*◌, ℕ, suc, true, List, [], ◌∷◌, ◌++◌, length, map, Result, Ok, Err, IfOk, ap, sym, ◌∙◌, subst, arith, append_assoc, add-one, take, drop, get_or}
use Rattle.std.specs.Option.{is_some}
use Rattle.beas_core.specs.Guides.{GuideFits}
use Rattle.std.proofs.Math.Seq.{split_at, take-suc}
use Rattle.std.proofs.lemmas.List.{append-nil}
use Rattle.beas_core.specs.declared.schema.Access.{Access}
use Rattle.beas_core.specs.declared.plan.DStep.{DStep}
use Rattle.beas_core.specs.declared.plan.Normal.{Normal}
use Rattle.beas_core.specs.Types.{Row, TableRows, ClassSet, Guide}
use Rattle.beas_core.specs.Order.{row_cmp}
use Rattle.beas_core.specs.Sets.{distinct}
use Rattle.beas_core.specs.Coverage.{ClassesInRange, ConstantsInRange, start_classes}
use Rattle.beas_core.specs.Derivations.{access_in, bound_by, bound_after, key_is_bound, steps_are_sound, IsSound}
use Rattle.beas_core.specs.Valuations.{starts, valued_rows, valuations, answers_of, output_row}
use Rattle.beas_core.specs.Reads.{reads_of, step_reads}
use Rattle.beas_core.specs.Numbers.{announced_from}
use Rattle.beas_core.specs.Fits.{StepsHold}
use Rattle.beas_core.proofs.Sets.{Has, Has-append_left, Has-from_contains, Contains-from_has}
use Rattle.beas_core.specs.Extensions.{extensions, keep_met}
use Rattle.beas_core.specs.StepReads.{reads_at}
use Rattle.beas_core.proofs.SoundDerivations.{bound-append}
use Rattle.beas_core.proofs.SoundParts.{sound_parts, steps_from}
use Rattle.beas_core.proofs.FrontBounds.{front_sound, front_counted, next_step, next_valuations, reads_room, announced-append}
use Rattle.beas_core.proofs.ReadFacts.{reads-append, reads-snoc}
use Rattle.plan_ops.specs.declared.valuations.Valuations.{Valuations}
use Rattle.plan_ops.specs.Over.{IsOver, Counts, bound_set}
use Rattle.plan_ops.proofs.BoundSets.{bound_set_is}

-- what a count that rose exactly says of every result
pub exact : {A E : Type 0} (result : Result A E) (old new share : ℕ) → new ≡ old + share → Counts result old new share
exact (Ok value) old new share e = e
exact (Err error) old new share e = (omega (arith, e), omega (arith, e))

-- and one that rose by at most the share after an error
pub at_error : {A E : Type 0} (result : Result A E) (e : E) (old new share : ℕ) → result ≡ Err e → old ≤ new → new ≤ old + share → Counts result old new share
at_error {A} {E} result e old new share is low high =
    let P : Result A E → Type 0 = λ r. Counts r old new share in
    subst P (sym is) (low, high)

pub answered : {X E : Type 0} (result : Result X E) (a b : X) → a ≡ b → IfOk result (λ x. x ≡ a) → IfOk result (λ x. x ≡ b)
answered (Ok value) a b e h = h ∙ e
answered (Err error) a b e h = h

module _ (rows : TableRows) (normal : Normal) (accesses : List Access) (guide : Guide) where
  -- the classes that are bound after some steps
  abbrev pub set_after : List DStep → ClassSet
  set_after done = bound_after normal accesses (start_classes normal (is_some guide)) done

  pub record Front (done : List DStep) (from : Valuations) : Type 0 where
    pub over : IsOver (set_after done) from
    pub found : from.rows ≡ valuations rows normal accesses guide done

  pub front_none : (from : Valuations) → IsOver (start_classes normal (is_some guide)) from
      → from.rows ≡ valued_rows normal (start_classes normal (is_some guide)) (starts normal guide) → Front [] from
  unfolding valuations
  front_none from over found = record { over = over; found = found }

  pub nothing_read : (n : ℕ) → n ≡ n + reads_of rows normal accesses guide []
  unfolding reads_of
  nothing_read n = omega arith

  -- what is known before the step at a place
  pub record IsNext (steps : List DStep) (i : ℕ) (d : DStep) (from : Valuations) : Type 0 where
    pub key : key_is_bound normal accesses (bound_set normal from) (get_or steps i d) ≡ true
    pub over : IsOver (bound_set normal from) from
    pub room : StepsHold rows accesses steps → reads_of rows normal accesses guide (take i steps)
        + length from.rows * (access_in accesses (get_or steps i d).access).bound ≤ announced_from accesses (length (starts normal guide)) steps
    pub reads : reads_of rows normal accesses guide (take (i + 1) steps)
        ≡ reads_of rows normal accesses guide (take i steps) + step_reads rows normal accesses (get_or steps i d) (bound_set normal from) from.rows
    pub within : reads_of rows normal accesses guide (take i steps)
        + step_reads rows normal accesses (get_or steps i d) (bound_set normal from) from.rows ≤ reads_of rows normal accesses guide steps

  module _ (ranges : ClassesInRange normal) (inside : ConstantsInRange normal) (fit : GuideFits normal guide) where
    abbrev first : ℕ
    first = length (starts normal guide)

    one_start : length (starts normal guide) ≤ first
    one_start = omega arith

    steps_sound : (steps : List DStep) → IsSound normal accesses (start_classes normal (is_some guide)) steps
        → steps_are_sound normal accesses (start_classes normal (is_some guide)) steps ≡ true
    steps_sound steps sound =
        let start = start_classes normal (is_some guide) in
        steps_from normal accesses start steps (sound_parts normal accesses start steps sound.sound).each

    -- before the step at a place
    module _ (steps : List DStep) (i : ℕ) (d : DStep) (l : i < length steps) (sound : IsSound normal accesses (start_classes normal (is_some guide)) steps)
        (from : Valuations) (front : Front (take i steps) from) where
      abbrev done : List DStep
      done = take i steps

      abbrev later : List DStep
      later = drop (suc i) steps

      abbrev s : DStep
      s = get_or steps i d

      split : steps ≡ done ++ s ∷ later
      split = split_at steps i d l

      more : take (i + 1) steps ≡ done ++ s ∷ []
      more = ap (λ n. take n steps) (add-one i) ∙ take-suc steps i d l

      all_sound : steps_are_sound normal accesses (start_classes normal (is_some guide)) (done ++ s ∷ later) ≡ true
      all_sound = subst (λ all. steps_are_sound normal accesses (start_classes normal (is_some guide)) all ≡ true) split (steps_sound steps sound)

      counted : length (set_after done) ≡ normal.count
      counted = front_counted rows normal accesses guide ranges inside fit done (s ∷ later) all_sound

      pub same_set : bound_set normal from ≡ set_after done
      same_set = bound_set_is normal (set_after done) from counted front.over

      next_over : IsOver (bound_set normal from) from
      next_over = subst (λ set. IsOver set from) (sym same_set) front.over

      next_key : key_is_bound normal accesses (bound_set normal from) s ≡ true
      next_key = subst (λ set. key_is_bound normal accesses set s ≡ true) (sym same_set)
          (next_step normal accesses (start_classes normal (is_some guide)) done later s all_sound).key

      front_of_next : steps_are_sound normal accesses (start_classes normal (is_some guide)) (done ++ s ∷ []) ≡ true
      front_of_next = front_sound normal accesses (start_classes normal (is_some guide)) (done ++ s ∷ []) later
          (subst (λ all. steps_are_sound normal accesses (start_classes normal (is_some guide)) all ≡ true) (sym (append_assoc done (s ∷ []) later)) all_sound)

      -- what the next step may read stays within the announced number
      next_room : StepsHold rows accesses steps
          → reads_of rows normal accesses guide done + length from.rows * (access_in accesses s.access).bound ≤ announced_from accesses first steps
      next_room hold =
          let held : StepsHold rows accesses (done ++ s ∷ []) = λ t m. hold t (Contains-from_has steps t
          (subst (λ all. Has all t) (append_assoc done (s ∷ []) later ∙ sym split)
          (Has-append_left (done ++ s ∷ []) later t (Has-from_contains (done ++ s ∷ []) t m)))) in
          let room = reads_room rows normal accesses guide ranges inside fit first one_start done [] s front_of_next held in
          let whole = announced-append accesses (done ++ s ∷ []) later first in
          let same = ap (announced_from accesses first) (append_assoc done (s ∷ []) later ∙ sym split) in
          let long = ap (λ (found : List Row). length found * (access_in accesses s.access).bound) front.found in
          omega (arith, room, whole, same, long)

      abbrev share : ℕ
      share = step_reads rows normal accesses s (bound_set normal from) from.rows

      share_is : share ≡ reads_at rows normal accesses guide done s
      share_is = ap (λ set. step_reads rows normal accesses s set from.rows) same_set ∙ ap (step_reads rows normal accesses s (set_after done)) front.found

      next_reads : reads_of rows normal accesses guide (take (i + 1) steps) ≡ reads_of rows normal accesses guide done + share
      next_reads = ap (reads_of rows normal accesses guide) more ∙ reads-snoc rows normal accesses guide done s ∙ ap
          (λ n. reads_of rows normal accesses guide done + n) (sym share_is)

      share_within : reads_of rows normal accesses guide done + share ≤ reads_of rows normal accesses guide steps
      share_within =
          let whole = reads-append rows normal accesses guide (done ++ s ∷ []) later in
          let same = ap (reads_of rows normal accesses guide) (append_assoc done (s ∷ []) later ∙ sym split) in
          let n = next_reads in
          let m = ap (reads_of rows normal accesses guide) more in
          omega (arith, whole, same, n, m)

      pub is_next : IsNext steps i d from
      is_next = record { key = next_key; over = next_over; room = next_room; reads = next_reads; within = share_within }

      pub front_more : (found : Valuations) → IsOver (bound_by normal accesses (bound_set normal from) s) found
          → found.rows ≡ keep_met normal (bound_by normal accesses (bound_set normal from) s)
          (extensions rows normal accesses s (bound_set normal from) from.rows)
          → Front (take (i + 1) steps) found
      front_more found over is = subst (λ front. Front front found) (sym more) (record {
        over = subst (λ set. IsOver set found)
            (ap (λ set. bound_by normal accesses set s) same_set
            ∙ sym (bound-append normal accesses done (s ∷ []) (start_classes normal (is_some guide)))) over;
        found = is ∙ ap (λ set. keep_met normal (bound_by normal accesses set s) (extensions rows normal accesses s set from.rows)) same_set
            ∙ ap (λ before. keep_met normal (bound_by normal accesses (set_after done) s)
            (extensions rows normal accesses s (set_after done) before)) front.found
            ∙ sym (next_valuations rows normal accesses guide ranges inside fit done later s all_sound);
      })

    module _ (steps : List DStep) (sound : IsSound normal accesses (start_classes normal (is_some guide)) steps)
        (from : Valuations) (front : Front steps from) where
      last_set : bound_set normal from ≡ set_after steps
      last_set = bound_set_is normal (set_after steps) from
          (front_counted rows normal accesses guide ranges inside fit steps []
          (subst (λ all. steps_are_sound normal accesses (start_classes normal (is_some guide)) all ≡ true) (sym (append-nil steps)) (steps_sound steps sound)))
          front.over

      pub last_over : IsOver (bound_set normal from) from
      last_over = subst (λ set. IsOver set from) (sym last_set) front.over

      pub last_answers : distinct row_cmp (map (output_row normal (bound_set normal from)) from.rows) ≡ answers_of rows normal accesses guide steps
      unfolding answers_of
      last_answers = ap (λ set. distinct row_cmp (map (output_row normal set) from.rows)) last_set
          ∙ ap (λ found. distinct row_cmp (map (output_row normal (set_after steps)) found)) front.found

-- A turn's loop over the valuations that are yet to be visited.
use Rattle.std.proofs.Common.{◌≡◌, ◌+◌, ◌<◌, ◌≤◌, ℕ, Bool, true, List, [], ◌∷◌, ◌++◌, length, map, Result, Ok, Err, ◌⊎◌, inl, inr, refl, ap, sym, ◌∙◌, subst, arith}
use Rattle.std.specs.Result.{OnErr}
use Rattle.std.specs.List.{flat_map}
use Rattle.beas_core.specs.declared.schema.Access.{Access}
use Rattle.beas_core.specs.Order.{row_cmp, row_cmp_total}
use Rattle.beas_core.specs.Sets.{distinct, IsInOrder}
use Rattle.beas_core.specs.Valuations.{answers_of, output_row, valuations}
use Rattle.beas_core.specs.Derivations.{bound_after}
use Rattle.beas_core.specs.Reads.{Probe, probe_reads}
use Rattle.beas_core.proofs.Sets.{Has, SameMembers, Has-map, Has-from_map, Has-append_left, Has-append_right, Has-from_contains, Contains-from_has, same_sets, IsInOrder-distinct, distinct_is}
use Rattle.beas_core.proofs.ValueOrder.{row_cmp_tells}
use Rattle.plan_ops.specs.Over.{set_of}
use Rattle.block_walk.specs.Worlds.{World, Fetched, made, Agrees, AgreesWith}
use Rattle.block_walk.specs.Routes.{Route, IsSoundIn, first_classes, all_probes}
use Rattle.block_walk.specs.Turns.{fetched_reads, IsWithin, ProbedOne, SpentOnce, GoesOn, outputs_at, Visited, VisitSpent, share_at, IsDone}
use Rattle.block_walk.proofs.ProbeOrder.{probes_in_order}
use Rattle.block_walk.specs.Kept.{Pending}
use Rattle.block_walk.specs.Stacks.{IsStack, pending_in}
use Rattle.block_walk.specs.declared.walking.Walk.{Walk}
use Rattle.block_walk.specs.Walks.{classes_at, fetched_in, IsTidy, WasMade, set_at, children, probe_of, found_at, outputs_from, wanted_from, IsProbe, IsWalk, Stands, next_at}
use Rattle.block_walk.proofs.DueFacts.{fewer, within}
use Rattle.block_walk.proofs.OrderFacts.{fetched_from, probe_tells, probe_total}
use Rattle.block_walk.proofs.WorldFacts.{set_is, step_access, same_next, same_probe}
use Rattle.block_walk.proofs.VisitFacts.{least}
use Rattle.block_walk.proofs.WalkFacts.{pending_is_probe, visited_is_walk, through_is_walk}

pub on_err : {A E P : Type 0} (result : Result A E) → P → OnErr result P
on_err (Ok value) p = tt
on_err (Err error) p = p

-- ---- a valuation that was popped

-- a walk of the same steps and pairs, where no other valuation is pending
pub part_tidy : (r : Route) (before after : Walk) → IsTidy r before → IsStack after.pending → ((p : Pending) → Has (pending_in after.pending) p → Has (pending_in before.pending) p)
    → IsTidy r (record before { pending = after.pending; through = after.through })
part_tidy r before after tidy stack into = record {
  first = tidy.first;
  few = tidy.few;
  stages = tidy.stages;
  steps = tidy.steps;
  each = tidy.each;
  pending = λ p h. tidy.pending p (into p h);
  wide = λ p h. tidy.wide p (into p h);
  known = tidy.known;
  kept = tidy.kept;
  stack = stack;
  ordered = tidy.ordered;
}

pub popped_tidy : (r : Route) (before after : Walk) (at : Pending) → IsTidy r before → IsStack after.pending
    → pending_in before.pending ≡ pending_in after.pending ++ at ∷ [] → IsTidy r (record before { pending = after.pending; through = after.through })
popped_tidy r before after at tidy stack pending = part_tidy r before after tidy stack
    (λ p h. subst (λ ps. Has ps p) (sym pending) (Has-append_left (pending_in after.pending) (at ∷ []) p h))

pub at_pending : (before : Walk) (rest : List Pending) (at : Pending) → pending_in before.pending ≡ rest ++ at ∷ [] → Has (pending_in before.pending) at
at_pending before rest at pending = subst (λ ps. Has ps at) (sym pending) (Has-append_right rest (at ∷ []) at (inl refl))

pub at_below : (r : Route) (before : Walk) (rest : List Pending) (at : Pending) → IsTidy r before → pending_in before.pending ≡ rest ++ at ∷ []
    → (at.step ≡ length r.steps → ⊥) → at.step < length r.steps
at_below r before rest at tidy pending other =
    let l = tidy.pending at (at_pending before rest at pending) in
    let f = tidy.few in
    elim (least at.step (length r.steps) (omega (arith, l, f))) [ inl m ↦ m | inr e ↦ absurd (other e) ]

-- ---- a visit

module _ (w0 : World) (r : Route) (sound0 : IsSoundIn w0 r) (at : Pending) (below : at.step < length r.steps) (before old new : Walk) (did : Bool)
    (v : Visited w0 r at did old new) (tidy_new : IsTidy r new) (agree_old : AgreesWith w0 r.steps (fetched_in old)) (stands : Stands r before)
    (pending : pending_in before.pending ≡ pending_in old.pending ++ at ∷ []) (through : old.through ≡ before.through)
    (fetched : fetched_in before ≡ fetched_in old) where
  found_agrees : Agrees w0 r.steps (found_at w0 r at)
  found_agrees = record { access = step_access w0 r at.step below; tuples = refl }

  pub agree_new : AgreesWith w0 r.steps (fetched_in new)
  agree_new f c = elim (v.others f (Has-from_contains (fetched_in new) f c)) [
    | inl e ↦ subst (Agrees w0 r.steps) (sym e) found_agrees
    | inr h ↦ agree_old f (Contains-from_has (fetched_in old) f h)
  ]

  reach : at.step + 1 ≤ length new.stages.items
  reach =
      let m = fetched_from new (found_at w0 r at) v.made in
      let l = tidy_new.steps m.0 m.1 in
      let e = ap (λ (f : Fetched). f.probe.step) m.2 in
      omega (arith, l, e)

  made_new : (p : Probe) → WasMade (fetched_in before) p → WasMade (fetched_in new) p
  made_new p h =
      let m = Has-from_map (λ (f : Fetched). f.probe) (fetched_in old) p (subst (λ fs. WasMade fs p) fetched h) in
      subst (WasMade (fetched_in new)) (sym m.2) (Has-map (λ (f : Fetched). f.probe) (fetched_in new) m.0 (v.stay m.0 m.1))

  goes_in : (w : World) → next_at w r at ≡ next_at w0 r at → set_at w r (at.step + 1) ≡ set_at w0 r (at.step + 1)
      → GoesOn (length r.steps) at (next_at w r at) (outputs_at w r at) (pending_in old.pending) (pending_in new.pending) before.through new.through
  goes_in w next same = elim v.goes_on [
    | inl x ↦ inl (
      x.0,
      x.1,
      subst (SameMembers new.through) (ap (λ ts. ts ++ outputs_at w0 r at) through
          ∙ ap (λ os. before.through ++ os) (sym (ap (λ set. map (output_row r.normal set) (next_at w r at))
          (ap (set_at w r) (sym x.0) ∙ same ∙ ap (set_at w0 r) x.0) ∙ ap (map (output_row r.normal (set_at w0 r (length r.steps)))) next))) x.2,
    )
    | inr x ↦ inr (x.0, x.1 ∙ ap (λ rows. (pending_in old.pending) ++ children at rows) (sym next), x.2 ∙ through)
  ]

  pub visited_stands : Stands r new
  visited_stands w sound agree =
      let reached = reach in
      let l : at.step ≤ length new.stages.items = omega (arith, reached) in
      let same_set = sym (set_is w r new tidy_new agree at.step l) ∙ set_is w0 r new tidy_new agree_new at.step l in
      let same_after = sym (set_is w r new tidy_new agree (at.step + 1) reach) ∙ set_is w0 r new tidy_new agree_new (at.step + 1) reach in
      let here = agree (found_at w0 r at) (Contains-from_has (fetched_in new) (found_at w0 r at) v.made) in
      let probe = same_probe w w0 r at below same_set here in
      let next = same_next w w0 r at below same_set here in
      let agree_before : AgreesWith w r.steps (fetched_in before) = λ f c. agree f (Contains-from_has (fetched_in new) f
      (v.stay f (subst (λ fs. Has fs f) fetched (Has-from_contains (fetched_in before) f c)))) in
      visited_is_walk w r at below before new (pending_in old.pending) (stands w sound agree_before) pending
      (goes_in w next same_after) made_new
      (subst (WasMade (fetched_in new)) (sym probe) (Has-map (λ (f : Fetched). f.probe) (fetched_in new) (found_at w0 r at) v.made))
      (λ p h.
      let m = Has-from_map (λ (f : Fetched). f.probe) (fetched_in new) p h in
      elim (v.others m.0 m.1) [
        | inl e ↦ inl (m.2 ∙ ap (λ (f : Fetched). f.probe) e ∙ sym probe)
        | inr k ↦ inr (subst (λ fs. WasMade fs p) (sym fetched)
            (subst (WasMade (fetched_in old)) (sym m.2) (Has-map (λ (f : Fetched). f.probe) (fetched_in old) m.0 k)))
      ])

  is_before : IsWalk w0 r before
  is_before = stands w0 sound0 (subst (AgreesWith w0 r.steps) (sym fetched) agree_old)

  pub wanted_here : IsProbe w0 r (probe_of w0 r at)
  wanted_here = pending_is_probe w0 r at below before (pending_in old.pending) is_before pending

  pub probed_one : IsTidy r before → did ≡ true → (start : Walk) → fetched_in before ≡ fetched_in start → (reads spent now : ℕ) → reads ≡ share_at w0 r at
      → now ≡ spent + reads → ProbedOne w0 r reads (fetched_in start) (fetched_in new) spent now
  probed_one tidy so start same reads spent now is cost =
      let start_is : fetched_in old ≡ fetched_in start = sym fetched ∙ same in
      let agree_before = subst (AgreesWith w0 r.steps) (sym fetched) agree_old in
      let not_made : WasMade (fetched_in before) (probe_of w0 r at) → ⊥ = λ h.
      v.was_due so (subst (λ fs. WasMade fs (probe_of w0 r at)) fetched h) in record {
        one = found_at w0 r at;
        due = record {
          wanted = Contains-from_has (all_probes w0 r) (probe_of w0 r at) wanted_here;
          not_made = λ h. v.was_due so (subst (λ fs. WasMade fs (probe_of w0 r at)) (sym start_is)
              (Has-from_contains (made (fetched_in start)) (probe_of w0 r at) h));
        };
        agrees = found_agrees;
        fetches = record {
          stands = Contains-from_has (fetched_in new) (found_at w0 r at) v.made;
          others = λ f h. elim (v.others f (Has-from_contains (fetched_in new) f h)) [
            | inl e ↦ inl e
            | inr k ↦ inr (Contains-from_has (fetched_in start) f (subst (λ fs. Has fs f) start_is k))
          ];
          stay = λ f h. Contains-from_has (fetched_in new) f (v.stay f (subst (λ fs. Has fs f) (sym start_is) (Has-from_contains (fetched_in start) f h)));
          count = v.more so ∙ ap (λ fs. length fs + 1) start_is;
        };
        agree = agree_new;
        fewer = subst (λ fs. length fs < length (all_probes w0 r)) same
            (fewer w0 r before tidy is_before agree_before (probe_of w0 r at) wanted_here not_made);
        all_reads = v.all_reads so ∙ ap (λ fs. fetched_reads fs + share_at w0 r at) start_is ∙ ap (λ n. fetched_reads (fetched_in start) + n) (sym is);
        within = subst (λ fs. IsWithin w0 r fs (probe_of w0 r at)) same
            (within w0 r before tidy is_before agree_before (probe_of w0 r at) wanted_here not_made);
        reads_are = is ∙ ap (λ (a : Access). probe_reads w0.rows a (probe_of w0 r at).key) (sym (step_access w0 r at.step below));
        cost = cost;
      }

-- a visit that failed
pub failed_spent : (w : World) (r : Route) (at : Pending) → at.step < length r.steps → (before start old : Walk) → IsTidy r before
    → IsWalk w r before → AgreesWith w r.steps (fetched_in before) → pending_in before.pending ≡ pending_in old.pending ++ at ∷ [] → fetched_in old ≡ fetched_in before → fetched_in before ≡ fetched_in start
    → (spent so_far now : ℕ) → so_far ≡ spent → VisitSpent w r at old so_far now → SpentOnce w r (fetched_in start) spent now
failed_spent w r at below before start old tidy is agree pending fetched same spent so_far now free (inl e) = inl (e ∙ free)
failed_spent w r at below before start old tidy is agree pending fetched same spent so_far now free (inr due) =
    let wanted = pending_is_probe w r at below before (pending_in old.pending) is pending in
    let not_made : WasMade (fetched_in before) (probe_of w r at) → ⊥ = λ h. due.0 (subst (λ fs. WasMade fs (probe_of w r at)) (sym fetched) h) in
    inr (record {
      probe = probe_of w r at;
      due = record {
        wanted = Contains-from_has (all_probes w r) (probe_of w r at) wanted;
        not_made = λ h. not_made (subst (λ fs. WasMade fs (probe_of w r at)) (sym same) (Has-from_contains (made (fetched_in start)) (probe_of w r at) h));
      };
      fewer = subst (λ fs. length fs < length (all_probes w r)) same (fewer w r before tidy is agree (probe_of w r at) wanted not_made);
      within = subst (λ fs. IsWithin w r fs (probe_of w r at)) same (within w r before tidy is agree (probe_of w r at) wanted not_made);
      cost = due.1 ∙ ap (λ n. n + share_at w r at) free
          ∙ ap (λ (a : Access). spent + probe_reads w.rows a (probe_of w r at).key) (sym (step_access w r at.step below));
    })

-- ---- a valuation after the last step

pub last_stands : (r : Route) (at : Pending) → at.step ≡ length r.steps → (before new : Walk) → IsTidy r before → Stands r before
    → pending_in before.pending ≡ pending_in new.pending ++ at ∷ []
    → new.through ≡ before.through ++ output_row r.normal (set_of r.normal
    (classes_at before.first before.stages.items (length before.stages.items))) at.row ∷ []
    → fetched_in new ≡ fetched_in before → Stands r new
last_stands r at last before new tidy stands pending through fetched w sound agree =
    let agree_before = subst (AgreesWith w r.steps) fetched agree in
    let l = tidy.pending at (at_pending before (pending_in new.pending) at pending) in
    let few = tidy.few in
    let whole : length before.stages.items ≡ length r.steps = omega (arith, l, few, last) in
    let set = set_is w r before tidy agree_before (length before.stages.items) (omega arith) ∙ ap (set_at w r) whole in
    through_is_walk w r at last before new (stands w sound agree_before) pending
    (through ∙ ap (λ s. before.through ++ output_row r.normal s at.row ∷ []) set) fetched

-- ---- the end

pub same_stands : (r : Route) (before new : Walk) → Stands r before → pending_in new.pending ≡ (pending_in before.pending) → new.through ≡ before.through
    → fetched_in new ≡ fetched_in before → Stands r new
same_stands r before new stands pending through fetched w sound agree =
    let is = stands w sound (subst (AgreesWith w r.steps) fetched agree) in record {
      rows_all = λ y h. subst (λ ps. Has new.through y ⊎ Has (flat_map (outputs_from w r) ps) y) (sym pending)
          (subst (λ ys. Has ys y ⊎ Has (flat_map (outputs_from w r) (pending_in before.pending)) y) (sym through) (is.rows_all y h));
      rows_only = λ y h. is.rows_only y (subst (λ ys. Has ys y ⊎ Has (flat_map (outputs_from w r) (pending_in before.pending)) y) through
          (subst (λ ps. Has new.through y ⊎ Has (flat_map (outputs_from w r) ps) y) pending h));
      probes_all = λ p h. subst (λ ps. WasMade (fetched_in new) p ⊎ Has (flat_map (wanted_from w r) ps) p) (sym pending)
          (subst (λ fs. WasMade fs p ⊎ Has (flat_map (wanted_from w r) (pending_in before.pending)) p) (sym fetched) (is.probes_all p h));
      probes_only = λ p h. is.probes_only p (subst (λ fs. WasMade fs p ⊎ Has (flat_map (wanted_from w r) (pending_in before.pending)) p) fetched
          (subst (λ ps. WasMade (fetched_in new) p ⊎ Has (flat_map (wanted_from w r) ps) p) pending h));
    }

pub is_done : (r : Route) (start new : Walk) → IsTidy r new → Stands r new → fetched_in new ≡ fetched_in start → pending_in new.pending ≡ []
    → (spent now : ℕ) → now ≡ spent → IsDone r (fetched_in start) new spent now
is_done r start new tidy stands same none spent now free = record {
  ended = none;
  all_made = λ w sound agree.
      let is = stands w sound (subst (AgreesWith w r.steps) (sym same) agree) in
      same_sets probe_total probe_tells (all_probes w r) (made (fetched_in new)) (probes_in_order w.rows r.normal w.accesses r.guide r.steps)
      tidy.ordered (λ p. (
        λ h. elim (is.probes_all p h) [ inl k ↦ k | inr k ↦ absurd (subst (λ ps. Has (flat_map (wanted_from w r) ps) p) none k) ],
        λ h. is.probes_only p (inl h),
      )) ∙ ap made same;
  same = same;
  cost = free;
}

answers_in_order : (w : World) (r : Route) → IsInOrder row_cmp (answers_of w.rows r.normal w.accesses r.guide r.steps)
unfolding answers_of
answers_in_order w r = IsInOrder-distinct row_cmp_total row_cmp_tells
    (map (output_row r.normal (bound_after r.normal w.accesses (first_classes r) r.steps)) (valuations w.rows r.normal w.accesses r.guide r.steps))

pub ended_answers : (w : World) (r : Route) → (walk : Walk) → IsWalk w r walk → pending_in walk.pending ≡ []
    → distinct row_cmp walk.through ≡ answers_of w.rows r.normal w.accesses r.guide r.steps
ended_answers w r walk is none = sym (distinct_is row_cmp_total row_cmp_tells walk.through (answers_of w.rows r.normal w.accesses r.guide r.steps)
    (answers_in_order w r) (λ y. (
      λ h. elim (is.rows_all y h) [ inl k ↦ k | inr k ↦ absurd (subst (λ ps. Has (flat_map (outputs_from w r) ps) y) none k) ],
      λ h. is.rows_only y (inl h),
    )))

-- what is true of a walk while a turn visits valuations, where it began as `start`
pub record IsVisiting (r : Route) (start walk : Walk) (before now : ℕ) : Type 0 where
  pub tidy : IsTidy r walk
  pub same : fetched_in walk ≡ fetched_in start
  pub stands : Stands r walk
  pub free : now ≡ before

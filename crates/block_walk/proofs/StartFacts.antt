-- At first a walk has all before it.
use Rattle.std.proofs.Common.{◌≡◌, ◌≤◌, List, [], ◌∷◌, length, map, take, drop, inl, inr, refl, ap, sym, ◌∙◌, subst, arith}
use Rattle.std.specs.Option.{is_some}
use Rattle.std.specs.List.{flat_map}
use Rattle.std.proofs.lemmas.List.{take_all}
use Rattle.beas_core.specs.declared.plan.Normal.{Normal}
use Rattle.beas_core.specs.Types.{Row, Guide}
use Rattle.beas_core.specs.Order.{row_cmp_total}
use Rattle.beas_core.specs.Sets.{IsInOrder}
use Rattle.beas_core.specs.Coverage.{ClassesInRange, ConstantsInRange, start_classes}
use Rattle.beas_core.specs.Derivations.{bound_after}
use Rattle.beas_core.specs.Valuations.{answers_of, output_row, starts, valuations, valued_rows}
use Rattle.beas_core.proofs.Sets.{Has, Has-map, Has-from_map, Has-distinct, Has-from_distinct}
use Rattle.beas_core.proofs.ValueOrder.{row_cmp_tells}
use Rattle.beas_core.specs.Guides.{GuideFits}
use Rattle.beas_core.specs.Fronts.{FrontsExtend}
use Rattle.beas_core.proofs.FrontBounds.{fronts_extend}
use Rattle.beas_core.proofs.MemberTests.{Has-flat_map, Has-from_flat_map}
use Rattle.plan_ops.specs.declared.valuations.Valuations.{Valuations}
use Rattle.plan_ops.specs.Over.{IsOver}
use Rattle.plan_ops.proofs.MeetFacts.{wide_member}
use Rattle.block_walk.specs.Worlds.{World, in_order, made, probe_cmp}
use Rattle.block_walk.specs.Routes.{Route, route, IsSoundIn, first_classes}
use Rattle.block_walk.specs.Kept.{Pending, pending_at}
use Rattle.block_walk.specs.Entries.{IsKnown, entries_in}
use Rattle.block_walk.specs.Stacks.{IsStack, pending_in}
use Rattle.block_walk.specs.declared.walking.Walk.{Walk}
use Rattle.block_walk.specs.Descents.{reached, wanted}
use Rattle.block_walk.specs.Walks.{fetched_at, fetched_in, IsWalk, IsTidyForAll, StandsForAll, classes_at, set_at, reached_from, outputs_from, wanted_from, IsAnswer}
use Rattle.block_walk.proofs.DescentFacts.{reached_there, reached_back, wanted_there, wanted_back}
use Rattle.block_walk.proofs.WorldFacts.{all_sound}

drop_none : {A : Type 0} (xs : List A) → drop 0 xs ≡ xs
drop_none [] = refl
drop_none (x ∷ xs) = refl

take_none : {A : Type 0} (xs : List A) → take 0 xs ≡ []
take_none [] = refl
take_none (x ∷ xs) = refl

module _ (w : World) (r : Route) (ranges : ClassesInRange r.normal) (inside : ConstantsInRange r.normal) (fit : GuideFits r.normal r.guide)
    (sound : IsSoundIn w r) where
  abbrev begun : List Row
  begun = valuations w.rows r.normal w.accesses r.guide []

  extend : FrontsExtend w.rows r.normal w.accesses r.guide r.steps
  extend = fronts_extend w.rows r.normal w.accesses ranges inside r.steps r.guide fit (all_sound w r sound)

  abbrev whole : Row → Row
  whole = output_row r.normal (bound_after r.normal w.accesses (first_classes r) r.steps)

  abbrev to_end : Row → List Row
  to_end = reached w.rows r.normal w.accesses r.steps (first_classes r)

  set_first : set_at w r 0 ≡ first_classes r
  set_first = ap (bound_after r.normal w.accesses (first_classes r)) (take_none r.steps)

  set_last : set_at w r (length r.steps) ≡ bound_after r.normal w.accesses (first_classes r) r.steps
  set_last = ap (bound_after r.normal w.accesses (first_classes r)) (take_all (length r.steps) r.steps (omega arith))

  outputs_first : (v : Row) → outputs_from w r (pending_at 0 v) ≡ map whole (to_end v)
  outputs_first v = ap (λ s. map (output_row r.normal s) (reached_from w r (pending_at 0 v))) set_last
      ∙ ap (λ ss. map whole (reached w.rows r.normal w.accesses ss (set_at w r 0) v)) (drop_none r.steps)
      ∙ ap (λ s. map whole (reached w.rows r.normal w.accesses r.steps s v)) set_first

  wanted_first : (v : Row) → wanted_from w r (pending_at 0 v) ≡ wanted w.rows r.normal w.accesses 0 r.steps (first_classes r) v
  wanted_first v = ap (λ ss. wanted w.rows r.normal w.accesses 0 ss (set_at w r 0) v) (drop_none r.steps)
      ∙ ap (λ s. wanted w.rows r.normal w.accesses 0 r.steps s v) set_first

  answer_from : (y : Row) → IsAnswer w r y → Has (map whole (valuations w.rows r.normal w.accesses r.guide r.steps)) y
  unfolding answers_of
  answer_from y h = Has-from_distinct row_cmp_total row_cmp_tells (map whole (valuations w.rows r.normal w.accesses r.guide r.steps)) y h

  answer_to : (y : Row) → Has (map whole (valuations w.rows r.normal w.accesses r.guide r.steps)) y → IsAnswer w r y
  unfolding answers_of
  answer_to y h = Has-distinct row_cmp_total row_cmp_tells (map whole (valuations w.rows r.normal w.accesses r.guide r.steps)) y h

  pub first_is_walk : (walk : Walk) → pending_in walk.pending ≡ map (pending_at 0) (valuations w.rows r.normal w.accesses r.guide []) → walk.through ≡ []
      → fetched_in walk ≡ [] → IsWalk w r walk
  first_is_walk walk pending through fetched = record {
    rows_all = λ y h. (
        let m = Has-from_map whole (valuations w.rows r.normal w.accesses r.guide r.steps) y (answer_from y h) in
        let k = Has-from_flat_map to_end begun m.0
        (reached_there w.rows r.normal w.accesses r.guide r.steps extend r.steps [] refl m.0 m.1) in
        inr (subst (λ ps. Has (flat_map (outputs_from w r) ps) y) (sym pending)
        (Has-flat_map (outputs_from w r) (map (pending_at 0) begun) (pending_at 0 k.0) y (Has-map (pending_at 0) begun k.0 k.1)
        (subst (λ ys. Has ys y) (sym (outputs_first k.0)) (subst (Has (map whole (to_end k.0))) (sym m.2) (Has-map whole (to_end k.0) m.0 k.2))))));
    rows_only = λ y h. elim h [
      | inl k ↦ absurd (subst (λ ys. Has ys y) through k)
      | inr k ↦ (
          let m = Has-from_flat_map (outputs_from w r) (map (pending_at 0) begun) y (subst (λ ps. Has (flat_map (outputs_from w r) ps) y) pending k) in
          let v = Has-from_map (pending_at 0) begun m.0 m.1 in
          let o = Has-from_map whole (to_end v.0) y (subst (λ ys. Has ys y) (outputs_first v.0) (subst (λ p. Has (outputs_from w r p) y) v.2 m.2)) in
          answer_to y (subst (Has (map whole (valuations w.rows r.normal w.accesses r.guide r.steps))) (sym o.2)
          (Has-map whole (valuations w.rows r.normal w.accesses r.guide r.steps) o.0
          (reached_back w.rows r.normal w.accesses r.guide r.steps extend r.steps [] refl o.0 (Has-flat_map to_end begun v.0 o.0 v.1 o.1)))))
    ];
    probes_all = λ p h. (
        let m = Has-from_flat_map (wanted w.rows r.normal w.accesses 0 r.steps (first_classes r)) begun p
        (wanted_there w.rows r.normal w.accesses r.guide r.steps extend r.steps [] refl p h) in
        inr (subst (λ ps. Has (flat_map (wanted_from w r) ps) p) (sym pending)
        (Has-flat_map (wanted_from w r) (map (pending_at 0) begun) (pending_at 0 m.0) p (Has-map (pending_at 0) begun m.0 m.1)
        (subst (λ ps. Has ps p) (sym (wanted_first m.0)) m.2))));
    probes_only = λ p h. elim h [
      | inl k ↦ absurd (subst (λ fs. Has (made fs) p) fetched k)
      | inr k ↦ (
          let m = Has-from_flat_map (wanted_from w r) (map (pending_at 0) begun) p (subst (λ ps. Has (flat_map (wanted_from w r) ps) p) pending k) in
          let v = Has-from_map (pending_at 0) begun m.0 m.1 in
          wanted_back w.rows r.normal w.accesses r.guide r.steps extend r.steps [] refl p
          (Has-flat_map (wanted w.rows r.normal w.accesses 0 r.steps (first_classes r)) begun v.0 p v.1
          (subst (λ ps. Has ps p) (wanted_first v.0) (subst (λ q. Has (wanted_from w r q) p) v.2 m.2))))
    ];
  }

module _ (normal : Normal) (guide : Guide) (from : Valuations) (over : IsOver (start_classes normal (is_some guide)) from)
    (rows : from.rows ≡ valued_rows normal (start_classes normal (is_some guide)) (starts normal guide)) (walk : Walk)
    (first : walk.first ≡ from.classes) (stages : walk.stages.items ≡ []) (known : IsKnown walk.known) (empty : entries_in walk.known ≡ []) (stack : IsStack walk.pending)
    (pending : pending_in walk.pending ≡ map (pending_at 0) from.rows) (through : walk.through ≡ []) where
  pub first_fetched : fetched_in walk ≡ []
  first_fetched = ap (λ es. in_order (map (fetched_at walk.stages.items) es)) empty

  pub first_tidy : IsTidyForAll normal guide walk
  first_tidy steps = record {
    first = first ∙ over.classes_are;
    few = subst (λ ss. length ss ≤ length steps) (sym stages) (omega arith);
    stages = λ n d l. (let z = ap length stages in absurd (omega (arith, l, z)));
    steps = λ e h. absurd (subst (λ es. Has es e) empty h);
    each = λ n l. (let z = ap length stages in absurd (omega (arith, l, z)));
    pending = λ p h. (let m = Has-from_map (pending_at 0) from.rows p (subst (λ ps. Has ps p) pending h) in
        subst (λ (q : Pending). q.step ≤ length walk.stages.items) (sym m.2) (omega arith));
    wide = λ p h. (let m = Has-from_map (pending_at 0) from.rows p (subst (λ ps. Has ps p) pending h) in
        subst (λ (q : Pending). length q.row ≡ length (classes_at walk.first walk.stages.items q.step)) (sym m.2)
        (wide_member (length from.classes) from.rows m.0 over.widths m.1 ∙ ap length (sym first)));
    known = known;
    kept = λ n d l. (let z = ap length stages in absurd (omega (arith, l, z)));
    stack = stack;
    ordered = subst (λ fs. IsInOrder probe_cmp (made fs)) (sym first_fetched) tt;
  }

  first_rows : (w : World) → from.rows ≡ valuations w.rows normal w.accesses guide []
  unfolding valuations
  first_rows w = rows

  pub first_stands : ClassesInRange normal → ConstantsInRange normal → GuideFits normal guide → StandsForAll normal guide walk
  first_stands ranges inside fit steps w sound agree = first_is_walk w (route normal guide steps) ranges inside fit sound walk
      (pending ∙ ap (map (pending_at 0)) (first_rows w)) through first_fetched

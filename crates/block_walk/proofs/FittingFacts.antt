-- The valuations that one goes on with, where its tuples are gone through by `Fitting`.
use Rattle.std.proofs.Common.{◌≡◌, ◌<◌, ◌≤◌, ◌++◌, ◌∷◌, ◌∙◌, [], ℕ, Bool, true, false, List, Some, All, length, map, take, get_or, inl, refl, ap, sym, subst, append_assoc, arith}
use Rattle.std.specs.List.{filter}
use Rattle.std.proofs.lemmas.List.{map-append}
use Rattle.beas_core.specs.declared.plan.Normal.{Normal}
use Rattle.beas_core.specs.Types.{Row}
use Rattle.beas_core.specs.Valuations.{output_row}
use Rattle.beas_core.proofs.Sets.{Has, Has-append_right, Has-filter, Has-from_map, Has-get_or, Has-map, SameMembers}
use Rattle.place_chains.specs.declared.fitting.Fitting.{Fitting}
use Rattle.place_chains.specs.Fitting.{HasNone, IsNext}
use Rattle.place_chains.specs.TupleOrder.{values_at}
use Rattle.place_chains.proofs.FittingFacts.{none_passes, none_passes_more}
use Rattle.plan_ops.specs.declared.stages.Stage.{Stage}
use Rattle.plan_ops.specs.Stages.{IsPair, IsStage, bound_with, joined_row, leads_to, next_by, set_before, use_at}
use Rattle.plan_ops.proofs.RowFacts.{output_settled, pair_shares}
use Rattle.block_walk.proofs.ChildFacts.{child_more, no_child}
use Rattle.block_walk.proofs.SameFacts.{same_more, same_one}

module _ (normal : Normal) (stage : Stage) (is : IsStage normal stage) (v : Row) (tuples : List Row) (pairs : All (IsPair normal stage v) tuples) where
  abbrev pub places : List ℕ
  places = stage.join.shared.1

  abbrev pub values : Row
  values = values_at stage.join.shared.0 v

  abbrev pub p : Row → Bool
  p = leads_to normal (use_at stage) (set_before normal stage) v

  abbrev pub f : Row → Row
  f = joined_row normal (use_at stage) (set_before normal stage) v

  abbrev pub next : List Row → List Row
  next ts = next_by normal (use_at stage) (set_before normal stage) v ts

  abbrev pub out : Row → Row
  out = output_row normal (bound_with normal (use_at stage) (set_before normal stage))

  only : (k : ℕ) → k < length tuples → p (get_or tuples k []) ≡ true → values_at places (get_or tuples k []) ≡ values
  only k l t = pair_shares normal stage is v (get_or tuples k []) (pairs k [] l) t

  -- where the step is settled, all tuples give one output
  one_output : stage.settled ≡ true → length v ≡ length stage.from.value → (ts : List Row) (y : Row) → Has (map out (next ts)) y
      → y ≡ output_row normal (set_before normal stage) v
  one_output settled wide ts y h =
      let m = Has-from_map out (next ts) y h in
      let k = Has-from_map f (filter p ts) m.0 m.1 in
      m.2 ∙ ap out k.2 ∙ output_settled normal stage is settled v k.0 wide

  module _ (old new : Fitting) (i : ℕ) (comes : IsNext places tuples values old (Some i) new) (t : Row) (read : t ≡ get_or tuples i []) where
    upto : filter p (take i tuples) ≡ filter p (take old.from tuples)
    upto = let l = comes.1 in none_passes p tuples places values only old.from i comes.0 (omega (arith, l)) comes.2

    pub next_taken : p t ≡ true → next (take new.from tuples) ≡ next (take old.from tuples) ++ f t ∷ []
    next_taken e = ap (λ n. next (take n tuples)) comes.3 ∙ child_more f p tuples i [] t comes.1 read e ∙ ap (λ xs. map f xs ++ f t ∷ []) upto

    pub next_left : p t ≡ false → next (take new.from tuples) ≡ next (take old.from tuples)
    next_left e = ap (λ n. next (take n tuples)) comes.3 ∙ no_child f p tuples i [] t comes.1 read e ∙ ap (map f) upto

    module _ (led : p t ≡ true) (start was now : List Row) (through : SameMembers was (start ++ map out (next (take old.from tuples))))
        (pushed : SameMembers now (was ++ out (f t) ∷ [])) where
      pub outputs_taken : SameMembers now (start ++ map out (next (take new.from tuples)))
      outputs_taken =
          let so_far = next (take old.from tuples) in
          subst (SameMembers now) (append_assoc start (map out so_far) (out (f t) ∷ [])
          ∙ ap (λ (rows : List Row). start ++ rows) (sym (map-append out so_far (f t ∷ [])))
          ∙ ap (λ (rows : List Row). start ++ map out rows) (sym (next_taken led)))
          (same_more was (start ++ map out so_far) now (out (f t)) through pushed)

      pub outputs_settled : stage.settled ≡ true → SameMembers now (start ++ map out (next tuples))
      outputs_settled settled =
          let some = next (take new.from tuples) in
          let wide : length v ≡ length stage.from.value = (pairs i [] comes.1).wide in
          let in_some : Has some (f t) = subst (λ rows. Has rows (f t)) (sym (next_taken led))
          (Has-append_right (next (take old.from tuples)) (f t ∷ []) (f t) (inl refl)) in
          let in_all : Has (next tuples) (f t) = Has-map f (filter p tuples) t
          (Has-filter p tuples t (subst (Has tuples) (sym read) (Has-get_or tuples i [] comes.1)) led) in
          let is_one : (ts : List Row) (y : Row) → Has (map out (next ts)) y → y ≡ out (f t) = λ ts y h.
          one_output settled wide ts y h ∙ sym (one_output settled wide tuples (out (f t)) (Has-map out (next tuples) (f t) in_all)) in
          same_one start now (map out some) (map out (next tuples)) (out (f t)) outputs_taken (is_one (take new.from tuples)) (is_one tuples)
          (Has-map out some (f t) in_some) (Has-map out (next tuples) (f t) in_all)

  pub next_all : (from : ℕ) → from ≤ length tuples → HasNone places tuples values from (length tuples) → next (take from tuples) ≡ next tuples
  next_all from l none = ap (map f) (sym (none_passes_more p tuples places values only from l none))

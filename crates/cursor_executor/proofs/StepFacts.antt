-- What one step of a block makes of a course, where the code has read the block's normal form, its guide and its steps.
use Rattle.std.proofs.Common.{◌≡◌, ◌+◌, ◌<◌, ℕ, true, false, List, [], ◌∷◌, ◌++◌, length, Option, Some, None, Result, Ok, Err, refl, ap, sym, ◌∙◌, subst}
use Rattle.std.specs.List.{slice_get}
use Rattle.std.specs.Option.{is_some}
use Rattle.std.specs.Result.{IfOk, OnOk}
use Rattle.std.proofs.lemmas.Option.{slice_get_within}
use Rattle.beas_core.specs.declared.plan.DStep.{DStep}
use Rattle.beas_core.specs.declared.plan.Normal.{Normal}
use Rattle.beas_core.specs.declared.plan.Prepared.{Prepared}
use Rattle.beas_core.specs.Types.{Row, Guide}
use Rattle.beas_core.specs.Coverage.{ClassesInRange, ConstantsInRange}
use Rattle.beas_core.specs.Valuations.{answers_of}
use Rattle.beas_core.specs.Guides.{GuideFits}
use Rattle.block_walk.specs.declared.walking.Walk.{Walk}
use Rattle.block_walk.specs.Worlds.{World, Fetched, AgreesWith}
use Rattle.block_walk.specs.Routes.{Route, route, IsSoundIn}
use Rattle.block_walk.specs.Turns.{SpentOnce}
use Rattle.block_walk.specs.Walks.{IsTidy, Stands, fetched_in}
use Rattle.block_walk.specs.Turns as walk
use Rattle.cursor_executor.specs.declared.courses.Course.{Course}
use Rattle.cursor_executor.specs.declared.operations.Operation.TheVariants.{Block}
use Rattle.cursor_executor.specs.Fetching.{AllAgree, IsWorld, steps_of}
use Rattle.cursor_executor.specs.Operations.{guide_at, normal_at, route_at, BlockFits}
use Rattle.cursor_executor.specs.Courses.{HasTurned, IsCourse, StandsOn, fetched_by, walk_fetched}
use Rattle.cursor_executor.specs.Turns.{HasRun, ProbedOne, QuerySpent, Stepped}
use Rattle.cursor_executor.proofs.CourseFacts.{agree_front, agree_walk, block, ended_course, ended_fetched, going_course, going_fetched, lift_probed, lift_spent, standing}

is_done : (w : World) (r : Route) (reads : Option ℕ) (old : List Fetched) (found : Walk) (before after : ℕ) → is_some reads ≡ false
    → walk.TurnIs w r reads old found before after → walk.IsDone r old found before after
is_done w r None old found before after e h = h
is_done w r (Some reads) old found before after e h = cc

-- a turn of a walk that was begun
pub after_turn : {E : Type 0} (w : World) (r : Route) (result : Result (Option ℕ) E) (old : Option Walk) (begun found : Walk) (before after : ℕ) → old ≡ Some begun
    → OnOk result (IsTidy r found) → OnOk result (Stands r found) → IfOk result (λ reads. walk.TurnIs w r reads (fetched_in begun) found before after)
    → IfOk result (λ reads. HasTurned w r reads old (Some found) before after)
after_turn w r (Err e) old begun found before after is tidy stands turn = tt
after_turn w r (Ok reads) old begun found before after is tidy stands turn = record {
  found = found;
  is = refl;
  tidy = tidy;
  stands = stands;
  turn = subst (λ u. walk.TurnIs w r reads (walk_fetched u) found before after) (sym is) turn;
}

abbrev or_walk : Walk → Option Walk → Walk
or_walk d None = d
or_walk d (Some found) = found

-- the walk that is taken out after a turn
pub taken_is : (w : World) (r : Route) (reads : Option ℕ) (old new : Option Walk) (before after : ℕ) (t : HasTurned w r reads old new before after)
    (taken : Walk) → new ≡ Some taken → t.found ≡ taken
taken_is w r reads old new before after t taken is = ap (or_walk t.found) (sym t.is ∙ is)

-- what the turn of a walk asks for
pub record IsAsked (w : World) (normal : Normal) (own : Guide) (steps : List DStep) (begun : Option Walk) : Type 0 where
  pub classes : ClassesInRange normal
  pub constants : ConstantsInRange normal
  pub fits : GuideFits normal own
  pub sound : IsSoundIn w (route normal own steps)
  pub stands : StandsOn (route normal own steps) begun
  pub agrees : AgreesWith w steps (walk_fetched begun)

module _ (w : World) (prepared : Prepared) (world : IsWorld w prepared) (old : Course) (is : IsCourse prepared old) (place : Option ℕ)
    (at : slice_get old.operations old.position ≡ Some (Block place)) (agree : AllAgree w prepared (fetched_by old)) where
  abbrev number : ℕ
  number = length old.finished

  abbrev guide : Guide
  guide = guide_at old.stack.items place

  pub block_fits : BlockFits w prepared number guide
  block_fits = block prepared old is place at w world (agree_front prepared old is place at w world agree)

  pub place_inside : old.position < length old.operations
  place_inside = slice_get_within old.operations old.position (Block place) at

  module _ (normal : Normal) (own : Guide) (steps : List DStep) (normal_is : normal ≡ normal_at prepared number) (own_is : own ≡ guide)
      (steps_is : steps ≡ steps_of prepared number) where
    abbrev own_route : Route
    own_route = route normal own steps

    route_is : own_route ≡ route_at prepared number guide
    route_is = ap (λ m. route m own steps) normal_is ∙ ap (λ g. route (normal_at prepared number) g steps) own_is
        ∙ ap (route (normal_at prepared number) guide) steps_is

    step_classes : ClassesInRange normal
    step_classes = subst ClassesInRange (sym normal_is) block_fits.classes

    step_constants : ConstantsInRange normal
    step_constants = subst ConstantsInRange (sym normal_is) block_fits.constants

    step_guide : GuideFits normal own
    step_guide = subst (λ (r : Route). GuideFits r.normal r.guide) (sym route_is) block_fits.fits

    step_sound : IsSoundIn w own_route
    step_sound = subst (IsSoundIn w) (sym route_is) block_fits.sound

    module _ (begun : Option Walk) (begun_is : begun ≡ old.walk) where
      step_stands : StandsOn own_route begun
      step_stands = subst (StandsOn own_route) (sym begun_is) (subst (λ r. StandsOn r old.walk) (sym route_is) (standing prepared old is place at))

      step_agrees : AgreesWith w steps (walk_fetched begun)
      step_agrees = subst (λ u. AgreesWith w steps (walk_fetched u)) (sym begun_is)
          (subst (λ ss. AgreesWith w ss (walk_fetched old.walk)) (sym steps_is) (agree_walk prepared old is place at w world agree))

      pub step_asked : IsAsked w normal own steps begun
      step_asked = record {
        classes = step_classes;
        constants = step_constants;
        fits = step_guide;
        sound = step_sound;
        stands = step_stands;
        agrees = step_agrees;
      }

      pub step_spent : (spent now : ℕ) → SpentOnce w own_route (walk_fetched begun) spent now → QuerySpent w prepared (fetched_by old) spent now
      step_spent spent now once = lift_spent prepared old is place at w world agree spent now
          (subst (λ r. SpentOnce w r (walk_fetched old.walk) spent now) route_is
          (subst (λ u. SpentOnce w own_route (walk_fetched u) spent now) begun_is once))

      -- after a turn of the walk
      module _ (found : Walk) (tidy : IsTidy own_route found) (stands : Stands own_route found) (reads : Option ℕ) (spent now : ℕ)
          (turn : walk.TurnIs w own_route reads (walk_fetched begun) found spent now) where
        turned : walk.TurnIs w (route_at prepared number guide) reads (walk_fetched old.walk) found spent now
        turned = subst (λ r. walk.TurnIs w r reads (walk_fetched old.walk) found spent now) route_is
            (subst (λ u. walk.TurnIs w own_route reads (walk_fetched u) found spent now) begun_is turn)

        here_tidy : IsTidy (route_at prepared number guide) found
        here_tidy = subst (λ r. IsTidy r found) route_is tidy

        here_stands : Stands (route_at prepared number guide) found
        here_stands = subst (λ r. Stands r found) route_is stands

        -- a probe was made
        module _ (new : Course) (operations : new.operations ≡ old.operations) (same_place : new.position ≡ old.position)
            (stack : new.stack.items ≡ old.stack.items) (finished : new.finished ≡ old.finished) (under_way : new.walk ≡ Some found) where
          pub step_course : IsCourse prepared new
          step_course = going_course prepared old is place at found here_tidy here_stands new operations same_place stack finished under_way

          pub step_stepped : is_some reads ≡ true → Stepped w prepared reads old new spent now
          step_stepped some = by reads turned some
            where
              by : (some_reads : Option ℕ) → walk.TurnIs w (route_at prepared number guide) some_reads (walk_fetched old.walk) found spent now
                  → is_some some_reads ≡ true → Stepped w prepared some_reads old new spent now
              by None h e = cc
              by (Some one) h e = subst (λ fs. ProbedOne w prepared one (fetched_by old) fs spent now)
                  (sym (going_fetched prepared old is place at found here_tidy here_stands new operations same_place stack finished under_way))
                  (lift_probed prepared old is place at w world agree one spent now (fetched_in found) h)

        -- none was due
        module _ (none_made : is_some reads ≡ false) where
          done : walk.IsDone (route_at prepared number guide) (walk_fetched old.walk) found spent now
          done = is_done w (route_at prepared number guide) reads (walk_fetched old.walk) found spent now none_made turned

          module _ (emptied : Walk) (stays : fetched_in emptied ≡ fetched_in found) (rows : List Row) (answered : (v : World) → IsSoundIn v own_route → AgreesWith v steps (fetched_in found)
              → rows ≡ answers_of v.rows normal v.accesses own steps) (new : Course) (operations : new.operations ≡ old.operations)
              (next : new.position ≡ old.position + 1) (stack : new.stack.items ≡ old.stack.items ++ rows ∷ [])
              (finished : new.finished ≡ old.finished ++ emptied ∷ []) (idle : new.walk ≡ None) where
            here_answered : (v : World) → IsSoundIn v (route_at prepared number guide) → AgreesWith v (steps_of prepared number) (fetched_in emptied)
                → rows ≡ answers_of v.rows (normal_at prepared number) v.accesses guide (steps_of prepared number)
            here_answered = subst (λ (r : Route). (v : World) → IsSoundIn v r → AgreesWith v r.steps (fetched_in emptied)
                → rows ≡ answers_of v.rows r.normal v.accesses r.guide r.steps) route_is
                (λ v sound agrees. answered v sound (subst (AgreesWith v steps) stays agrees))

            same : fetched_in emptied ≡ walk_fetched old.walk
            same = stays ∙ done.same

            pub step_finished : IsCourse prepared new
            step_finished = ended_course prepared old is place at emptied same done.all_made rows here_answered new operations next stack finished idle

            pub step_ran : HasRun old new spent now
            step_ran = record {
              operations = operations;
              next = next;
              same = ended_fetched prepared old is place at emptied same done.all_made rows here_answered new operations next stack finished idle;
              cost = done.cost;
            }

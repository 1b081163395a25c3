-- A block is planned over the constraints on its tables as over all.
use Rattle.std.proofs.Common.{◌≡◌, ◌++◌, Bool, List, [], None, Some, Result, Ok, Err, ap, sym, ◌∙◌, subst}
use Rattle.std.specs.Prelude.{IfOk, MatchResult}
use Rattle.std.proofs.lemmas.List.{append-nil}
use Rattle.beas_core.specs.declared.plan.NotCovered.{NotCovered}
use Rattle.beas_core.specs.declared.query.Block.{Block}
use Rattle.beas_core.specs.declared.schema.Access.{Access}
use Rattle.beas_core.specs.Classes.{normal_of}
use Rattle.beas_core.specs.Guiding.{BlockTask, is_guided_task, task_reason, task_steps}
use Rattle.beas_core.specs.Shapes.{EachIdOnce}
use Rattle.plan_builder.specs.declared.preparation.TaskPlan.{TaskPlan}
use Rattle.plan_builder.specs.Own.{own_accesses}
use Rattle.plan_builder.specs.Parts.{normal_task}
use Rattle.plan_builder.proofs.FewFacts.{same_guided, same_task_reason, same_task_steps}
use Rattle.plan_builder.proofs.FewLists.{own_once, own_uses, own_within}
use Rattle.plan_builder.proofs.PreparationFacts.{atoms_are}

-- what is planned of a task
abbrev pub Planned : BlockTask → Result TaskPlan NotCovered → Type 0
Planned task found = MatchResult found
    (λ plan. (plan.guided ≡ is_guided_task task) × (task_steps task ≡ Some plan.derivation.steps) × (task_reason task ≡ None))
    (λ why. task_reason task ≡ Some why)

pub record SameTask (one other : BlockTask) : Type 0 where
  pub guided : is_guided_task one ≡ is_guided_task other
  pub steps : task_steps one ≡ task_steps other
  pub reason : task_reason one ≡ task_reason other

planned_so : (one other : BlockTask) → SameTask one other → (found : Result TaskPlan NotCovered) → Planned one found → Planned other found
planned_so one other s (Ok plan) h = (h.0 ∙ s.guided, sym s.steps ∙ h.1, sym s.reason ∙ h.2)
planned_so one other s (Err why) h = sym s.reason ∙ h

pub planned_too : {E : Type 0} (one other : BlockTask) → SameTask one other → (result : Result (Result TaskPlan NotCovered) E)
    → IfOk result (Planned one) → IfOk result (Planned other)
planned_too one other s (Ok found) h = planned_so one other s found h
planned_too one other s (Err e) h = h

module _ (block : Block) (accesses extra own : List Access) (once : EachIdOnce (accesses ++ extra)) (none : extra ≡ [])
    (is : own ≡ own_accesses accesses block.atoms) where
  all : accesses ++ extra ≡ accesses
  all = ap (λ xs. accesses ++ xs) none ∙ append-nil accesses

  once_alone : EachIdOnce accesses
  once_alone = subst EachIdOnce all once

  pub few_once : EachIdOnce own
  few_once = subst EachIdOnce (sym is) (own_once accesses once_alone block.atoms)

  pub own_task : (has_guide : Bool) → SameTask (normal_task (normal_of block) own has_guide) (normal_task (normal_of block) (accesses ++ extra) has_guide)
  own_task has_guide =
      let normal = normal_of block in
      let few = own_accesses accesses normal.atoms in
      let once_few = own_once accesses once_alone normal.atoms in
      let within = own_within accesses once_alone normal.atoms in
      let same = own_uses accesses once_alone normal in
      let found : SameTask (normal_task normal few has_guide) (normal_task normal accesses has_guide) = record {
        guided = same_guided normal few accesses once_few once_alone within same has_guide;
        steps = same_task_steps normal few accesses once_few once_alone within same has_guide;
        reason = same_task_reason normal few accesses once_few once_alone within same has_guide;
      } in
      subst (λ xs. SameTask (normal_task normal own has_guide) (normal_task normal xs has_guide)) (sym all)
      (subst (λ xs. SameTask (normal_task normal xs has_guide) (normal_task normal accesses has_guide))
      (sym (is ∙ ap (own_accesses accesses) (sym (atoms_are block)))) found)

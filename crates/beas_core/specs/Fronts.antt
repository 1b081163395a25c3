-- What is true of every front of a list of sound steps.
--     FrontsAreBounded ..     what is announced bounds the valuations and the reads
--     FrontsExtend ..         each step keeps those extensions that meet the comparisons
use Rattle.std.specs.Prelude.{◌≡◌, ◌≤◌, ◌+◌, ◌*◌, List, [], ◌∷◌, ◌++◌, length, is_some}
use Rattle.beas_core.specs.declared.schema.Access.{Access}
use Rattle.beas_core.specs.declared.plan.DStep.{DStep}
use Rattle.beas_core.specs.declared.plan.Normal.{Normal}
use Rattle.beas_core.specs.Types.{TableRows, ClassSet, Guide}
use Rattle.beas_core.specs.Coverage.{start_classes}
use Rattle.beas_core.specs.Derivations.{access_in, bound_by, bound_after}
use Rattle.beas_core.specs.Numbers.{announced_from, last_size}
use Rattle.beas_core.specs.Valuations.{valuations}
use Rattle.beas_core.specs.Reads.{reads_of}
use Rattle.beas_core.specs.Extensions.{extensions, keep_met}
use Rattle.beas_core.specs.Guides.{BlockStart}

pub record FrontsAreBounded (rows : TableRows) (normal : Normal) (accesses : List Access) (start : BlockStart) (steps : List DStep) : Type 0 where
  pub valuations_are : (done later : List DStep) → steps ≡ done ++ later
      → length (valuations rows normal accesses start.guide done) ≤ last_size accesses start.size done
  -- the reads so far, and what the next step may read
  pub room : (done later : List DStep) (next : DStep) → steps ≡ done ++ next ∷ later
      → reads_of rows normal accesses start.guide done + length (valuations rows normal accesses start.guide done) * (access_in accesses next.access).bound
      ≤ announced_from accesses start.size steps
  pub reads_are : reads_of rows normal accesses start.guide steps ≤ announced_from accesses start.size steps

-- the classes that are bound after steps of a block, guided or not
abbrev pub classes_after : Normal → List Access → Guide → List DStep → ClassSet
classes_after normal accesses guide done = bound_after normal accesses (start_classes normal (is_some guide)) done

pub record FrontsExtend (rows : TableRows) (normal : Normal) (accesses : List Access) (guide : Guide) (steps : List DStep) : Type 0 where
  pub step : (done later : List DStep) (next : DStep) → steps ≡ done ++ next ∷ later
      → valuations rows normal accesses guide (done ++ next ∷ [])
      ≡ keep_met normal (bound_by normal accesses (classes_after normal accesses guide done) next)
      (extensions rows normal accesses next (classes_after normal accesses guide done) (valuations rows normal accesses guide done))

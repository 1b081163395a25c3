-- Reads step by step.
--     reads_at .. done s          the reads of one step after those that are done
--     reads_from .. done steps    the reads of further steps
use Rattle.std.specs.Prelude.{◌+◌, ℕ, List, [], ◌∷◌, ◌++◌, is_some}
use Rattle.beas_core.specs.declared.schema.Access.{Access}
use Rattle.beas_core.specs.declared.plan.DStep.{DStep}
use Rattle.beas_core.specs.declared.plan.Normal.{Normal}
use Rattle.beas_core.specs.Types.{TableRows, Guide}
use Rattle.beas_core.specs.Coverage.{start_classes}
use Rattle.beas_core.specs.Derivations.{bound_after}
use Rattle.beas_core.specs.Valuations.{valuations}
use Rattle.beas_core.specs.Reads.{step_reads}

abbrev pub reads_at : TableRows → Normal → List Access → Guide → List DStep → DStep → ℕ
reads_at rows normal accesses guide done s =
    step_reads rows normal accesses s (bound_after normal accesses (start_classes normal (is_some guide)) done) (valuations rows normal accesses guide done)

abbrev pub reads_from : TableRows → Normal → List Access → Guide → List DStep → List DStep → ℕ
reads_from rows normal accesses guide done [] = 0
reads_from rows normal accesses guide done (s ∷ steps) =
    reads_at rows normal accesses guide done s + reads_from rows normal accesses guide (done ++ s ∷ []) steps

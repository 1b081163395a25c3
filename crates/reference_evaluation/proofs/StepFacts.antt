-- The constraint of a step, by the step's number, and what a probe of it counts.
use Rattle.std.proofs.Common.{◌≡◌, ℕ, zero, suc, List, [], ◌∷◌, map, refl, ap, sym, ◌∙◌}
use Rattle.std.specs.List.{slice_index_or}
use Rattle.beas_core.specs.declared.schema.Access.{Access}
use Rattle.beas_core.specs.declared.schema.AccessId.{AccessId}
use Rattle.beas_core.specs.declared.plan.DStep.{DStep}
use Rattle.beas_core.specs.declared.plan.Derivation.{Derivation}
use Rattle.beas_core.specs.Types.{Row, TableRows}
use Rattle.beas_core.specs.Derivations.{access_in}
use Rattle.beas_core.specs.Reads.{access_of_step, probe_reads}
use Rattle.beas_core.specs.Queries.{BlockProbe, plan_of, reads_at}

pub step_access : (accesses : List Access) (steps : List DStep) (n : ℕ)
    → access_in accesses (slice_index_or (map (λ s. s.access) steps) n (record { 0 = 0 })) ≡ access_of_step accesses steps n
step_access accesses [] n = refl
step_access accesses (s ∷ steps) zero = refl
step_access accesses (s ∷ steps) (suc n) = step_access accesses steps n

-- a probe that is read part by part
pub reads_by_parts : (rows : TableRows) (accesses : List Access) (plans : List Derivation) (p : BlockProbe) (b n : ℕ) (key given : Row)
    (steps : List DStep) (id : AccessId) → p ≡ record { block = b; probe = record { step = n; key = key } }
    → steps ≡ (plan_of plans b).steps → id ≡ slice_index_or (map (λ s. s.access) steps) n (record { 0 = 0 }) → given ≡ key
    → probe_reads rows (access_in accesses id) given ≡ reads_at rows accesses plans p
reads_by_parts rows accesses plans p b n key given steps id whole same found k =
    ap (λ i. probe_reads rows (access_in accesses i) given) found
    ∙ ap (λ (ss : List DStep). probe_reads rows (access_in accesses (slice_index_or (map (λ s. s.access) ss) n (record { 0 = 0 }))) given) same
    ∙ ap (λ a. probe_reads rows a given) (step_access accesses (plan_of plans b).steps n)
    ∙ ap (probe_reads rows (access_of_step accesses (plan_of plans b).steps n)) k
    ∙ sym (ap (reads_at rows accesses plans) whole)

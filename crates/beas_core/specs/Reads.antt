-- The reads that a block's derivation takes over some rows. Those of a query stand in Queries.
--     probes rows normal accesses guide steps      for each step and each distinct key that the valuations before it give to it, the step's
--                                                  number from 0 on with this key
--     reads_of rows normal accesses guide steps    for each probe the greater of 1 and the size of its group, summed
--     step_reads rows normal accesses s set found  the part of one step, where `found` are the valuations before it
use Rattle.std.specs.Prelude.{ℕ, List, [], ◌∷◌, ◌++◌, length, map, max, sum_by, slice_index_or, is_some}
use Rattle.beas_core.specs.declared.schema.Access.{Access}
use Rattle.beas_core.specs.declared.plan.DStep.{DStep}
use Rattle.beas_core.specs.declared.plan.Normal.{Normal}
use Rattle.beas_core.specs.Types.{Row, TableRows, ClassSet, Guide}
use Rattle.beas_core.specs.Order.{row_cmp}
use Rattle.beas_core.specs.Sets.{distinct}
use Rattle.beas_core.specs.Groups.{group_of}
use Rattle.beas_core.specs.Coverage.{class_at, start_classes}
use Rattle.beas_core.specs.Derivations.{access_in, bound_after}
use Rattle.beas_core.specs.Valuations.{value_of, as_bindings, valuations}

pub record Probe : Type 0 where
  pub step : ℕ
  pub key : Row

-- the key that a valuation of the classes of a set gives to a step
abbrev pub key_for : Normal → List Access → DStep → ClassSet → Row → Row
key_for normal accesses s set valuation = map (λ c. value_of (as_bindings set valuation) (class_at normal s.atom c)) (access_in accesses s.access).key

abbrev pub keys_for : Normal → List Access → DStep → ClassSet → List Row → List Row
keys_for normal accesses s set found = distinct row_cmp (map (key_for normal accesses s set) found)

-- the keys of a step that follows those that are done
abbrev pub keys_after : TableRows → Normal → List Access → Guide → List DStep → DStep → List Row
keys_after rows normal accesses guide done s =
    keys_for normal accesses s (bound_after normal accesses (start_classes normal (is_some guide)) done) (valuations rows normal accesses guide done)

-- the probes of further steps, after those that are done
abbrev pub probes_after : TableRows → Normal → List Access → Guide → List DStep → List DStep → List Probe
probes_after rows normal accesses guide done [] = []
probes_after rows normal accesses guide done (s ∷ steps) =
    map (λ key. record { step = length done; key = key }) (keys_after rows normal accesses guide done s)
    ++ probes_after rows normal accesses guide (done ++ s ∷ []) steps

abbrev pub probes : TableRows → Normal → List Access → Guide → List DStep → List Probe
probes rows normal accesses guide steps = probes_after rows normal accesses guide [] steps

-- what one probe of a constraint counts
abbrev pub probe_reads : TableRows → Access → Row → ℕ
probe_reads rows access key = max 1 (length (group_of (rows access.table) access key))

-- the constraint of the step with this number
abbrev pub access_of_step : List Access → List DStep → ℕ → Access
access_of_step accesses steps n = slice_index_or (map (λ s. access_in accesses s.access) steps) n (access_in accesses (record { 0 = 0 }))

unfoldable pub reads_of : TableRows → Normal → List Access → Guide → List DStep → ℕ
reads_of rows normal accesses guide steps =
    sum_by (λ p. probe_reads rows (access_of_step accesses steps p.step) p.key) (probes rows normal accesses guide steps)

abbrev pub step_reads : TableRows → Normal → List Access → DStep → ClassSet → List Row → ℕ
step_reads rows normal accesses s set found = sum_by (probe_reads rows (access_in accesses s.access)) (keys_for normal accesses s set found)

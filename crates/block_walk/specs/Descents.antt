-- What one valuation leads to, step after step.
--     kept_from .. s set v         the valuations after the step that a valuation before it leads to
--     reached .. steps set v       those after all of these steps
--     wanted .. n steps set v      the probes on the way, where the first of the steps has the number n
--     work .. steps set v          how many valuations there are on the way
use Rattle.std.specs.Prelude.{◌+◌, ℕ, List, [], ◌∷◌, filter, flat_map, sum_by}
use Rattle.beas_core.specs.declared.schema.Access.{Access}
use Rattle.beas_core.specs.declared.plan.DStep.{DStep}
use Rattle.beas_core.specs.declared.plan.Normal.{Normal}
use Rattle.beas_core.specs.Types.{Row, TableRows, ClassSet}
use Rattle.beas_core.specs.Derivations.{bound_by}
use Rattle.beas_core.specs.Reads.{Probe, key_for}
use Rattle.beas_core.specs.Extensions.{extensions_of, meets_bound}

abbrev pub kept_from : TableRows → Normal → List Access → DStep → ClassSet → Row → List Row
kept_from rows normal accesses s set v = filter (meets_bound normal (bound_by normal accesses set s)) (extensions_of rows normal accesses s set v)

abbrev pub reached : TableRows → Normal → List Access → List DStep → ClassSet → Row → List Row
reached rows normal accesses [] set v = v ∷ []
reached rows normal accesses (s ∷ steps) set v =
    flat_map (reached rows normal accesses steps (bound_by normal accesses set s)) (kept_from rows normal accesses s set v)

abbrev pub wanted : TableRows → Normal → List Access → ℕ → List DStep → ClassSet → Row → List Probe
wanted rows normal accesses n [] set v = []
wanted rows normal accesses n (s ∷ steps) set v =
    record { step = n; key = key_for normal accesses s set v }
    ∷ flat_map (wanted rows normal accesses (n + 1) steps (bound_by normal accesses set s)) (kept_from rows normal accesses s set v)

-- how many valuations one leads to, itself among them
abbrev pub work : TableRows → Normal → List Access → List DStep → ClassSet → Row → ℕ
work rows normal accesses [] set v = 1
work rows normal accesses (s ∷ steps) set v =
    1 + sum_by (work rows normal accesses steps (bound_by normal accesses set s)) (kept_from rows normal accesses s set v)

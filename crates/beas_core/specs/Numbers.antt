-- The announced number of a block, an unbounded whole number. That of a query stands in Queries.
--     announced_from accesses b steps  the reads of the steps at most, where b valuations stand before the first
--     last_size accesses b steps      the valuations after the last step at most
--     cap number                      the number, or 2^128 where it is greater
use Rattle.std.specs.Prelude.{◌+◌, ◌*◌, ◌^◌, if◌then◌else◌, ℕ, List, [], ◌∷◌, min}
use Rattle.beas_core.specs.declared.schema.Access.{Access}
use Rattle.beas_core.specs.declared.plan.DStep.{DStep}
use Rattle.beas_core.specs.Derivations.{access_in}

-- the valuations after one step, where b stand before it
abbrev pub size_after : List Access → ℕ → DStep → ℕ
size_after accesses b s = if s.adds then b * (access_in accesses s.access).bound else b

abbrev pub announced_from : List Access → ℕ → List DStep → ℕ
announced_from accesses b [] = 0
announced_from accesses b (s ∷ steps) = b * (access_in accesses s.access).bound + announced_from accesses (size_after accesses b s) steps

abbrev pub last_size : List Access → ℕ → List DStep → ℕ
last_size accesses b [] = b
last_size accesses b (s ∷ steps) = last_size accesses (size_after accesses b s) steps

abbrev pub cap : ℕ → ℕ
cap number = min number (2 ^ 128)

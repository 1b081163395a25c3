-- The sizes of a derivation.
use Rattle.std.specs.Prelude.{ℕ, List}
use Rattle.beas_core.specs.declared.schema.Access.{Access}
use Rattle.beas_core.specs.declared.plan.DStep.{DStep}
use Rattle.beas_core.specs.declared.plan.Sizes.{Sizes}
use Rattle.beas_core.specs.Numbers.{announced_from, last_size}

-- the reads and the last size, where so many valuations stand before the first step
abbrev pub sizes_of : List Access → ℕ → List DStep → Sizes
sizes_of accesses first steps = record { reads = announced_from accesses first steps; last = last_size accesses first steps }

-- What laws ask of the answers that guide a block.
--     GuideFits normal guide      each answer has a value for each place of the block's output
--     StartFits normal start      so it has, and no more bindings stand before the first step than the size says
use Rattle.std.specs.Prelude.{◌≡◌, ◌≤◌, ℕ, length, All, Some, None}
use Rattle.beas_core.specs.declared.plan.Normal.{Normal}
use Rattle.beas_core.specs.Types.{Guide}
use Rattle.beas_core.specs.Valuations.{starts}

abbrev pub GuideFits : Normal → Guide → Type 0
GuideFits normal None = Unit {0}
GuideFits normal (Some answers) = All (λ row. length row ≡ length normal.output) answers

-- what stands before a block's first step: the answers that guide it, and a number that their count is at most
pub record BlockStart : Type 0 where
  pub guide : Guide
  pub size : ℕ

pub record StartFits (normal : Normal) (start : BlockStart) : Type 0 where
  pub guide : GuideFits normal start.guide
  pub size : length (starts normal start.guide) ≤ start.size

-- Runs: items of a list that lie one after another in memory.
--     IsWithin xs at run    the items of the run are those of the list from a place on
--     IsRun xs at run       and there are some
use Rattle.std.specs.Prelude.{◌≡◌, ◌<◌, ℕ, List, length, take, drop}

abbrev pub IsWithin : {T : Type 0} → List T → ℕ → List T → Type 0
IsWithin xs at run = run ≡ take (length run) (drop at xs)

pub record IsRun {T : Type 0} (xs : List T) (at : ℕ) (run : List T) : Type 0 where
  pub some : 0 < length run
  pub within : IsWithin xs at run

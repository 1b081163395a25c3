-- The limits that a program asks for.
--     chosen asked most           the limit that is asked for, unless it is past the greatest. 0 stands for the greatest
--     AreAsked asked limits       these are the limits
--     IsPastSome asked            some limit is past the greatest
use Rattle.std.specs.Prelude.{◌≡◌, ◌<◌, ◌==◌, ◌⊎◌, ℕ, Option, None, Some, if◌then◌else◌, nat_le}
use Rattle.beas_core.specs.declared.limits.Limits.{Limits}
use Rattle.beas_c.specs.declared.limits.AskedLimits.{AskedLimits}

abbrev pub chosen : ℕ → ℕ → Option ℕ
chosen asked most = if asked == 0 then Some most else (if nat_le asked most then Some asked else None)

pub record AreAsked (asked : AskedLimits) (limits : Limits) : Type 0 where
  pub tables : chosen asked.tables 1024 ≡ Some limits.tables
  pub columns : chosen asked.columns 64 ≡ Some limits.columns
  pub constraints : chosen asked.constraints 65536 ≡ Some limits.constraints
  pub atoms : chosen asked.atoms 16 ≡ Some limits.atoms
  pub blocks : chosen asked.blocks 64 ≡ Some limits.blocks
  pub outputs : chosen asked.outputs 1024 ≡ Some limits.outputs
  pub rows : chosen asked.rows 16777216 ≡ Some limits.rows
  pub text : chosen asked.text 65535 ≡ Some limits.text
  pub file : chosen asked.file 67108864 ≡ Some limits.file

abbrev pub IsPastSome : AskedLimits → Type 0
IsPastSome asked =
    (1024 < asked.tables) ⊎ (64 < asked.columns) ⊎ (65536 < asked.constraints) ⊎ (16 < asked.atoms) ⊎ (64 < asked.blocks)
    ⊎ (1024 < asked.outputs) ⊎ (16777216 < asked.rows) ⊎ (65535 < asked.text) ⊎ (67108864 < asked.file)

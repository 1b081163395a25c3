-- What a probe found: where, by which constraint, and how many tuples.
use Rattle.std.specs.Prelude.{ℕ}
use Rattle.beas_core.specs.declared.schema.AccessId.{AccessId}

pub record Found : Type 0 where
  pub access : AccessId
  pub place : ℕ
  pub len : ℕ

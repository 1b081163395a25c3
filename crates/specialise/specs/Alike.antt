-- Constraints that no set of candidates tells apart.
--     AreAlike a b             they are on one table, have one key, and fetch the same columns
--     IsStoodFor few a         one of a few constraints is like this one
--     StandFor few accesses    a few of the constraints, one like each of them
use Rattle.std.specs.Prelude.{◌≡◌, List, Contains}
use Rattle.beas_core.specs.declared.schema.Access.{Access}

pub record AreAlike (a b : Access) : Type 0 where
  pub table : a.table.0 ≡ b.table.0
  pub key : a.key ≡ b.key
  pub fetched : a.fetched ≡ b.fetched

pub record IsStoodFor (few : List Access) (a : Access) : Type 0 where
  pub by : Access
  pub among : Contains few by
  pub alike : AreAlike by a

pub record StandFor (few accesses : List Access) : Type 0 where
  pub within : (a : Access) → Contains few a → Contains accesses a
  pub each : (a : Access) → Contains accesses a → IsStoodFor few a

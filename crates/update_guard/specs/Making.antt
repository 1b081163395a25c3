-- What the making of a constraint adds.
--     DropsIndex accesses left old new   one constraint is gone, and its index
--     AddsIndex rows access old new      an index of these rows for the constraint, which holds over them, stands after the old indexes
use Rattle.std.specs.Prelude.{◌≡◌, ◌<◌, ℕ, List, [], ◌∷◌, ◌++◌, length, remove}
use Rattle.beas_core.specs.declared.schema.Access.{Access}
use Rattle.beas_core.specs.Types.{Row}
use Rattle.beas_core.specs.Groups.{Holds}
use Rattle.access_index.specs.Index.{Index, IsIndexOf}

pub record AddsIndex (rows : List Row) (access : Access) (old new : List Index) : Type 0 where
  pub index : Index
  pub added : new ≡ old ++ index ∷ []
  pub access_is : index.access ≡ access
  pub index_is : IsIndexOf index rows
  pub holds : Holds rows access

pub record DropsIndex (accesses left : List Access) (old new : List Index) : Type 0 where
  pub place : ℕ
  pub within : place < length accesses
  pub accesses_are : left ≡ remove accesses place
  pub indexes_are : new ≡ remove old place

-- The indexes of a guard, one of them changed.
--     index_at indexes place          the index at a place
--     IsMoved old new place           the index at a place, and no other, was changed, and is of the same constraint
--     IsBuilt rows access old new     the index of these rows for a constraint stands after the old indexes
use Rattle.std.specs.Prelude.{◌≡◌, ℕ, List, [], ◌∷◌, ◌++◌, slice_index_or, slice_set}
use Rattle.beas_core.specs.declared.schema.Access.{Access}
use Rattle.beas_core.specs.Types.{Row}
use Rattle.access_index.specs.Index.{Index, IsIndexOf}
use Rattle.update_guard.specs.Indexing.{no_access}

abbrev pub no_index : Index
no_index = record { access = no_access; total = 0; buckets = [] }

abbrev pub index_at : List Index → ℕ → Index
index_at indexes place = slice_index_or indexes place no_index

pub record IsMoved (old new : List Index) (place : ℕ) : Type 0 where
  pub index : Index
  pub moved : new ≡ slice_set old place index
  pub access_stays : index.access ≡ (index_at old place).access

pub record IsBuilt (rows : List Row) (access : Access) (old new : List Index) : Type 0 where
  pub index : Index
  pub added : new ≡ old ++ index ∷ []
  pub access_is : index.access ≡ access
  pub index_is : IsIndexOf index rows

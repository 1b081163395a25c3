-- Lists that are cut into chunks.
--     AllHaveItems items chunks    no chunk is empty
--     IsSpot items chunks at spot  the item at this place among all lies at this spot
use Rattle.std.specs.Prelude.{◌≡◌, ◌+◌, ◌<◌, ◌≤◌, ℕ, List, length, take, slice_index_or}
use Rattle.std.specs.List.{AllByRecursion, flat_map}
use Rattle.blocked_list.specs.declared.spot.Spot.{Spot}

abbrev pub AllHaveItems : {P T : Type 0} → (P → List T) → List P → Type 0
AllHaveItems items chunks = AllByRecursion (λ p. 0 < length (items p)) chunks

pub record IsSpot {P T : Type 0} (items : P → List T) (chunks : List P) (at : ℕ) (spot : Spot) : Type 0 where
  pub chunk : spot.chunk < length chunks
  pub inside : (d : P) → spot.at < length (items (slice_index_or chunks spot.chunk d))
  pub is : at ≡ length (flat_map items (take spot.chunk chunks)) + spot.at

-- the same for a place between items: just after an item, or the front
pub record IsGap {P T : Type 0} (items : P → List T) (chunks : List P) (at : ℕ) (spot : Spot) : Type 0 where
  pub chunk : spot.chunk < length chunks
  pub inside : (d : P) → spot.at ≤ length (items (slice_index_or chunks spot.chunk d))
  pub is : at ≡ length (flat_map items (take spot.chunk chunks)) + spot.at

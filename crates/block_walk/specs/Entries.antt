-- What probes found, in the order in which they were made.
--     key_alone count key        what is kept of a key besides so many tuples, which begin with it: nothing, or the key where there is none
--     entry_at values s          the entry that a spot stands for among these values, with all tuples that were found
--     kept_at values s           those of its tuples whose values are kept
--     entries_in known           the entries of all spots
--     entry_of known place       the entry at a place
--     kept_in known              of each entry the tuples that are kept
--     kept_of known place        those of the entry at a place
--     AreKept .. step            of each entry of the step those are kept that its stage's sieve keeps
--     IsSpot values s            its values are there
--     IsIndex tuples index       the index has the order of these tuples by their values at its places
--     IsIndexed tuples all k     so has the one at place k of all
--     IsAt entries key place     the entry at a place is of this step and key
--     IsReached chains maps place key     the chains have at the place the hash of the step and key, or the maps keep an entry under them
--     AreReached entries chains maps      so each entry is found again, and what the maps keep is an entry of that step and key
--     IsKnown known              each spot's values are there, each entry is found again, and each index that a spot names is that of its kept
--                                tuples
use Rattle.std.specs.Prelude.{◌≡◌, ◌&&◌, Bool, ℕ, zero, suc, ◌+◌, ◌*◌, ◌<◌, ◌≤◌, ◌⊎◌, List, [], drop, length, map, slice_index_or, All, IfSome, IsSome}
use Rattle.beas_core.specs.declared.value.Value.{Value}
use Rattle.beas_core.specs.declared.plan.Normal.{Normal}
use Rattle.beas_core.specs.Types.{Row}
use Rattle.plan_ops.specs.declared.stages.Stage.{Stage}
use Rattle.plan_ops.specs.Sieves.{sieved}
use Rattle.block_walk.specs.Fetched.{rows_in}
use Rattle.block_walk.specs.declared.known.Spot.{Spot}
use Rattle.block_walk.specs.declared.known.TupleIndex.{TupleIndex}
use Rattle.block_walk.specs.declared.known.Known.{Known}
use Rattle.place_chains.specs.Hashing.{hash_of}
use Rattle.place_chains.specs.TupleOrder.{IsOrder}
use Rattle.block_walk.specs.Kept.{Entry, part}
use Rattle.block_walk.specs.Ordered.{Maps, kept_under}

abbrev pub key_alone : ℕ → Row → Row
key_alone zero key = key
key_alone (suc count) key = []

abbrev pub entry_at : List Value → Spot → Entry
entry_at values s = ((s.step, part values s.from s.key_width), s.all.rows)

abbrev pub kept_at : List Value → Spot → List Row
kept_at values s = rows_in s.width s.count (drop s.from values)

abbrev pub entries_in : Known → List Entry
entries_in known = map (entry_at known.values.items) known.spots.items

abbrev pub entry_of : Known → ℕ → Entry
entry_of known place = slice_index_or (entries_in known) place ((0, []), [])

abbrev pub kept_in : Known → List (List Row)
kept_in known = map (kept_at known.values.items) known.spots.items

abbrev pub kept_of : Known → ℕ → List Row
kept_of known place = slice_index_or (kept_in known) place []

abbrev pub AreKept : Normal → Stage → Bool → Known → ℕ → Type 0
AreKept normal stage is_last known step = (i : ℕ) → i < length (entries_in known) → (entry_of known i).0.0 ≡ step
    → kept_of known i ≡ sieved normal stage.sieve (is_last && stage.sieve.one) (entry_of known i).1

pub record IsSpot (values : List Value) (s : Spot) : Type 0 where
  pub key : s.from + s.key_width ≤ length values
  pub tuples : s.from + s.count * s.width ≤ length values

abbrev pub IsIndex : List Row → TupleIndex → Type 0
IsIndex tuples index = IsOrder index.positions.items tuples index.order

pub record IsIndexed (tuples : List Row) (indexes : List TupleIndex) (k : ℕ) : Type 0 where
  pub there : k < length indexes
  pub is : (d : TupleIndex) → IsIndex tuples (slice_index_or indexes k d)

abbrev pub IsAt : List Entry → ℕ × Row → ℕ → Type 0
IsAt entries key place = (place < length entries) × ((slice_index_or entries place ((0, []), [])).0 ≡ key)

abbrev pub IsReached : List ℕ → Maps → ℕ → ℕ × Row → Type 0
IsReached chains maps place key = (slice_index_or chains place 0 ≡ hash_of key.0 key.1) ⊎ IsSome (kept_under maps key.0 key.1)

pub record AreReached (entries : List Entry) (chains : List ℕ) (maps : Maps) : Type 0 where
  pub chained : length chains ≡ length entries
  pub reached : (i : ℕ) → i < length entries → IsReached chains maps i (slice_index_or entries i ((0, []), [])).0
  pub kept : (step : ℕ) (key : Row) → IfSome (kept_under maps step key) (IsAt entries (step, key))

pub record IsKnown (known : Known) : Type 0 where
  pub spots : All (IsSpot known.values.items) known.spots.items
  pub reached : AreReached (entries_in known) known.chains known.ordered.steps.items
  pub indexes : (i : ℕ) (d : Spot) → i < length known.spots.items
      → IfSome (slice_index_or known.spots.items i d).index (IsIndexed (kept_of known i) known.indexes.items)

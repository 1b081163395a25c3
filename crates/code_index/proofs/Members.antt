-- The columns of a constraint's tuples are its key columns and then the fetched ones.
use Rattle.std.proofs.Common.{◌≡◌, ◌≤◌, ◌<◌, ◌+◌, ◌-◌, ◌++◌, ℕ, List, length, get_or}
use Rattle.std.proofs.Math.ListN.{get_or-append}
use Rattle.std.proofs.Math.Seq.{get_or-append_right}
use Rattle.std.proofs.lemmas.List.{length-append}
use Rattle.beas_core.specs.declared.schema.ColumnId.{ColumnId}

pub members_long : (key fetched : List ColumnId) → length (key ++ fetched) ≡ length key + length fetched
members_long key fetched = length-append key fetched

pub in_key : (key fetched : List ColumnId) (i : ℕ) (d : ColumnId) → i < length key → get_or (key ++ fetched) i d ≡ get_or key i d
in_key key fetched i d l = get_or-append key fetched d i l

pub in_fetched : (key fetched : List ColumnId) (i : ℕ) (d : ColumnId) → length key ≤ i → get_or (key ++ fetched) i d ≡ get_or fetched (i - length key) d
in_fetched key fetched i d l = get_or-append_right key fetched i d l

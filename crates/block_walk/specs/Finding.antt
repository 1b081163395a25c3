-- How the entry of a step and a key is found, and what that counts.
--     WasNotProbed known step key     the key wasn't probed at the step
--     Finds .. found old new ..       the entry is there: it was before, and nothing is counted, or a probe was made that is due; what was
--                                     kept of tuples stays
--     FindSpent ..                    what is counted where memory ran out: nothing, or a probe that was due
use Rattle.std.specs.Prelude.{◌≡◌, ℕ, ◌+◌, ◌<◌, ◌++◌, ◌∷◌, [], ◌⊎◌, List, Option, Some, None, length}
use Rattle.beas_core.specs.declared.schema.Access.{Access}
use Rattle.beas_core.specs.declared.schema.AccessId.{AccessId}
use Rattle.beas_core.specs.Types.{Row, TableRows}
use Rattle.beas_core.specs.Derivations.{access_in}
use Rattle.beas_core.specs.Groups.{group_of}
use Rattle.beas_core.specs.Reads.{probe_reads}
use Rattle.beas_core.proofs.Sets.{Has}
use Rattle.block_walk.specs.declared.known.Known.{Known}
use Rattle.block_walk.specs.declared.known.Found.{Found}
use Rattle.block_walk.specs.Kept.{Entry}
use Rattle.block_walk.specs.Entries.{entries_in, entry_of, kept_of}

abbrev pub WasNotProbed : Known → ℕ → Row → Type 0
WasNotProbed known step key = (e : Entry) → Has (entries_in known) e → e.0 ≡ (step, key) → ⊥

-- how the entries grew
abbrev pub Grew : TableRows → List Access → AccessId → ℕ → Row → Option ℕ → Known → Known → ℕ → ℕ → Type 0
Grew rows accesses id step key None old new before after = (entries_in new ≡ entries_in old) × (after ≡ before)
Grew rows accesses id step key (Some reads) old new before after =
    WasNotProbed old step key
    × (entries_in new ≡ entries_in old ++ ((step, key), group_of (rows (access_in accesses id).table) (access_in accesses id) key) ∷ [])
    × (reads ≡ probe_reads rows (access_in accesses id) key)
    × (after ≡ before + reads)

pub record Finds (rows : TableRows) (accesses : List Access) (id : AccessId) (step : ℕ) (key : Row) (found : Found) (old new : Known) (before after : ℕ)
    : Type 0 where
  pub there : found.place < length (entries_in new)
  pub is_key : (entry_of new found.place).0 ≡ (step, key)
  pub grew : Grew rows accesses id step key found.reads old new before after
  pub is_new : (reads : ℕ) → found.reads ≡ Some reads → found.place ≡ length (entries_in old)
  pub stays : (i : ℕ) → i < length (entries_in old) → kept_of new i ≡ kept_of old i

abbrev pub FindSpent : TableRows → List Access → AccessId → ℕ → Row → Known → ℕ → ℕ → Type 0
FindSpent rows accesses id step key old before after = (after ≡ before)
    ⊎ (WasNotProbed old step key × (after ≡ before + probe_reads rows (access_in accesses id) key))

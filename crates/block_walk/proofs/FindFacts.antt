-- A key that was probed because no entry has it: its entry is the last one now.
use Rattle.std.proofs.Common.{◌≡◌, ◌+◌, ◌++◌, ◌∷◌, [], ℕ, List, Some, inr, length, get_or, refl, ap, sym, subst, ◌∙◌, arith}
use Rattle.std.proofs.lemmas.List.{get_or_push, length_push}
use Rattle.beas_core.specs.declared.schema.Access.{Access}
use Rattle.beas_core.specs.declared.schema.AccessId.{AccessId}
use Rattle.beas_core.specs.Types.{Row, TableRows}
use Rattle.beas_core.specs.Derivations.{access_in}
use Rattle.beas_core.specs.Groups.{group_of}
use Rattle.beas_core.specs.Reads.{probe_reads}
use Rattle.block_walk.specs.Kept.{Entry}
use Rattle.block_walk.specs.Entries.{entries_in, entry_of, kept_in}
use Rattle.block_walk.specs.Finding.{FindSpent, Finds, Grew, WasNotProbed}
use Rattle.block_walk.specs.declared.known.Found.{Found}
use Rattle.block_walk.specs.declared.known.Known.{Known}
use Rattle.block_walk.proofs.KeptFacts.{stays_before}

module _ (rows : TableRows) (accesses : List Access) (id : AccessId) (step : ℕ) (old : Known) where
  abbrev found : Row → Entry
  found key = ((step, key), group_of (rows (access_in accesses id).table) (access_in accesses id) key)

  abbrev reads_of : Row → ℕ
  reads_of key = probe_reads rows (access_in accesses id) key

  last_found : (key : Row) → WasNotProbed old step key → (new : Known) → entries_in new ≡ entries_in old ++ found key ∷ []
      → (tuples : List Row) → kept_in new ≡ kept_in old ++ tuples ∷ [] → (at : Found) → at.place ≡ length (entries_in old)
      → at.reads ≡ Some (reads_of key) → (before after : ℕ) → after ≡ before + reads_of key
      → Finds rows accesses id step key at old new before after
  last_found key none new entries tuples kept at last told before after cost =
      let long : length (entries_in new) ≡ length (entries_in old) + 1 = ap length entries ∙ length_push (entries_in old) (found key) in
      let entry : entry_of new at.place ≡ found key =
      ap (λ (es : List Entry). get_or es at.place ((0, []), [])) entries ∙ get_or_push (entries_in old) (found key) ((0, []), []) at.place (sym last) in
      record {
        there = omega (arith, long, last);
        is_key = ap (λ (e : Entry). e.0) entry;
        grew = subst (λ o. Grew rows accesses id step key o old new before after) (sym told) (none, entries, refl, cost);
        is_new = λ n is. last;
        stays = stays_before old new (found key) tuples entries kept;
      }

  -- the key that was looked for is the one that was probed, and is the one that the valuation gives
  module _ (looked probed key : Row) (same : looked ≡ probed) (is_key : probed ≡ key) (none : WasNotProbed old step looked) where
    pub found_probed : (new : Known) → entries_in new ≡ entries_in old ++ found probed ∷ [] → (tuples : List Row)
        → kept_in new ≡ kept_in old ++ tuples ∷ [] → (at : Found) → at.place ≡ length (entries_in old)
        → at.reads ≡ Some (reads_of probed) → (before after : ℕ) → after ≡ before + reads_of probed
        → Finds rows accesses id step key at old new before after
    found_probed new entries tuples kept at last told before after cost =
        subst (λ k. Finds rows accesses id step k at old new before after) is_key
        (last_found probed (subst (WasNotProbed old step) same none) new entries tuples kept at last told before after cost)

    pub spent_probed : (before after : ℕ) → after ≡ before + reads_of probed → FindSpent rows accesses id step key old before after
    spent_probed before after cost =
        inr (subst (WasNotProbed old step) (same ∙ is_key) none, cost ∙ ap (λ k. before + reads_of k) is_key)

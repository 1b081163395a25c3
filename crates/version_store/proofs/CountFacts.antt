-- What a cursor counts, before a turn and after it.
use Rattle.std.proofs.Common.{◌≡◌, ◌≤◌, ◌∙◌, ℕ, Bool, true, false, List, [], ◌∷◌, length, Option, Some, None, refl, ap, sym, subst, arith}
use Rattle.std.specs.Prelude.{if◌then◌else◌, max, sum_by}
use Rattle.std.proofs.lemmas.List.Sums.{sum_by-cons}
use Rattle.beas_core.specs.declared.schema.Access.{Access}
use Rattle.beas_core.specs.Reads.{probe_reads}
use Rattle.beas_core.specs.Types.{Row}
use Rattle.beas_core.proofs.Sets.{Contains-from_has}
use Rattle.block_walk.specs.Worlds.{World}
use Rattle.block_walk.proofs.SumFacts.{same_sums}
use Rattle.cursor_executor.specs.declared.cursors.Turn.TheVariants.{Probed}
use Rattle.cursor_executor.specs.Fetching.{BlockFetched, Seen as CursorSeen, probe_of, probed, reads_fetched}
use Rattle.cursor_executor.specs.Turns.{TurnIs}
use Rattle.desk_model.specs.OpenQueries.{OpenQuery, reads_of, share_of}
use Rattle.version_store.specs.Held.{IsKept, held, made_by}
use Rattle.version_store.proofs.WorldFacts.{reads_are, share_is}
use Rattle.version_store.specs.Stored.{AreCounted, probes_in, share_in}

-- ---- a cursor that goes on, and one that failed

pub going : (cursor : CursorSeen) (made : ℕ) → made_by cursor ≡ Some made → cursor.failed ≡ false
going cursor made is = by cursor.failed is
  where
    by : (b : Bool) → (if b then None else Some (length cursor.fetched)) ≡ Some made → b ≡ false
    by true e = cc
    by false e = refl

pub has_failed : (cursor : CursorSeen) → made_by cursor ≡ None → cursor.failed ≡ true
has_failed cursor is = by cursor.failed is
  where
    by : (b : Bool) → (if b then None else Some (length cursor.fetched)) ≡ None → b ≡ true
    by true e = refl
    by false e = cc

pub going_share : (cursor : CursorSeen) → cursor.failed ≡ false → share_in cursor ≡ cursor.reads
going_share cursor e = ap (λ b. if b then 0 else cursor.reads) e

pub going_probes : (cursor : CursorSeen) → cursor.failed ≡ false → probes_in cursor ≡ probed cursor.fetched
going_probes cursor e = ap (λ b. if b then [] else probed cursor.fetched) e

pub lost_share : (cursor : CursorSeen) → cursor.failed ≡ true → share_in cursor ≡ 0
lost_share cursor e = ap (λ b. if b then 0 else cursor.reads) e

pub lost_probes : (cursor : CursorSeen) → cursor.failed ≡ true → probes_in cursor ≡ []
lost_probes cursor e = ap (λ b. if b then [] else probed cursor.fetched) e

-- each probe counts one read at least
pub one_each : (fetched : List BlockFetched) → length fetched ≤ reads_fetched fetched
one_each [] = omega arith
one_each (f ∷ fetched) =
    let later = one_each fetched in
    let whole = sum_by-cons (λ (x : BlockFetched). max 1 (length x.pair.tuples)) f fetched in
    omega (arith, later, whole)

-- what was fetched counted as its probes count
pub shares_are : (w : World) (cursor : CursorSeen) → IsKept w cursor → (session : ℕ) (plan : List ℕ) → cursor.failed ≡ false
    → reads_fetched cursor.fetched ≡ sum_by (share_of (held w session cursor plan)) (probed cursor.fetched)
shares_are w cursor kept session plan live =
    same_sums (λ (f : BlockFetched). max 1 (length f.pair.tuples)) (share_of (held w session cursor plan)) probe_of cursor.fetched (λ f m.
    let there = Contains-from_has cursor.fetched f m in
    let a = kept.agrees live f there in
    sym (share_is w cursor kept session plan (probe_of f) (kept.asked live f there)
    ∙ ap (λ (c : Access). probe_reads w.rows c f.pair.probe.key) a.access ∙ ap (λ (ts : List Row). max 1 (length ts)) a.tuples))

-- ---- after a turn

module _ (w : World) (old new : CursorSeen) (kept : IsKept w old) (session : ℕ) (plan : List ℕ) (counted : AreCounted (held w session old plan) old) where
  abbrev q : OpenQuery
  q = held w session old plan

  module _ (next : OpenQuery) (made : Option ℕ) (is : next ≡ record q { made = made }) where
    bound_still : reads_of next ≤ next.prepared.bound
    bound_still = subst (λ (r : OpenQuery). reads_of r ≤ r.prepared.bound) (sym is) counted.bound

    reads_still : reads_of next ≡ reads_of q
    reads_still = ap reads_of is

    pub counted_probed : old.failed ≡ false → (s t : ℕ) → TurnIs w Probed old new s t → AreCounted next new
    counted_probed live s t h =
        let before = counted.reads live in
        let due = reads_are w old kept session plan in
        let raised = h.did.raised in
        let all = h.did.made.all_reads in
        let within = h.did.made.within in
        record {
          reads = λ _. omega (arith, before, raised, all);
          most = λ _. omega (arith, before, due, raised, within, reads_still);
          bound = bound_still;
        }

    pub counted_lost : new.failed ≡ true → AreCounted next new
    counted_lost failed = record {
      reads = λ live. absurd (let no : true ≡ false = sym failed ∙ live in cc);
      most = λ live. absurd (let no : true ≡ false = sym failed ∙ live in cc);
      bound = bound_still;
    }

-- Which tuples are kept, as entries come and get indexes.
use Rattle.std.proofs.Common.{◌≡◌, ◌&&◌, ◌<◌, ◌++◌, ◌∷◌, ◌∙◌, [], ℕ, Bool, List, Option, Some, None, length, get_or, inl, inr, ap, sym, subst, arith}
use Rattle.std.proofs.lemmas.Bool.{cases_lt}
use Rattle.std.proofs.lemmas.List.{get_or_append_left, get_or_push, length_push}
use Rattle.beas_core.specs.declared.schema.Access.{Access}
use Rattle.beas_core.specs.declared.schema.AccessId.{AccessId}
use Rattle.beas_core.specs.declared.plan.Normal.{Normal}
use Rattle.beas_core.specs.Types.{Row, TableRows}
use Rattle.beas_core.specs.Derivations.{access_in}
use Rattle.beas_core.specs.Groups.{group_of}
use Rattle.plan_ops.specs.declared.stages.Stage.{Stage}
use Rattle.plan_ops.specs.Sieves.{sieved}
use Rattle.block_walk.specs.Kept.{Entry}
use Rattle.block_walk.specs.Entries.{AreKept, entries_in, entry_of, kept_in, kept_of}
use Rattle.block_walk.specs.Finding.{Finds, Grew}
use Rattle.block_walk.specs.declared.known.Found.{Found}
use Rattle.block_walk.specs.declared.known.Known.{Known}
use Rattle.block_walk.proofs.KnownFacts.{length-kept_in}

module _ (old new : Known) where
  -- no entry came
  module _ (entries : entries_in new ≡ entries_in old) (kept : kept_in new ≡ kept_in old) where
    pub stays_same : (i : ℕ) → i < length (entries_in old) → kept_of new i ≡ kept_of old i
    stays_same i l = ap (λ ks. get_or ks i []) kept

    pub kept_same : (normal : Normal) (stage : Stage) (is_last : Bool) (step : ℕ) → AreKept normal stage is_last old step
        → AreKept normal stage is_last new step
    kept_same normal stage is_last step was i l e =
        let same : entry_of new i ≡ entry_of old i = ap (λ es. get_or es i ((0, []), [])) entries in
        stays_same i (subst (λ (es : List Entry). i < length es) entries l)
        ∙ was i (subst (λ (es : List Entry). i < length es) entries l) (ap (λ (x : Entry). x.0.0) (sym same) ∙ e)
        ∙ ap (λ (x : Entry). sieved normal stage.sieve (is_last && stage.sieve.one) x.1) (sym same)

  -- an entry came
  module _ (one : Entry) (tuples : List Row) (entries : entries_in new ≡ entries_in old ++ one ∷ []) (kept : kept_in new ≡ kept_in old ++ tuples ∷ []) where
    pub stays_before : (i : ℕ) → i < length (entries_in old) → kept_of new i ≡ kept_of old i
    stays_before i l =
        let n = length-kept_in old in
        ap (λ ks. get_or ks i []) kept ∙ get_or_append_left (kept_in old) (tuples ∷ []) [] i (omega (arith, l, n))

    pub kept_more : (normal : Normal) (stage : Stage) (is_last : Bool) (step : ℕ) → AreKept normal stage is_last old step
        → tuples ≡ sieved normal stage.sieve (is_last && stage.sieve.one) one.1 → AreKept normal stage is_last new step
    kept_more normal stage is_last step was here i l e = elim (cases_lt i (length (entries_in old))) [
      | inl before ↦ (
          let same : entry_of new i ≡ entry_of old i =
          ap (λ es. get_or es i ((0, []), [])) entries ∙ get_or_append_left (entries_in old) (one ∷ []) ((0, []), []) i before in
          stays_before i before ∙ was i before (ap (λ (x : Entry). x.0.0) (sym same) ∙ e)
          ∙ ap (λ (x : Entry). sieved normal stage.sieve (is_last && stage.sieve.one) x.1) (sym same))
      | inr past ↦ (
          let n = length-kept_in old in
          let many = ap length entries ∙ length_push (entries_in old) one in
          let last : length (entries_in old) ≡ i = omega (arith, l, past, many) in
          let lies : entry_of new i ≡ one = ap (λ es. get_or es i ((0, []), [])) entries ∙ get_or_push (entries_in old) one ((0, []), []) i last in
          ap (λ ks. get_or ks i []) kept ∙ get_or_push (kept_in old) tuples [] i (n ∙ last) ∙ here
          ∙ ap (λ (x : Entry). sieved normal stage.sieve (is_last && stage.sieve.one) x.1) (sym lies))
    ]

-- the entries of another step
module _ (rows : TableRows) (accesses : List Access) (id : AccessId) (step : ℕ) (key : Row) (found : Found) (old new : Known) (before now : ℕ)
    (finds : Finds rows accesses id step key found old new before now) (normal : Normal) (stage : Stage) (is_last : Bool) (other : ℕ)
    (differ : other ≡ step → ⊥) (was : AreKept normal stage is_last old other) where
  abbrev one : Entry
  one = ((step, key), group_of (rows (access_in accesses id).table) (access_in accesses id) key)

  at_old : (i : ℕ) → i < length (entries_in old) → entry_of new i ≡ entry_of old i → (entry_of new i).0.0 ≡ other
      → kept_of new i ≡ sieved normal stage.sieve (is_last && stage.sieve.one) (entry_of new i).1
  at_old i l same e =
      finds.stays i l ∙ was i l (ap (λ (x : Entry). x.0.0) (sym same) ∙ e)
      ∙ ap (λ (x : Entry). sieved normal stage.sieve (is_last && stage.sieve.one) x.1) (sym same)

  pub kept_elsewhere : AreKept normal stage is_last new other
  kept_elsewhere i l e = by found.reads finds.grew
    where
      by : (o : Option ℕ) → Grew rows accesses id step key o old new before now
          → kept_of new i ≡ sieved normal stage.sieve (is_last && stage.sieve.one) (entry_of new i).1
      by None grew = at_old i (subst (λ (es : List Entry). i < length es) grew.0 l) (ap (λ es. get_or es i ((0, []), [])) grew.0) e
      by (Some reads) grew = elim (cases_lt i (length (entries_in old))) [
        | inl before ↦ at_old i before (ap (λ es. get_or es i ((0, []), [])) grew.1
            ∙ get_or_append_left (entries_in old) (one ∷ []) ((0, []), []) i before) e
        | inr past ↦ (
            let many = ap length grew.1 ∙ length_push (entries_in old) one in
            let last : length (entries_in old) ≡ i = omega (arith, l, past, many) in
            let lies = ap (λ es. get_or es i ((0, []), [])) grew.1 ∙ get_or_push (entries_in old) one ((0, []), []) i last in
            absurd (differ (sym e ∙ ap (λ (x : Entry). x.0.0) lies)))
      ]

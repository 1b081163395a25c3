-- The index at the place of a live constraint is that constraint's, and of its table's rows.
use Rattle.std.proofs.Common.{◌≡◌, ◌∙◌, ◌<◌, ◌==◌, ℕ, List, [], length, get_or, ap, subst, arith, Some}
use Rattle.std.specs.Prelude.{find, unwrap_or}
use Rattle.std.proofs.lemmas.Bool.{eq-eqb, ne_eqb}
use Rattle.beas_core.specs.declared.schema.Access.{Access}
use Rattle.beas_core.specs.declared.schema.AccessId.{AccessId}
use Rattle.beas_core.specs.declared.schema.TableId.{TableId}
use Rattle.beas_core.specs.Derivations.{access_in}
use Rattle.beas_core.specs.Groups.{Holds}
use Rattle.beas_core.specs.Types.{Row}
use Rattle.access_index.specs.Index.{Index, IsIndexOf}
use Rattle.catalogue.specs.Schema.{Schema, SchemaIsSound}
use Rattle.catalogue.proofs.IdFacts.{IdsRise, Located}
use Rattle.catalogue.proofs.ListFacts.{find_first}
use Rattle.update_guard.specs.Guarding.{IsGuarded}
use Rattle.update_guard.specs.Indexing.{no_access}
use Rattle.update_guard.specs.Seen.{index_at, no_index}
use Rattle.update_guard.specs.Stored.{index_with_id}
use Rattle.update_guard.proofs.PortFacts.{same_access}
use Rattle.word_index.specs.Parts.{IsPart}

abbrev pub AreOfAccesses : List Index → List Access → Type 0
AreOfAccesses indexes accesses = (i : ℕ) (d : Index) (e : Access) → i < length accesses → (get_or indexes i d).access ≡ get_or accesses i e

-- what the place of a live constraint tells of its index, where these are the rows of its table
pub record IsPlaceOf (accesses : List Access) (indexes : List Index) (id : AccessId) (place : ℕ) (rows : List Row) : Type 0 where
  pub within : place < length indexes
  pub found : index_with_id indexes id ≡ index_at indexes place
  pub access_is : (index_at indexes place).access ≡ access_in accesses id
  pub id_is : (index_at indexes place).access.id ≡ id
  pub index_is : IsIndexOf (index_at indexes place) rows
  pub holds : Holds rows (access_in accesses id)

pub place_of : (accesses : List Access) (indexes : List Index) (id : AccessId) (place : ℕ) (rows : List Row) → IdsRise accesses
    → length indexes ≡ length accesses → AreOfAccesses indexes accesses → Located accesses id place → IsIndexOf (index_at indexes place) rows
    → Holds rows (access_in accesses id) → IsPlaceOf accesses indexes id place rows
place_of accesses indexes id place rows rise count each at index_is holds =
    let long : place < length indexes = omega (arith, at.within, count) in
    let own : (index_at indexes place).access ≡ get_or accesses place no_access = each place no_index no_access at.within in
    let number : (index_at indexes place).access.id.0 ≡ id.0 = ap (λ a. a.id.0) (own ∙ at.found no_access) ∙ at.has_id in
    let first : find (λ x. x.access.id.0 == id.0) indexes ≡ Some (index_at indexes place) =
    find_first (λ x. x.access.id.0 == id.0) indexes place no_index long (eq-eqb (index_at indexes place).access.id.0 id.0 number)
    (λ k l. ne_eqb (index_at indexes k).access.id.0 id.0 (λ e. absurd (omega (
      arith,
      rise k place no_access l at.within,
      ap (λ a. a.id.0) (each k no_index no_access (omega (arith, l, at.within))),
      e,
      ap (λ a. a.id.0) own,
      number,
    )))) in
    record {
      within = long;
      found = ap (λ o. unwrap_or o no_index) first;
      access_is = own ∙ at.found no_access ∙ same_access accesses id;
      id_is = ap (λ n. let i : AccessId = record { 0 = n } in i) number;
      index_is = index_is;
      holds = holds;
    }

pub place_in_guard : (schema : Schema) (rows : List (List Row)) (indexes : List Index) (id : AccessId) (place : ℕ) → SchemaIsSound schema
    → IsGuarded schema rows indexes → Located schema.accesses id place
    → IsPlaceOf schema.accesses indexes id place (get_or rows (access_in schema.accesses id).table.0 [])
place_in_guard schema rows indexes id place sound kept at =
    let same : get_or schema.accesses place no_access ≡ access_in schema.accesses id = at.found no_access ∙ same_access schema.accesses id in
    place_of schema.accesses indexes id place (get_or rows (access_in schema.accesses id).table.0 []) sound.ids_rise kept.indexed.count
    (λ i d e l. (kept.indexed.each i d e l).access_is) at
    (subst (λ (a : Access). IsIndexOf (index_at indexes place) (get_or rows a.table.0 [])) same (kept.indexed.each place no_index no_access at.within).index_is)
    (subst (λ (a : Access). Holds (get_or rows a.table.0 []) a) same (kept.hold place no_access at.within))

pub place_in_part : (table : TableId) (rows : List Row) (accesses : List Access) (indexes : List Index) (id : AccessId) (place : ℕ)
    → IsPart table rows accesses indexes → Located accesses id place → IsPlaceOf accesses indexes id place rows
place_in_part table rows accesses indexes id place part at =
    let same : get_or accesses place no_access ≡ access_in accesses id = at.found no_access ∙ same_access accesses id in
    let own = part.each place no_index no_access at.within in
    place_of accesses indexes id place rows part.ids_rise part.count (λ i d e l. (part.each i d e l).access_is) at own.index_is
    (subst (λ (a : Access). Holds rows a) same own.holds)

-- Plans read the store: the index of a constraint is found by its id.
use Rattle.std.proofs.Common.{◌≡◌, ◌∙◌, ◌<◌, ◌==◌, ℕ, List, [], length, get_or, ap, sym, refl, arith, Some}
use Rattle.std.specs.Prelude.{find, unwrap_or}
use Rattle.std.proofs.lemmas.Bool.{eq-eqb, ne_eqb}
use Rattle.beas_core.specs.declared.schema.Access.{Access}
use Rattle.beas_core.specs.declared.schema.AccessId.{AccessId}
use Rattle.beas_core.specs.Derivations.{access_in}
use Rattle.beas_core.specs.Types.{Row}
use Rattle.access_index.specs.Index.{Index}
use Rattle.catalogue.specs.Schema.{Schema, SchemaIsSound, access_with_id}
use Rattle.catalogue.proofs.ListFacts.{find_first}
use Rattle.update_guard.specs.Guarding.{IndexesOf}
use Rattle.update_guard.specs.Indexing.{no_access}
use Rattle.update_guard.specs.Stored.{index_with_id}

-- what the place of a live constraint tells of its index
pub record IsIndexFound (schema : Schema) (rows : List (List Row)) (indexes : List Index) (id : AccessId) (index : Index) : Type 0 where
  pub found : index_with_id indexes id ≡ index
  pub access_is : index.access ≡ access_in schema.accesses id
  pub id_is : index.access.id ≡ id

pub same_access : (accesses : List Access) (id : AccessId) → access_with_id accesses id ≡ access_in accesses id
unfolding access_in
same_access accesses id = refl

pub index_found : (schema : Schema) (rows : List (List Row)) (indexes : List Index) (id : AccessId) (place : ℕ) (index : Index) → SchemaIsSound schema
    → IndexesOf schema.accesses rows indexes
    → place < length schema.accesses → ((d : Access) → get_or schema.accesses place d ≡ access_with_id schema.accesses id)
    → (access_with_id schema.accesses id).id.0 ≡ id.0
    → index ≡ get_or indexes place index → IsIndexFound schema rows indexes id index
index_found schema rows indexes id place index sound indexed within at has_id is =
    let access : index.access ≡ access_with_id schema.accesses id = ap (λ i. i.access) is ∙ (indexed.each place index no_access within).access_is
    ∙ at no_access in
    let own : index.access.id.0 ≡ id.0 = ap (λ a. a.id.0) access ∙ has_id in
    let long : place < length indexes = omega (arith, within, indexed.count) in
    let first : find (λ x. x.access.id.0 == id.0) indexes ≡ Some (get_or indexes place index) =
    find_first (λ x. x.access.id.0 == id.0) indexes place index long
    (eq-eqb (get_or indexes place index).access.id.0 id.0 (ap (λ i. i.access.id.0) (sym is) ∙ own))
    (λ k l. ne_eqb (get_or indexes k index).access.id.0 id.0 (λ e. absurd (omega (
      arith,
      sound.ids_rise k place no_access l within,
      ap (λ a. a.id.0) (indexed.each k index no_access (omega (arith, l, within))).access_is,
      e,
      ap (λ a. a.id.0) (at no_access),
      has_id,
    )))) in
    record {
      found = ap (λ o. unwrap_or o (record { access = no_access; total = 0; buckets = [] })) first ∙ sym is;
      access_is = access ∙ same_access schema.accesses id;
      id_is = ap (λ n. let i : AccessId = record { 0 = n } in i) own;
    }

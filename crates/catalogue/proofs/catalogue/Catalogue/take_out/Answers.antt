use Rattle.std.proofs.Common.{◌≡◌, ◌∙◌, ◌==◌, ap, sym, subst, map, List, not, true, Some}
use Rattle.std.specs.Prelude.{filter, remove}
use Rattle.std.specs.List.{list_any}
use Rattle.indexmap.specs.IndexMap.{get_by_text}
use Rattle.beas_core.specs.declared.schema.Access.{Access}
use Rattle.catalogue.specs.Schema.{Schema, access_has_name, schema_without_access}
use Rattle.catalogue.specs.Kept.{Ids, id_of_access_named}
use Rattle.catalogue.proofs.Keeping.{dropped_here, live_where_named, kept_without_access, without_is_remove}
use Rattle.catalogue.proofs.catalogue.Catalogue.take_out.Goals as goal

pub position_of_id-place-requires-clause-live : goal.position_of_id-place-requires-clause-live
position_of_id-place-requires-clause-live c =
    let named : id_of_access_named c.self.inside.accesses c.args.name.now
    ≡ Some c.args.id.0 = ap (λ s. id_of_access_named s.accesses c.args.name.now) c.self.view_is ∙ c.requires in
    subst (λ (xs : List Access). list_any (λ a. a.id.0 == c.args.id.0) xs ≡ true) (sym c.as_slice.ensures)
    (live_where_named c.self.inside.accesses c.args.name.now c.args.id named)

pub invariant_of-self : goal.invariant_of-self
invariant_of-self c =
    let before : Schema = record { tables = c.self.inside.tables.items; accesses = c.self.inside.accesses; created = c.self.inside.created } in
    let inner = λ (ids : Ids). ids.items in
    let named : id_of_access_named c.self.inside.accesses c.args.name.now
    ≡ Some c.args.id.0 = ap (λ s. id_of_access_named s.accesses c.args.name.now) c.self.view_is ∙ c.requires in
    let items = c.into_vec-accesses.ensures ∙ c.replace.ensures.value in
    let is = dropped_here before c.args.name.now c.args.id c.position_of_id-place.result c.remove-dropped.result c.as_slice.result.now
    c.into_vec-accesses.result.items c.self.invariant.sound
    named c.as_slice.ensures items c.position_of_id-place.ensures.within c.position_of_id-place.ensures.found c.position_of_id-place.ensures.has_id
    c.remove-dropped.ensures.value in
    let accesses : c.from_vec.result ≡ filter (λ a. not (access_has_name c.args.name.now a)) c.self.inside.accesses =
    c.from_vec.ensures ∙ c.remove-dropped.ensures.items ∙ ap (λ xs. remove xs c.position_of_id-place.result) items
    ∙ sym (without_is_remove before c.args.name.now c.args.id c.position_of_id-place.result c.remove-dropped.result c.self.invariant.sound is) in
    rw (accesses, c.remove_in.ensures)
    (kept_without_access before c.args.name.now c.args.id c.position_of_id-place.result c.remove-dropped.result (get_by_text c.self.inside.table_numbers.numbers)
    (get_by_text c.self.inside.access_ids.numbers)
    (get_by_text c.remove.new.self.numbers) (map inner c.self.inside.by_table.items) is c.self.invariant c.remove.ensures)

pub returns : goal.returns
returns c =
    let before : Schema = record { tables = c.self.inside.tables.items; accesses = c.self.inside.accesses; created = c.self.inside.created } in
    let named : id_of_access_named c.self.inside.accesses c.args.name.now
    ≡ Some c.args.id.0 = ap (λ s. id_of_access_named s.accesses c.args.name.now) c.self.view_is ∙ c.requires in
    let items = c.into_vec-accesses.ensures ∙ c.replace.ensures.value in
    let is = dropped_here before c.args.name.now c.args.id c.position_of_id-place.result c.remove-dropped.result c.as_slice.result.now
    c.into_vec-accesses.result.items c.self.invariant.sound
    named c.as_slice.ensures items c.position_of_id-place.ensures.within c.position_of_id-place.ensures.found c.position_of_id-place.ensures.has_id
    c.remove-dropped.ensures.value in
    let accesses : c.from_vec.result ≡ filter (λ a. not (access_has_name c.args.name.now a)) c.self.inside.accesses =
    c.from_vec.ensures ∙ c.remove-dropped.ensures.items ∙ ap (λ xs. remove xs c.position_of_id-place.result) items
    ∙ sym (without_is_remove before c.args.name.now c.args.id c.position_of_id-place.result c.remove-dropped.result c.self.invariant.sound is) in
    ap (λ xs. let after : Schema = record before { accesses = xs } in after) accesses ∙ ap (λ s. schema_without_access s c.args.name.now) c.self.view_is

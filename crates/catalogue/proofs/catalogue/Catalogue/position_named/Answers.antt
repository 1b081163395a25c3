use Rattle.std.proofs.Common.{◌≡◌, ◌∙◌, ap, sym, subst, get_or, not, refl, Some}
use Rattle.std.specs.Prelude.{filter, remove}
use Rattle.catalogue.specs.Schema.{Schema, access_has_name, access_with_id}
use Rattle.catalogue.specs.Kept.{id_of_access_named}
use Rattle.catalogue.proofs.Keeping.{dropped_here, without_is_remove}
use Rattle.catalogue.proofs.catalogue.Catalogue.position_named.Goals as goal

pub returns-clause-only : goal.returns-clause-only
returns-clause-only c =
    let before : Schema = record { tables = c.self.inside.tables.items; accesses = c.self.inside.accesses; created = c.self.inside.created } in
    let named : id_of_access_named c.self.inside.accesses c.args.name.now
    ≡ Some c.in_ok-id.id.0 = ap (λ s. id_of_access_named s.accesses c.args.name.now) c.self.view_is ∙ sym c.in_ok-id.ensures.id in
    let lent = c.as_slice-accesses.result.now in
    let found = access_with_id lent c.in_ok-id.id in
    let is = dropped_here before c.args.name.now c.in_ok-id.id c.position_of_id.result found lent c.self.inside.accesses c.self.invariant.sound named
    c.as_slice-accesses.ensures refl
    c.position_of_id.ensures.within c.position_of_id.ensures.found c.position_of_id.ensures.has_id
    (sym (c.position_of_id.ensures.found found) ∙ ap (λ xs. get_or xs c.position_of_id.result found) c.as_slice-accesses.ensures) in
    subst (λ (s : Schema). filter (λ a. not (access_has_name c.args.name.now a)) s.accesses ≡ remove s.accesses c.position_of_id.result) c.self.view_is
    (without_is_remove before c.args.name.now c.in_ok-id.id c.position_of_id.result found c.self.invariant.sound is)

use Rattle.std.proofs.Common.{◌∙◌, [], ap, sym, subst, get_or}
use Rattle.std.specs.Prelude.{IsTrue}
use Rattle.beas_core.specs.declared.schema.Access.{Access}
use Rattle.beas_core.specs.Derivations.{access_in}
use Rattle.beas_core.specs.Groups.{has_column, member_columns, value_in}
use Rattle.access_index.specs.Index.{Index, members_at, stands_at}
use Rattle.update_guard.specs.Stored.{index_with_id}
use Rattle.update_guard.proofs.PortFacts.{index_found}
use Rattle.update_guard.proofs.port.GuardedAccessPort.value.Goals as goal

pub value-requires-clause-stands : goal.value-requires-clause-stands
value-requires-clause-stands c =
    let s = c.args.self.now in
    let p = c.position-place.ensures in
    let index = c.index-as_slice-place.result in
    let f = index_found s.catalogue s.rows s.indexes c.access.result c.position-place.result index p.sound s.kept.indexed p.within p.found p.has_id
    (c.index-as_slice-place.is ∙ ap (λ xs. get_or xs c.position-place.result index) c.as_slice.ensures) in
    subst (λ (i : Index). stands_at i c.args.hits.now) (ap (index_with_id s.indexes) (sym c.access.ensures) ∙ f.found) c.requires.stands

pub value-requires-clause-column : goal.value-requires-clause-column
value-requires-clause-column c =
    let s = c.args.self.now in
    let p = c.position-place.ensures in
    let index = c.index-as_slice-place.result in
    let f = index_found s.catalogue s.rows s.indexes c.access.result c.position-place.result index p.sound s.kept.indexed p.within p.found p.has_id
    (c.index-as_slice-place.is ∙ ap (λ xs. get_or xs c.position-place.result index) c.as_slice.ensures) in
    subst (λ (a : Access). IsTrue (has_column (member_columns a) c.args.column)) (sym (f.access_is ∙ ap (access_in s.catalogue.accesses) c.access.ensures))
    c.requires.column

pub returns : goal.returns
returns c =
    let s = c.args.self.now in
    let p = c.position-place.ensures in
    let index = c.index-as_slice-place.result in
    let f = index_found s.catalogue s.rows s.indexes c.access.result c.position-place.result index p.sound s.kept.indexed p.within p.found p.has_id
    (c.index-as_slice-place.is ∙ ap (λ xs. get_or xs c.position-place.result index) c.as_slice.ensures) in
    c.value.ensures
    ∙ ap (λ (a : Access). value_in (member_columns a) (get_or (members_at index c.args.hits.now) c.args.i []) c.args.column)
    (f.access_is ∙ ap (access_in s.catalogue.accesses) c.access.ensures)
    ∙ ap (λ (i : Index). value_in (member_columns (access_in s.catalogue.accesses c.args.hits.now.access)) (get_or (members_at i c.args.hits.now) c.args.i [])
    c.args.column)
    (sym (ap (index_with_id s.indexes) (sym c.access.ensures) ∙ f.found))

use Rattle.std.proofs.Common.{◌≡◌, ◌∙◌, [], ap, sym, subst, get_or}
use Rattle.std.specs.Prelude.{IsTrue}
use Rattle.beas_core.specs.declared.schema.Access.{Access}
use Rattle.beas_core.specs.Derivations.{access_in}
use Rattle.beas_core.specs.Groups.{has_column, member_columns, value_in}
use Rattle.access_index.specs.Index.{Index, members_at, stands_at}
use Rattle.catalogue.proofs.IdFacts.{Located}
use Rattle.update_guard.specs.Seen.{index_at}
use Rattle.update_guard.specs.Stored.{index_with_id}
use Rattle.word_index.proofs.PlaceFacts.{place_in_part}
use Rattle.word_index.proofs.frozen_port.FrozenAccessPort.value.Goals as goal

pub value-requires-clause-within : goal.value-requires-clause-within
value-requires-clause-within c =
    let s = c.args.self.now in
    let e = c.position-place.ensures in
    let at : Located s.accesses c.access.result c.position-place.result = record { within = e.within; found = e.found; has_id = e.has_id } in
    let p = place_in_part s.table s.rows s.accesses s.indexes c.access.result c.position-place.result s.kept at in
    p.within

pub value-requires-clause-stands : goal.value-requires-clause-stands
value-requires-clause-stands c =
    let s = c.args.self.now in
    let e = c.position-place.ensures in
    let at : Located s.accesses c.access.result c.position-place.result = record { within = e.within; found = e.found; has_id = e.has_id } in
    let p = place_in_part s.table s.rows s.accesses s.indexes c.access.result c.position-place.result s.kept at in
    let same : index_with_id s.indexes c.args.hits.now.access ≡ index_at s.indexes c.position-place.result =
    ap (index_with_id s.indexes) (sym c.access.ensures) ∙ p.found in
    subst (λ (i : Index). stands_at i c.args.hits.now) same c.requires.stands

pub value-requires-clause-column : goal.value-requires-clause-column
value-requires-clause-column c =
    let s = c.args.self.now in
    let e = c.position-place.ensures in
    let at : Located s.accesses c.access.result c.position-place.result = record { within = e.within; found = e.found; has_id = e.has_id } in
    let p = place_in_part s.table s.rows s.accesses s.indexes c.access.result c.position-place.result s.kept at in
    subst (λ (a : Access). IsTrue (has_column (member_columns a) c.args.column))
    (sym (p.access_is ∙ ap (access_in s.accesses) c.access.ensures)) c.requires.column

pub returns : goal.returns
returns c =
    let s = c.args.self.now in
    let e = c.position-place.ensures in
    let at : Located s.accesses c.access.result c.position-place.result = record { within = e.within; found = e.found; has_id = e.has_id } in
    let p = place_in_part s.table s.rows s.accesses s.indexes c.access.result c.position-place.result s.kept at in
    let same : index_with_id s.indexes c.args.hits.now.access ≡ index_at s.indexes c.position-place.result =
    ap (index_with_id s.indexes) (sym c.access.ensures) ∙ p.found in
    let index = index_at s.indexes c.position-place.result in
    c.value.ensures
    ∙ ap (λ (a : Access). value_in (member_columns a) (get_or (members_at index c.args.hits.now) c.args.i []) c.args.column)
    (p.access_is ∙ ap (access_in s.accesses) c.access.ensures)
    ∙ ap (λ (i : Index). value_in (member_columns (access_in s.accesses c.args.hits.now.access)) (get_or (members_at i c.args.hits.now) c.args.i [])
    c.args.column) (sym same)

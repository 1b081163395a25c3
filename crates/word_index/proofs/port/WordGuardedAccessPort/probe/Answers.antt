use Rattle.std.proofs.Common.{◌≡◌, ◌∙◌, ◌≤◌, [], ap, sym, subst, get_or, length}
use Rattle.beas_core.specs.declared.schema.Access.{Access}
use Rattle.beas_core.specs.Derivations.{access_in}
use Rattle.beas_core.specs.Groups.{group_of}
use Rattle.access_index.specs.Index.{Index, members_at, stands_at}
use Rattle.catalogue.proofs.StoredFacts.{rows_at_stored}
use Rattle.update_guard.specs.Seen.{index_at}
use Rattle.update_guard.specs.Stored.{index_with_id}
use Rattle.word_index.proofs.PlaceFacts.{place_in_guard}
use Rattle.word_index.proofs.port.WordGuardedAccessPort.probe.Goals as goal

pub probe-requires-clause-within : goal.probe-requires-clause-within
probe-requires-clause-within g c =
    let s = c.args.self.now in
    let e = c.position-place.ensures in
    let p = place_in_guard s.catalogue s.rows s.indexes c.args.id c.position-place.result e.sound s.kept
    (record { within = e.within; found = e.found; has_id = e.has_id }) in
    p.within

pub probe-requires-clause-width : goal.probe-requires-clause-width
probe-requires-clause-width g c =
    let s = c.args.self.now in
    let e = c.position-place.ensures in
    let p = place_in_guard s.catalogue s.rows s.indexes c.args.id c.position-place.result e.sound s.kept
    (record { within = e.within; found = e.found; has_id = e.has_id }) in
    c.requires.width ∙ ap (λ (a : Access). length a.key) (sym p.access_is)

pub returns-clause-access : goal.returns-clause-access
returns-clause-access g c =
    let s = c.args.self.now in
    let e = c.position-place.ensures in
    let p = place_in_guard s.catalogue s.rows s.indexes c.args.id c.position-place.result e.sound s.kept
    (record { within = e.within; found = e.found; has_id = e.has_id }) in
    c.probe.ensures.access ∙ p.id_is

pub returns-clause-members : goal.returns-clause-members
returns-clause-members g c =
    let s = c.args.self.now in
    let e = c.position-place.ensures in
    let p = place_in_guard s.catalogue s.rows s.indexes c.args.id c.position-place.result e.sound s.kept
    (record { within = e.within; found = e.found; has_id = e.has_id }) in
    let same : index_with_id s.indexes c.probe.result.access ≡ index_at s.indexes c.position-place.result =
    ap (index_with_id s.indexes) (c.probe.ensures.access ∙ p.id_is) ∙ p.found in
    let a = access_in s.catalogue.accesses c.args.id in
    ap (λ i. members_at i c.probe.result) same ∙ c.probe.ensures.members (get_or s.rows a.table.0 []) p.index_is
    ∙ ap (λ x. group_of (get_or s.rows a.table.0 []) x c.args.key.now) p.access_is
    ∙ ap (λ rs. group_of rs a c.args.key.now) (sym (rows_at_stored s.catalogue s.rows a.table s.kept.tables))

pub returns-clause-len : goal.returns-clause-len
returns-clause-len g c =
    let s = c.args.self.now in
    let e = c.position-place.ensures in
    let p = place_in_guard s.catalogue s.rows s.indexes c.args.id c.position-place.result e.sound s.kept
    (record { within = e.within; found = e.found; has_id = e.has_id }) in
    let same : index_with_id s.indexes c.probe.result.access ≡ index_at s.indexes c.position-place.result =
    ap (index_with_id s.indexes) (c.probe.ensures.access ∙ p.id_is) ∙ p.found in
    c.probe.ensures.len ∙ ap (λ i. length (members_at i c.probe.result)) (sym same)

pub returns-clause-stands : goal.returns-clause-stands
returns-clause-stands g c =
    let s = c.args.self.now in
    let e = c.position-place.ensures in
    let p = place_in_guard s.catalogue s.rows s.indexes c.args.id c.position-place.result e.sound s.kept
    (record { within = e.within; found = e.found; has_id = e.has_id }) in
    let same : index_with_id s.indexes c.probe.result.access ≡ index_at s.indexes c.position-place.result =
    ap (index_with_id s.indexes) (c.probe.ensures.access ∙ p.id_is) ∙ p.found in
    subst (λ (i : Index). stands_at i c.probe.result) (sym same) c.probe.ensures.stands

pub returns-clause-bounded : goal.returns-clause-bounded
returns-clause-bounded g c =
    let s = c.args.self.now in
    let e = c.position-place.ensures in
    let p = place_in_guard s.catalogue s.rows s.indexes c.args.id c.position-place.result e.sound s.kept
    (record { within = e.within; found = e.found; has_id = e.has_id }) in
    let a = access_in s.catalogue.accesses c.args.id in
    let e = c.probe.ensures.len ∙ ap length (c.probe.ensures.members (get_or s.rows a.table.0 []) p.index_is
    ∙ ap (λ x. group_of (get_or s.rows a.table.0 []) x c.args.key.now) p.access_is) in
    subst (λ n. n ≤ a.bound) (sym e) (p.holds c.args.key.now)

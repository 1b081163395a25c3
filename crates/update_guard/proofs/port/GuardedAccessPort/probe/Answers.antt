use Rattle.std.proofs.Common.{◌≡◌, ◌∙◌, ◌≤◌, [], ap, sym, subst, get_or, length}
use Rattle.beas_core.specs.declared.schema.Access.{Access}
use Rattle.beas_core.specs.Derivations.{access_in}
use Rattle.beas_core.specs.Groups.{Holds, group_of}
use Rattle.access_index.specs.Index.{Index, IsIndexOf, members_at, stands_at}
use Rattle.update_guard.specs.Indexing.{no_access}
use Rattle.update_guard.specs.Stored.{index_with_id}
use Rattle.catalogue.proofs.StoredFacts.{rows_at_stored}
use Rattle.update_guard.proofs.PortFacts.{index_found, same_access}
use Rattle.update_guard.proofs.port.GuardedAccessPort.probe.Goals as goal

pub probe-requires : goal.probe-requires
probe-requires g c =
    let s = c.args.self.now in
    let p = c.position-place.ensures in
    let f = index_found s.catalogue s.rows s.indexes c.args.id c.position-place.result c.index-as_slice-place.result p.sound s.kept.indexed p.within p.found
    p.has_id
    (c.index-as_slice-place.is ∙ ap (λ xs. get_or xs c.position-place.result c.index-as_slice-place.result) c.as_slice.ensures) in
    c.requires.width ∙ ap (λ (a : Access). length a.key) (sym f.access_is)

pub returns-clause-access : goal.returns-clause-access
returns-clause-access g c =
    let s = c.args.self.now in
    let p = c.position-place.ensures in
    let f = index_found s.catalogue s.rows s.indexes c.args.id c.position-place.result c.index-as_slice-place.result p.sound s.kept.indexed p.within p.found
    p.has_id
    (c.index-as_slice-place.is ∙ ap (λ xs. get_or xs c.position-place.result c.index-as_slice-place.result) c.as_slice.ensures) in
    c.probe.ensures.access ∙ f.id_is

pub returns-clause-members : goal.returns-clause-members
returns-clause-members g c =
    let s = c.args.self.now in
    let p = c.position-place.ensures in
    let index = c.index-as_slice-place.result in
    let read = c.index-as_slice-place.is ∙ ap (λ xs. get_or xs c.position-place.result index) c.as_slice.ensures in
    let f = index_found s.catalogue s.rows s.indexes c.args.id c.position-place.result index p.sound s.kept.indexed p.within p.found p.has_id read in
    let a = access_in s.catalogue.accesses c.args.id in
    let same : index_with_id s.indexes c.probe.result.access ≡ index = ap (index_with_id s.indexes) (c.probe.ensures.access ∙ f.id_is) ∙ f.found in
    let at : get_or s.catalogue.accesses c.position-place.result no_access ≡ a = p.found no_access ∙ same_access s.catalogue.accesses c.args.id in
    let indexed = (s.kept.indexed.each c.position-place.result index no_access p.within).index_is in
    let own : IsIndexOf index (get_or s.rows a.table.0 []) =
    subst (λ (x : Index). IsIndexOf x (get_or s.rows a.table.0 [])) (sym read)
    (subst (λ (x : Access). IsIndexOf (get_or s.indexes c.position-place.result index) (get_or s.rows x.table.0 [])) at indexed) in
    ap (λ i. members_at i c.probe.result) same ∙ c.probe.ensures.members (get_or s.rows a.table.0 []) own
    ∙ ap (λ x. group_of (get_or s.rows a.table.0 []) x c.args.key.now) f.access_is
    ∙ ap (λ rs. group_of rs a c.args.key.now) (sym (rows_at_stored s.catalogue s.rows a.table s.kept.tables))

pub returns-clause-len : goal.returns-clause-len
returns-clause-len g c =
    let s = c.args.self.now in
    let p = c.position-place.ensures in
    let index = c.index-as_slice-place.result in
    let read = c.index-as_slice-place.is ∙ ap (λ xs. get_or xs c.position-place.result index) c.as_slice.ensures in
    let f = index_found s.catalogue s.rows s.indexes c.args.id c.position-place.result index p.sound s.kept.indexed p.within p.found p.has_id read in
    let same : index_with_id s.indexes c.probe.result.access ≡ index = ap (index_with_id s.indexes) (c.probe.ensures.access ∙ f.id_is) ∙ f.found in
    c.probe.ensures.len ∙ ap (λ i. length (members_at i c.probe.result)) (sym same)

pub returns-clause-stands : goal.returns-clause-stands
returns-clause-stands g c =
    let s = c.args.self.now in
    let p = c.position-place.ensures in
    let index = c.index-as_slice-place.result in
    let read = c.index-as_slice-place.is ∙ ap (λ xs. get_or xs c.position-place.result index) c.as_slice.ensures in
    let f = index_found s.catalogue s.rows s.indexes c.args.id c.position-place.result index p.sound s.kept.indexed p.within p.found p.has_id read in
    let same : index_with_id s.indexes c.probe.result.access ≡ index = ap (index_with_id s.indexes) (c.probe.ensures.access ∙ f.id_is) ∙ f.found in
    subst (λ (i : Index). stands_at i c.probe.result) (sym same) c.probe.ensures.stands

pub returns-clause-bounded : goal.returns-clause-bounded
returns-clause-bounded g c =
    let s = c.args.self.now in
    let p = c.position-place.ensures in
    let index = c.index-as_slice-place.result in
    let read = c.index-as_slice-place.is ∙ ap (λ xs. get_or xs c.position-place.result index) c.as_slice.ensures in
    let f = index_found s.catalogue s.rows s.indexes c.args.id c.position-place.result index p.sound s.kept.indexed p.within p.found p.has_id read in
    let a = access_in s.catalogue.accesses c.args.id in
    let at : get_or s.catalogue.accesses c.position-place.result no_access ≡ a = p.found no_access ∙ same_access s.catalogue.accesses c.args.id in
    let indexed = (s.kept.indexed.each c.position-place.result index no_access p.within).index_is in
    let own : IsIndexOf index (get_or s.rows a.table.0 []) =
    subst (λ (x : Index). IsIndexOf x (get_or s.rows a.table.0 [])) (sym read)
    (subst (λ (x : Access). IsIndexOf (get_or s.indexes c.position-place.result index) (get_or s.rows x.table.0 [])) at indexed) in
    let held : Holds (get_or s.rows a.table.0 []) a = subst (λ (x : Access). Holds (get_or s.rows x.table.0 []) x) at
    (s.kept.hold c.position-place.result no_access p.within) in
    let e = c.probe.ensures.len ∙ ap length (c.probe.ensures.members (get_or s.rows a.table.0 []) own
    ∙ ap (λ x. group_of (get_or s.rows a.table.0 []) x c.args.key.now) f.access_is) in
    subst (λ n. n ≤ a.bound) (sym e) (held c.args.key.now)

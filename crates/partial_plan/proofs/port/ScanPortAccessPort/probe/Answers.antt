use Rattle.std.proofs.Common.{◌≡◌, ◌∙◌, Some, None, ap, sym, subst, length, arith}
use Rattle.std.specs.Option.{option_copied}
use Rattle.beas_core.specs.declared.schema.Access.{Access}
use Rattle.beas_core.specs.Groups.{group_of}
use Rattle.partial_plan.specs.Scans.{StandsWith, index_with, members_with}
use Rattle.partial_plan.proofs.ScanFacts.{index_found, own_access, own_live}
use Rattle.partial_plan.proofs.port.ScanPortAccessPort.probe.Goals as goal

pub probe-requires : goal.probe-requires
probe-requires g c =
    let accesses = g.P.AccessPort.accesses c.args.self.now.port.now in
    let rows = g.P.AccessPort.rows c.args.self.now.port.now in
    let indexes = c.args.self.now.indexes.now in
    let found : index_with indexes c.args.id ≡ Some c.in-Some.index.now = sym c.index_with.ensures ∙ ap option_copied c.in-Some.is in
    let f = index_found accesses rows indexes c.args.self.now.stand c.args.id c.in-Some.index.now found in
    c.requires.width ∙ ap (λ (a : Access). length a.key) f.access

pub probe-requires-in-None-clause-live : goal.probe-requires-in-None-clause-live
probe-requires-in-None-clause-live g c =
    let accesses = g.P.AccessPort.accesses c.args.self.now.port.now in
    let rows = g.P.AccessPort.rows c.args.self.now.port.now in
    let indexes = c.args.self.now.indexes.now in
    let none : index_with indexes c.args.id ≡ None = sym c.index_with.ensures ∙ ap option_copied c.in-None.is in
    own_live accesses rows indexes c.args.self.now.stand c.args.id none c.requires.live

pub probe-requires-in-None-clause-width : goal.probe-requires-in-None-clause-width
probe-requires-in-None-clause-width g c =
    let accesses = g.P.AccessPort.accesses c.args.self.now.port.now in
    let rows = g.P.AccessPort.rows c.args.self.now.port.now in
    let indexes = c.args.self.now.indexes.now in
    let none : index_with indexes c.args.id ≡ None = sym c.index_with.ensures ∙ ap option_copied c.in-None.is in
    c.requires.width ∙ ap (λ (a : Access). length a.key) (own_access accesses rows indexes c.args.self.now.stand c.args.id none c.requires.live)

pub returns-in-Some-clause-access : goal.returns-in-Some-clause-access
returns-in-Some-clause-access g c =
    let accesses = g.P.AccessPort.accesses c.args.self.now.port.now in
    let rows = g.P.AccessPort.rows c.args.self.now.port.now in
    let indexes = c.args.self.now.indexes.now in
    let found : index_with indexes c.args.id ≡ Some c.in-Some.index.now = sym c.index_with.ensures ∙ ap option_copied c.in-Some.is in
    let f = index_found accesses rows indexes c.args.self.now.stand c.args.id c.in-Some.index.now found in
    c.probe.ensures.access ∙ f.id_is

pub returns-in-Some-clause-members : goal.returns-in-Some-clause-members
returns-in-Some-clause-members g c =
    let accesses = g.P.AccessPort.accesses c.args.self.now.port.now in
    let rows = g.P.AccessPort.rows c.args.self.now.port.now in
    let indexes = c.args.self.now.indexes.now in
    let found : index_with indexes c.args.id ≡ Some c.in-Some.index.now = sym c.index_with.ensures ∙ ap option_copied c.in-Some.is in
    let f = index_found accesses rows indexes c.args.self.now.stand c.args.id c.in-Some.index.now found in
    let id : c.probe.result.access ≡ c.args.id = c.probe.ensures.access ∙ f.id_is in
    let same : index_with indexes c.probe.result.access ≡ Some c.in-Some.index.now = ap (index_with indexes) id ∙ found in
    let other = g.P.AccessPort.members c.args.self.now.port.now c.probe.result in
    ap (λ o. members_with o c.probe.result other) same
    ∙ c.probe.ensures.members (rows c.in-Some.index.now.access.table) f.stands.index_is
    ∙ ap (λ (a : Access). group_of (rows a.table) a c.args.key.now) (sym f.access)

pub returns-in-Some-clause-len : goal.returns-in-Some-clause-len
returns-in-Some-clause-len g c =
    let accesses = g.P.AccessPort.accesses c.args.self.now.port.now in
    let rows = g.P.AccessPort.rows c.args.self.now.port.now in
    let indexes = c.args.self.now.indexes.now in
    let found : index_with indexes c.args.id ≡ Some c.in-Some.index.now = sym c.index_with.ensures ∙ ap option_copied c.in-Some.is in
    let f = index_found accesses rows indexes c.args.self.now.stand c.args.id c.in-Some.index.now found in
    let id : c.probe.result.access ≡ c.args.id = c.probe.ensures.access ∙ f.id_is in
    let same : index_with indexes c.probe.result.access ≡ Some c.in-Some.index.now = ap (index_with indexes) id ∙ found in
    let other = g.P.AccessPort.members c.args.self.now.port.now c.probe.result in
    c.probe.ensures.len ∙ ap (λ o. length (members_with o c.probe.result other)) (sym same)

pub returns-in-Some-clause-stands : goal.returns-in-Some-clause-stands
returns-in-Some-clause-stands g c =
    let accesses = g.P.AccessPort.accesses c.args.self.now.port.now in
    let rows = g.P.AccessPort.rows c.args.self.now.port.now in
    let indexes = c.args.self.now.indexes.now in
    let found : index_with indexes c.args.id ≡ Some c.in-Some.index.now = sym c.index_with.ensures ∙ ap option_copied c.in-Some.is in
    let f = index_found accesses rows indexes c.args.self.now.stand c.args.id c.in-Some.index.now found in
    let id : c.probe.result.access ≡ c.args.id = c.probe.ensures.access ∙ f.id_is in
    let same : index_with indexes c.probe.result.access ≡ Some c.in-Some.index.now = ap (index_with indexes) id ∙ found in
    let other = g.P.AccessPort.members c.args.self.now.port.now c.probe.result in
    subst (λ o. StandsWith o c.probe.result (g.P.AccessPort.stands c.args.self.now.port.now c.probe.result)) (sym same) c.probe.ensures.stands

pub returns-in-Some-clause-bounded : goal.returns-in-Some-clause-bounded
returns-in-Some-clause-bounded g c =
    let accesses = g.P.AccessPort.accesses c.args.self.now.port.now in
    let rows = g.P.AccessPort.rows c.args.self.now.port.now in
    let indexes = c.args.self.now.indexes.now in
    let found : index_with indexes c.args.id ≡ Some c.in-Some.index.now = sym c.index_with.ensures ∙ ap option_copied c.in-Some.is in
    let f = index_found accesses rows indexes c.args.self.now.stand c.args.id c.in-Some.index.now found in
    let members = ap length (c.probe.ensures.members (rows c.in-Some.index.now.access.table) f.stands.index_is) in
    let few = f.stands.holds c.args.key.now in
    omega (arith, c.probe.ensures.len, members, few, ap (λ (a : Access). a.bound) f.access)

pub returns-in-None-clause-members : goal.returns-in-None-clause-members
returns-in-None-clause-members g c =
    let accesses = g.P.AccessPort.accesses c.args.self.now.port.now in
    let rows = g.P.AccessPort.rows c.args.self.now.port.now in
    let indexes = c.args.self.now.indexes.now in
    let none : index_with indexes c.args.id ≡ None = sym c.index_with.ensures ∙ ap option_copied c.in-None.is in
    let id = c.probe-in-None.ensures.access in
    let other = g.P.AccessPort.members c.args.self.now.port.now c.probe-in-None.result in
    ap (λ o. members_with o c.probe-in-None.result other) (ap (index_with indexes) id ∙ none) ∙ c.probe-in-None.ensures.members
    ∙ ap (λ (a : Access). group_of (rows a.table) a c.args.key.now) (sym (own_access accesses rows indexes c.args.self.now.stand c.args.id none c.requires.live))

pub returns-in-None-clause-len : goal.returns-in-None-clause-len
returns-in-None-clause-len g c =
    let accesses = g.P.AccessPort.accesses c.args.self.now.port.now in
    let rows = g.P.AccessPort.rows c.args.self.now.port.now in
    let indexes = c.args.self.now.indexes.now in
    let none : index_with indexes c.args.id ≡ None = sym c.index_with.ensures ∙ ap option_copied c.in-None.is in
    let other = g.P.AccessPort.members c.args.self.now.port.now c.probe-in-None.result in
    c.probe-in-None.ensures.len
    ∙ ap (λ o. length (members_with o c.probe-in-None.result other)) (sym (ap (index_with indexes) c.probe-in-None.ensures.access ∙ none))

pub returns-in-None-clause-stands : goal.returns-in-None-clause-stands
returns-in-None-clause-stands g c =
    let accesses = g.P.AccessPort.accesses c.args.self.now.port.now in
    let rows = g.P.AccessPort.rows c.args.self.now.port.now in
    let indexes = c.args.self.now.indexes.now in
    let none : index_with indexes c.args.id ≡ None = sym c.index_with.ensures ∙ ap option_copied c.in-None.is in
    subst (λ o. StandsWith o c.probe-in-None.result (g.P.AccessPort.stands c.args.self.now.port.now c.probe-in-None.result))
    (sym (ap (index_with indexes) c.probe-in-None.ensures.access ∙ none)) c.probe-in-None.ensures.stands

pub returns-in-None-clause-bounded : goal.returns-in-None-clause-bounded
returns-in-None-clause-bounded g c =
    let accesses = g.P.AccessPort.accesses c.args.self.now.port.now in
    let rows = g.P.AccessPort.rows c.args.self.now.port.now in
    let indexes = c.args.self.now.indexes.now in
    let none : index_with indexes c.args.id ≡ None = sym c.index_with.ensures ∙ ap option_copied c.in-None.is in
    let same = ap (λ (a : Access). a.bound) (own_access accesses rows indexes c.args.self.now.stand c.args.id none c.requires.live) in
    omega (arith, c.probe-in-None.ensures.bounded, same)

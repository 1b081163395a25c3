use Rattle.std.proofs.Common.{◌≡◌, ◌≤◌, ◌∙◌, Some, None, ap, sym, subst}
use Rattle.std.specs.Option.{option_copied}
use Rattle.beas_core.specs.declared.schema.Access.{Access}
use Rattle.beas_core.specs.Groups.{Holds}
use Rattle.partial_plan.specs.Scans.{index_with}
use Rattle.partial_plan.proofs.ScanFacts.{index_found, own_access, own_live}
use Rattle.partial_plan.proofs.port.ScanPortAccessPort.access.Goals as goal

pub access-requires-in-None : goal.access-requires-in-None
access-requires-in-None g c =
    let accesses = g.P.AccessPort.accesses c.args.self.now.port.now in
    let rows = g.P.AccessPort.rows c.args.self.now.port.now in
    let indexes = c.args.self.now.indexes.now in
    let none : index_with indexes c.args.id ≡ None = sym c.index_with.ensures ∙ ap option_copied c.in-None.is in
    own_live accesses rows indexes c.args.self.now.stand c.args.id none c.requires

pub returns-in-Some-clause-access : goal.returns-in-Some-clause-access
returns-in-Some-clause-access g c =
    let accesses = g.P.AccessPort.accesses c.args.self.now.port.now in
    let rows = g.P.AccessPort.rows c.args.self.now.port.now in
    let indexes = c.args.self.now.indexes.now in
    let found : index_with indexes c.args.id ≡ Some c.in-Some.index.now = sym c.index_with.ensures ∙ ap option_copied c.in-Some.is in
    let f = index_found accesses rows indexes c.args.self.now.stand c.args.id c.in-Some.index.now found in
    c.access.ensures ∙ sym f.access

pub returns-in-Some-clause-holds : goal.returns-in-Some-clause-holds
returns-in-Some-clause-holds g c =
    let accesses = g.P.AccessPort.accesses c.args.self.now.port.now in
    let rows = g.P.AccessPort.rows c.args.self.now.port.now in
    let indexes = c.args.self.now.indexes.now in
    let found : index_with indexes c.args.id ≡ Some c.in-Some.index.now = sym c.index_with.ensures ∙ ap option_copied c.in-Some.is in
    let f = index_found accesses rows indexes c.args.self.now.stand c.args.id c.in-Some.index.now found in
    subst (λ (a : Access). Holds (rows a.table) a) (sym c.access.ensures) f.stands.holds

pub returns-in-Some-clause-bound : goal.returns-in-Some-clause-bound
returns-in-Some-clause-bound g c =
    let accesses = g.P.AccessPort.accesses c.args.self.now.port.now in
    let rows = g.P.AccessPort.rows c.args.self.now.port.now in
    let indexes = c.args.self.now.indexes.now in
    let found : index_with indexes c.args.id ≡ Some c.in-Some.index.now = sym c.index_with.ensures ∙ ap option_copied c.in-Some.is in
    let f = index_found accesses rows indexes c.args.self.now.stand c.args.id c.in-Some.index.now found in
    subst (λ (a : Access). 1 ≤ a.bound) (sym c.access.ensures) f.stands.bound

pub returns-in-None-clause-access : goal.returns-in-None-clause-access
returns-in-None-clause-access g c =
    let accesses = g.P.AccessPort.accesses c.args.self.now.port.now in
    let rows = g.P.AccessPort.rows c.args.self.now.port.now in
    let indexes = c.args.self.now.indexes.now in
    let none : index_with indexes c.args.id ≡ None = sym c.index_with.ensures ∙ ap option_copied c.in-None.is in
    c.access-in-None.ensures.access ∙ sym (own_access accesses rows indexes c.args.self.now.stand c.args.id none c.requires)

use Rattle.std.proofs.Common.{◌≡◌, ◌∙◌, [], Some, None, true, ap, sym, subst, get_or}
use Rattle.std.specs.Option.{option_copied}
use Rattle.beas_core.specs.declared.schema.Access.{Access}
use Rattle.beas_core.specs.Groups.{has_column, member_columns, value_in}
use Rattle.beas_core.specs.Derivations.{access_in}
use Rattle.access_index.specs.Index.{members_at}
use Rattle.partial_plan.specs.Scans.{StandsWith, accesses_with, index_with, members_with}
use Rattle.partial_plan.proofs.ScanFacts.{index_found, own_access, own_live}
use Rattle.partial_plan.proofs.port.ScanPortAccessPort.value.Goals as goal

pub value-requires-clause-stands : goal.value-requires-clause-stands
value-requires-clause-stands g c =
    let accesses = g.P.AccessPort.accesses c.args.self.now.port.now in
    let rows = g.P.AccessPort.rows c.args.self.now.port.now in
    let indexes = c.args.self.now.indexes.now in
    let found : index_with indexes c.args.hits.now.access ≡ Some c.in-Some.index.now = sym (ap (index_with indexes) c.access.ensures) ∙ sym c.index_with.ensures ∙ ap option_copied c.in-Some.is in
    let f = index_found accesses rows indexes c.args.self.now.stand c.args.hits.now.access c.in-Some.index.now found in
    subst (λ o. StandsWith o c.args.hits.now (g.P.AccessPort.stands c.args.self.now.port.now c.args.hits.now)) found c.requires.stands

pub value-requires-clause-column : goal.value-requires-clause-column
value-requires-clause-column g c =
    let accesses = g.P.AccessPort.accesses c.args.self.now.port.now in
    let rows = g.P.AccessPort.rows c.args.self.now.port.now in
    let indexes = c.args.self.now.indexes.now in
    let found : index_with indexes c.args.hits.now.access ≡ Some c.in-Some.index.now = sym (ap (index_with indexes) c.access.ensures) ∙ sym c.index_with.ensures ∙ ap option_copied c.in-Some.is in
    let f = index_found accesses rows indexes c.args.self.now.stand c.args.hits.now.access c.in-Some.index.now found in
    subst (λ (a : Access). has_column (member_columns a) c.args.column ≡ true) f.access c.requires.column

pub value-requires-in-None-clause-live : goal.value-requires-in-None-clause-live
value-requires-in-None-clause-live g c =
    let accesses = g.P.AccessPort.accesses c.args.self.now.port.now in
    let rows = g.P.AccessPort.rows c.args.self.now.port.now in
    let indexes = c.args.self.now.indexes.now in
    let none : index_with indexes c.args.hits.now.access ≡ None = sym (ap (index_with indexes) c.access.ensures) ∙ sym c.index_with.ensures ∙ ap option_copied c.in-None.is in
    own_live accesses rows indexes c.args.self.now.stand c.args.hits.now.access none c.requires.live

pub value-requires-in-None-clause-stands : goal.value-requires-in-None-clause-stands
value-requires-in-None-clause-stands g c =
    let accesses = g.P.AccessPort.accesses c.args.self.now.port.now in
    let rows = g.P.AccessPort.rows c.args.self.now.port.now in
    let indexes = c.args.self.now.indexes.now in
    let none : index_with indexes c.args.hits.now.access ≡ None = sym (ap (index_with indexes) c.access.ensures) ∙ sym c.index_with.ensures ∙ ap option_copied c.in-None.is in
    subst (λ o. StandsWith o c.args.hits.now (g.P.AccessPort.stands c.args.self.now.port.now c.args.hits.now)) none c.requires.stands

pub value-requires-in-None-clause-column : goal.value-requires-in-None-clause-column
value-requires-in-None-clause-column g c =
    let accesses = g.P.AccessPort.accesses c.args.self.now.port.now in
    let rows = g.P.AccessPort.rows c.args.self.now.port.now in
    let indexes = c.args.self.now.indexes.now in
    let none : index_with indexes c.args.hits.now.access ≡ None = sym (ap (index_with indexes) c.access.ensures) ∙ sym c.index_with.ensures ∙ ap option_copied c.in-None.is in
    subst (λ (a : Access). has_column (member_columns a) c.args.column ≡ true) (own_access accesses rows indexes c.args.self.now.stand c.args.hits.now.access none c.requires.live)
    c.requires.column

pub returns-in-Some : goal.returns-in-Some
returns-in-Some g c =
    let accesses = g.P.AccessPort.accesses c.args.self.now.port.now in
    let rows = g.P.AccessPort.rows c.args.self.now.port.now in
    let indexes = c.args.self.now.indexes.now in
    let found : index_with indexes c.args.hits.now.access ≡ Some c.in-Some.index.now = sym (ap (index_with indexes) c.access.ensures) ∙ sym c.index_with.ensures ∙ ap option_copied c.in-Some.is in
    let f = index_found accesses rows indexes c.args.self.now.stand c.args.hits.now.access c.in-Some.index.now found in
    let other = g.P.AccessPort.members c.args.self.now.port.now c.args.hits.now in
    let members = members_at c.in-Some.index.now c.args.hits.now in
    c.value.ensures
    ∙ ap (λ (a : Access). value_in (member_columns a) (get_or members c.args.i []) c.args.column) (sym f.access)
    ∙ ap (λ o. value_in (member_columns (access_in (accesses_with accesses indexes) c.args.hits.now.access)) (get_or (members_with o c.args.hits.now other) c.args.i []) c.args.column)
    (sym found)

pub returns-in-None : goal.returns-in-None
returns-in-None g c =
    let accesses = g.P.AccessPort.accesses c.args.self.now.port.now in
    let rows = g.P.AccessPort.rows c.args.self.now.port.now in
    let indexes = c.args.self.now.indexes.now in
    let none : index_with indexes c.args.hits.now.access ≡ None = sym (ap (index_with indexes) c.access.ensures) ∙ sym c.index_with.ensures ∙ ap option_copied c.in-None.is in
    let other = g.P.AccessPort.members c.args.self.now.port.now c.args.hits.now in
    let members = other in
    c.value-in-None.ensures
    ∙ ap (λ (a : Access). value_in (member_columns a) (get_or members c.args.i []) c.args.column) (sym (own_access accesses rows indexes c.args.self.now.stand c.args.hits.now.access none c.requires.live))
    ∙ ap (λ o. value_in (member_columns (access_in (accesses_with accesses indexes) c.args.hits.now.access)) (get_or (members_with o c.args.hits.now other) c.args.i []) c.args.column)
    (sym none)

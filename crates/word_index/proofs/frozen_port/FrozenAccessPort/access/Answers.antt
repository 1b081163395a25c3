use Rattle.std.proofs.Common.{◌≡◌, ◌∙◌, ◌≤◌, List, ap, sym, subst, get_or}
use Rattle.beas_core.specs.declared.schema.Access.{Access}
use Rattle.beas_core.specs.Types.{Row}
use Rattle.beas_core.specs.Groups.{Holds}
use Rattle.update_guard.specs.Seen.{no_index}
use Rattle.update_guard.proofs.PortFacts.{same_access}
use Rattle.word_index.proofs.PartFacts.{own_rows}
use Rattle.word_index.proofs.frozen_port.FrozenAccessPort.access.Goals as goal

pub returns-clause-access : goal.returns-clause-access
returns-clause-access c =
    let own = c.index-accesses-position.result in
    c.index-accesses-position.is ∙ ap (λ xs. get_or xs c.position.result own) c.as_slice-accesses.ensures ∙ c.position.ensures.found own
    ∙ same_access c.args.self.now.accesses c.args.id

pub returns-clause-holds : goal.returns-clause-holds
returns-clause-holds c =
    let own = c.index-accesses-position.result in
    let s = c.args.self.now in
    let at : get_or s.accesses c.position.result own ≡ own = sym (c.index-accesses-position.is ∙ ap (λ xs. get_or xs c.position.result own) c.as_slice-accesses.ensures) in
    let kept = s.kept.each c.position.result no_index own c.position.ensures.within in
    subst (λ (rs : List Row). Holds rs own) (sym (own_rows s.table s.rows own.table (ap (λ (a : Access). a.table) (sym at) ∙ kept.on)))
    (subst (λ (a : Access). Holds s.rows a) at kept.holds)

pub returns-clause-bound : goal.returns-clause-bound
returns-clause-bound c =
    let own = c.index-accesses-position.result in
    let s = c.args.self.now in
    let at : get_or s.accesses c.position.result own ≡ own = sym (c.index-accesses-position.is ∙ ap (λ xs. get_or xs c.position.result own) c.as_slice-accesses.ensures) in
    subst (λ (a : Access). 1 ≤ a.bound) at (s.kept.each c.position.result no_index own c.position.ensures.within).bound

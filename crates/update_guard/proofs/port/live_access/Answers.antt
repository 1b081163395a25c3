use Rattle.std.proofs.Common.{◌≡◌, ◌∙◌, ◌≤◌, List, [], ap, sym, subst, get_or}
use Rattle.beas_core.specs.declared.schema.Access.{Access}
use Rattle.beas_core.specs.Types.{Row}
use Rattle.beas_core.specs.Groups.{Holds}
use Rattle.catalogue.proofs.StoredFacts.{rows_at_stored}
use Rattle.update_guard.proofs.PortFacts.{same_access}
use Rattle.update_guard.proofs.port.live_access.Goals as goal

pub returns-clause-access : goal.returns-clause-access
returns-clause-access c =
    let own = c.index-accesses-position.result in
    c.index-accesses-position.is ∙ ap (λ xs. get_or xs c.position.result own) (c.as_slice-accesses.ensures ∙ c.accesses.ensures.accesses) ∙ c.position.ensures.found own
    ∙ same_access c.args.catalogue.now.accesses c.args.id

pub returns-clause-holds : goal.returns-clause-holds
returns-clause-holds c rows indexes kept =
    let own = c.index-accesses-position.result in
    let schema = c.args.catalogue.now in
    let at : get_or schema.accesses c.position.result own ≡ own = sym
    (c.index-accesses-position.is ∙ ap (λ xs. get_or xs c.position.result own) (c.as_slice-accesses.ensures ∙ c.accesses.ensures.accesses)) in
    let P : Access → Type 0 = λ a. Holds (get_or rows a.table.0 []) a in
    subst (λ (rs : List Row). Holds rs own) (sym (rows_at_stored schema rows own.table kept.tables))
    (subst P at (kept.hold c.position.result own c.position.ensures.within))

pub returns-clause-bound : goal.returns-clause-bound
returns-clause-bound c =
    let own = c.index-accesses-position.result in
    let schema = c.args.catalogue.now in
    let at : get_or schema.accesses c.position.result own ≡ own = sym
    (c.index-accesses-position.is ∙ ap (λ xs. get_or xs c.position.result own) (c.as_slice-accesses.ensures ∙ c.accesses.ensures.accesses)) in
    subst (λ (a : Access). 1 ≤ a.bound) at (c.accesses.ensures.sound.accesses c.position.result own c.position.ensures.within).form.bound

use Rattle.std.proofs.Common.{arith}
use Rattle.std.proofs.lemmas.Result.{err_from_is_err_and}
use Rattle.session.proofs.StoreFacts.{as_many_tables, resolve_denied, resolve_found}
use Rattle.session.proofs.discovery.resolve_names.Goals as goal

pub returns-in_err-table-clause-found : goal.returns-in_err-table-clause-found
returns-in_err-table-clause-found c =
    let p = err_from_is_err_and c.from_residual.result c.from_residual.ensures.1 in
    rw (p.1, p.2)
    (resolve_denied c.args.store.now c.args.table.now c.args.key.now c.args.fetched.now c.in_err-table.field-0.0 c.in_err-table.ensures.refused)

pub returns-clause-found : goal.returns-clause-found
returns-clause-found c =
    let out = c.in_ok-table.ensures in
    resolve_found c.args.store.now c.args.table.now c.args.key.now c.args.fetched.now c.in_ok-table.table c.in_ok-table.key c.in_ok-table.fetched
    out.refused out.table out.key out.fetched

pub returns-clause-live : goal.returns-clause-live
returns-clause-live c = omega (arith, c.in_ok-table.ensures.live, as_many_tables c.args.store.now)

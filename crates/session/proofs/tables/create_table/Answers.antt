use Rattle.std.proofs.Common.{◌∙◌}
use Rattle.std.proofs.lemmas.Result.{err_from_is_err_and}
use Rattle.session.specs.Stores.{database_in}
use Rattle.session.proofs.CarryFacts.{create_denied}
use Rattle.session.proofs.tables.create_table.Goals as goal

pub returns-in_err-create_table-clause-carried : goal.returns-in_err-create_table-clause-carried
returns-in_err-create_table-clause-carried c =
    let p = err_from_is_err_and c.from_residual-in_err-create_table.result c.from_residual-in_err-create_table.ensures.1 in
    rw (p.1, p.2)
    (create_denied c.args.limits.now (database_in c.args.store.now)
    (database_in c.create_table.new.self) c.in_ok-name.name c.args.name.now c.in_ok-columns.columns
    c.args.columns.now c.in_err-create_table.field-0.0 c.in_ok-name.ensures (c.in_ok-columns.ensures ∙ c.as_slice.ensures)
    c.in_err-create_table.ensures.refused c.in_err-create_table.ensures.err)

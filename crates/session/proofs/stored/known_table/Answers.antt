use Rattle.std.proofs.Common.{◌∙◌, ap, sym, arith, Err}
use Rattle.beas_core.specs.declared.refusal.Refusal.TheVariants.{UnknownTable}
use Rattle.session.proofs.StoreFacts.{as_many_tables, table_found, table_missing}
use Rattle.session.proofs.stored.known_table.Goals as goal

pub returns-in-Some-clause-found : goal.returns-in-Some-clause-found
returns-in-Some-clause-found c = table_found c.args.store.now c.args.name.now c.in-Some.id c.in-Some.ensures.named

pub returns-in-Some-clause-live : goal.returns-in-Some-clause-live
returns-in-Some-clause-live c = omega (arith, as_many_tables c.args.store.now, c.in-Some.ensures.live)

pub returns-in_ok-copy-in-None-clause-found : goal.returns-in_ok-copy-in-None-clause-found
returns-in_ok-copy-in-None-clause-found c =
    table_missing c.args.store.now c.args.name.now c.in-None.ensures.named ∙ ap (λ n. Err (UnknownTable n)) (sym c.in_ok-copy-in-None.ensures)

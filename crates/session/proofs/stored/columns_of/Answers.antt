use Rattle.std.proofs.Common.{◌∙◌, sym, arith}
use Rattle.session.proofs.StoreFacts.{as_many_tables, columns_are}
use Rattle.session.proofs.stored.columns_of.Goals as goal

pub columns-requires : goal.columns-requires
columns-requires c = omega (arith, c.requires, as_many_tables c.args.store.now)

pub returns-clause-columns : goal.returns-clause-columns
returns-clause-columns c = c.columns.ensures.columns ∙ sym (columns_are c.args.store.now c.args.id)

use Rattle.word_index.proofs.guarded.WordGuarded.create_table.Goals as goal

pub create_table-requires-clause-tables : goal.create_table-requires-clause-tables
create_table-requires-clause-tables c = c.args.self.now.kept.tables

pub invariant_of-self : goal.invariant_of-self
invariant_of-self c = record { kept = c.create_table.ensures.guarded c.args.self.now.indexes c.args.self.now.kept }

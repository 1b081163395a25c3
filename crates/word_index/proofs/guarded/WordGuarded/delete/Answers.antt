use Rattle.word_index.proofs.guarded.WordGuarded.delete.Goals as goal

pub delete-requires-clause-kept : goal.delete-requires-clause-kept
delete-requires-clause-kept g c = c.args.self.now.kept

pub invariant_of-self : goal.invariant_of-self
invariant_of-self g c = record { kept = c.delete.ensures.guarded }

use Rattle.word_index.proofs.guarded.WordGuarded.insert.Goals as goal

pub insert-requires-clause-kept : goal.insert-requires-clause-kept
insert-requires-clause-kept c = c.args.self.now.kept

pub invariant_of-self : goal.invariant_of-self
invariant_of-self c = record { kept = c.insert.ensures.guarded }

use Rattle.code_index.proofs.SpellingFacts.{few_columns}
use Rattle.word_index.proofs.bulk.index_over.Goals as goal

pub new-index-requires : goal.new-index-requires
new-index-requires c = few_columns 64 c.args.access.key c.requires.form.key_once c.requires.form.key_columns

pub add_all-requires-clause-in_order : goal.add_all-requires-clause-in_order
add_all-requires-clause-in_order c = c.new-index.ensures.in_order c.args.codes.now c.requires.distinct

pub add_all-requires-clause-none : goal.add_all-requires-clause-none
add_all-requires-clause-none c = c.new-index.ensures.index c.args.codes.now

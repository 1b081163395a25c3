use Rattle.indexmap.specs.Layout.{length-set_value_at}
use Rattle.labelled_list.proofs.OrderFacts.{written}
use Rattle.labelled_list.proofs.places.write.Goals as goal

pub returns-clause-same_length : goal.returns-clause-same_length
returns-clause-same_length c = length-set_value_at c.args.tuples.now.entries c.get.result.now.entry c.args.standing

pub returns-clause-written : goal.returns-clause-written
returns-clause-written c = written c.args.tuples.now.entries c.args.slots.now c.args.at c.get.result.now c.args.standing c.requires.places c.requires.within c.get.ensures

use Rattle.labelled_list.proofs.KeyFacts.{items_distinct}
use Rattle.labelled_list.proofs.labelled.LabelledList.len.Goals as goal

pub returns-clause-distinct : goal.returns-clause-distinct
returns-clause-distinct c = items_distinct c.self.inside.tuples.entries c.self.inside.slots c.args.self.now c.self.invariant.places c.len.ensures.unique c.self.view_is

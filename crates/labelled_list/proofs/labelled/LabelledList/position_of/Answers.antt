use Rattle.labelled_list.proofs.KeyFacts.{none_seen, one_seen}
use Rattle.labelled_list.proofs.labelled.LabelledList.position_of.Goals as goal

pub returns-in-None : goal.returns-in-None
returns-in-None c =
    none_seen c.self.inside.tuples.entries c.self.inside.slots c.args.self.now c.args.codes.now c.self.invariant.places c.self.view_is c.in-None.ensures.index

pub returns-in-Some : goal.returns-in-Some
returns-in-Some c =
    one_seen c.self.inside.tuples.entries c.self.inside.slots c.args.self.now c.args.codes.now c.in-Some.entry c.position_of_entry.result c.self.view_is
    c.in-Some.ensures.index
    c.position_of_entry.ensures.within c.position_of_entry.ensures.named

use Rattle.std.proofs.Common.{ap}
use Rattle.labelled_list.specs.declared.slot.Standing.{Standing}
use Rattle.labelled_list.proofs.LabelFacts.{parted, place_is, value_at}
use Rattle.labelled_list.proofs.places.position_of_entry.Goals as goal

pub partition_point-requires : goal.partition_point-requires
partition_point-requires c = parted c.args.tuples.now.entries c.args.slots.now c.requires.labelled c.index.result.now.label

pub returns-clause-within : goal.returns-clause-within
returns-clause-within c =
    (place_is c.args.tuples.now.entries c.args.slots.now c.requires.labelled c.args.entry c.index.result.now.label c.partition_point.result c.requires.within
    (ap (λ (s : Standing). s.label) (value_at c.args.tuples.now.entries c.args.entry c.index.result.now c.index.ensures)) c.partition_point.ensures).0

pub returns-clause-named : goal.returns-clause-named
returns-clause-named c =
    (place_is c.args.tuples.now.entries c.args.slots.now c.requires.labelled c.args.entry c.index.result.now.label c.partition_point.result c.requires.within
    (ap (λ (s : Standing). s.label) (value_at c.args.tuples.now.entries c.args.entry c.index.result.now c.index.ensures)) c.partition_point.ensures).1

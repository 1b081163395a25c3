use Rattle.std.proofs.Common.{◌∙◌}
use Rattle.labelled_list.proofs.SearchFacts.{slots_counted, slots_parted}
use Rattle.labelled_list.proofs.labelled.LabelledList.partition_point.Goals as goal

pub partition_point-requires : goal.partition_point-requires
partition_point-requires g c =
    slots_parted (g.B.Before.before c.args.wanted.now) c.self.inside.tuples.entries c.self.inside.slots c.self.invariant.places c.args.self.now c.self.view_is c.requires

pub returns : goal.returns
returns g c =
    c.partition_point.ensures
    ∙ slots_counted (g.B.Before.before c.args.wanted.now) c.self.inside.tuples.entries c.self.inside.slots c.self.invariant.places c.args.self.now c.self.view_is

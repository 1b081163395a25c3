use Rattle.std.proofs.Common.{◌∙◌}
use Rattle.reference_normal_form.proofs.Joins.{class_by_groups}
use Rattle.reference_normal_form.proofs.normal.class_of.Goals as goal

pub returns : goal.returns
returns c = c.position.ensures.first ∙ class_by_groups c.args.block.now c.args.groups.now c.args.place c.requires.groups

use Rattle.std.proofs.Common.{Some, ap, ◌++◌, ◌∙◌}
use Rattle.beas_core.specs.Coverage.{covered_set}
use Rattle.beas_core.specs.Classes.{normal_of}
use Rattle.beas_core.specs.Guiding.{task_start}
use Rattle.plan_builder.specs.Parts.{task_at}
use Rattle.plan_builder.proofs.PreparationFacts.{open_is_place}
use Rattle.plan_builder.proofs.preparation.not_covered.Goals as goal

pub column_name-requires-clause-place : goal.column_name-requires-clause-place
column_name-requires-clause-place c =
    let live = c.args.catalogue.now.accesses in
    let accesses = live ++ c.args.at.extra.now in
    open_is_place c.args.at.block.now accesses (covered_set (normal_of c.args.at.block.now) accesses (task_start (task_at live c.args.at)))
    c.in-ColumnOpen.atom c.in-ColumnOpen.column (c.requires.why ∙ ap Some c.in-ColumnOpen.is)

use Rattle.std.proofs.Common.{◌∙◌, List, [], ap, get_or}
use Rattle.beas_core.specs.declared.plan.Normal.{Normal}
use Rattle.plan_ops.proofs.TreeFacts.{at_number}
use Rattle.cursor_executor.proofs.courses.block_at.Goals as goal

pub returns : goal.returns
returns c =
    let none : Normal = record { atoms = []; classes = []; count = 0; constants = []; needed = []; comparisons = []; output = [] } in
    let found = c.index-as_slice-at.result in
    at_number c.args.prepared.now.normals c.args.at found none c.requires
    (c.index-as_slice-at.is ∙ ap (λ (ns : List Normal). get_or ns c.args.at found) c.as_slice.ensures)

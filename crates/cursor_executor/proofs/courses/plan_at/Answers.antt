use Rattle.std.proofs.Common.{◌∙◌, List, [], ap, get_or}
use Rattle.beas_core.specs.declared.plan.Derivation.{Derivation}
use Rattle.plan_ops.proofs.TreeFacts.{at_number}
use Rattle.cursor_executor.proofs.courses.plan_at.Goals as goal

pub returns : goal.returns
returns c =
    let found = c.index-as_slice-at.result in
    c.as_slice-2.ensures ∙ ap (λ (d : Derivation). d.steps) (at_number c.args.prepared.now.derivations c.args.at found (record { steps = [] }) c.requires
    (c.index-as_slice-at.is ∙ ap (λ (ps : List Derivation). get_or ps c.args.at found) c.as_slice.ensures))

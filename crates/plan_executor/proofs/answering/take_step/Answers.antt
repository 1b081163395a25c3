use Rattle.std.proofs.Common.{ap, sym, subst, ◌∙◌, false}
use Rattle.std.specs.Prelude.{replicate}
use Rattle.std.proofs.lemmas.List.{length-replicate}
use Rattle.beas_core.specs.Derivations.{bound_by, member_classes, use_of}
use Rattle.beas_core.specs.Extensions.{keep_met}
use Rattle.beas_core.proofs.ClassSetFacts.{length-with}
use Rattle.plan_ops.specs.Over.{IsOver, bound_set}
use Rattle.plan_ops.proofs.BoundSets.{bound_set_is}
use Rattle.plan_executor.proofs.answering.take_step.Goals as goal

pub keep-requires : goal.keep-requires
keep-requires g c =
    let normal = c.args.block.now in
    let accesses = g.P.AccessPort.accesses c.args.port.now in
    let before = bound_set normal c.args.from.now in
    let counted = length-with (member_classes normal (use_of accesses c.args.step.now)) before
    ∙ length-with c.args.from.now.classes (replicate normal.count false) ∙ length-replicate normal.count false in
    let set = bound_set_is normal (bound_by normal accesses before c.args.step.now) c.in_ok-found.found counted c.in_ok-found.ensures.over in
    subst (λ s. IsOver s c.in_ok-found.found) (sym set) c.in_ok-found.ensures.over

pub returns-clause-rows : goal.returns-clause-rows
returns-clause-rows g c =
    let normal = c.args.block.now in
    let accesses = g.P.AccessPort.accesses c.args.port.now in
    let before = bound_set normal c.args.from.now in
    let set = bound_by normal accesses before c.args.step.now in
    let counted = length-with (member_classes normal (use_of accesses c.args.step.now)) before
    ∙ length-with c.args.from.now.classes (replicate normal.count false) ∙ length-replicate normal.count false in
    c.keep.ensures.rows
    ∙ ap (λ s. keep_met normal s c.in_ok-found.found.rows) (bound_set_is normal set c.in_ok-found.found counted c.in_ok-found.ensures.over)
    ∙ ap (keep_met normal set) c.in_ok-found.ensures.rows

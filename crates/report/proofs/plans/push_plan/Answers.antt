use Rattle.std.proofs.Common.{◌++◌, arith}
use Rattle.report.proofs.PlanFacts.{plan_whole, told}
use Rattle.report.proofs.plans.push_plan.Goals as goal

pub push_blocks-requires-clause-told : goal.push_blocks-requires-clause-told
push_blocks-requires-clause-told c =
    rw (c.as_slice-derivations.ensures, c.as_slice-guided.ensures)
    (told (c.args.catalogue.now.accesses ++ c.args.scans.now) c.args.prepared.now c.requires.plan (omega arith))

pub returns : goal.returns
returns c =
    let lines = rw (c.new.ensures, c.as_slice-derivations.ensures, c.as_slice-guided.ensures) at c.in_ok-push_blocks.ensures.text in
    plan_whole c.args.catalogue.now (c.args.catalogue.now.accesses ++ c.args.scans.now) c.args.prepared.now _ _ _ _ _ lines c.in_ok-push_str.ensures.ok
    c.in_ok-push_answer.ensures.text c.in_ok-push_str-2.ensures.ok

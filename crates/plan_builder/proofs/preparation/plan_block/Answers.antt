use Rattle.std.proofs.Common.{◌<◌, ◌≤◌, length, ap, sym, subst, arith}
use Rattle.beas_core.specs.declared.plan.Normal.{Normal}
use Rattle.beas_core.specs.Coverage.{ClassesInRange}
use Rattle.beas_core.proofs.ClassFacts.{classes_in_range}
use Rattle.plan_builder.proofs.PreparationFacts.{as_many_needed, atoms_are}
use Rattle.plan_builder.proofs.preparation.plan_block.Goals as goal

pub plan_among-requires-clause-ranges : goal.plan_among-requires-clause-ranges
plan_among-requires-clause-ranges c =
    subst ClassesInRange (sym c.in_ok-normal.ensures) (classes_in_range c.args.at.block.now c.requires.shape)

pub plan_among-requires-clause-atoms : goal.plan_among-requires-clause-atoms
plan_among-requires-clause-atoms c =
    let few = c.requires.shape.few_atoms in
    let many = ap length (atoms_are c.args.at.block.now) in
    subst (λ (n : Normal). length n.atoms < 65536) (sym c.in_ok-normal.ensures) (omega arith)

pub plan_among-requires-clause-needed : goal.plan_among-requires-clause-needed
plan_among-requires-clause-needed c =
    let few = c.requires.shape.few_atoms in
    let many = as_many_needed c.args.at.block.now in
    subst (λ (n : Normal). length n.needed ≤ 65536) (sym c.in_ok-normal.ensures) (omega arith)

use Rattle.std.proofs.Common.{◌≡◌, ◌≤◌, ◌++◌, drop, length, take}
use Rattle.beas_core.specs.Coverage.{atoms_of}
use Rattle.beas_core.specs.Derivations.{serving_steps}
use Rattle.plan_builder.proofs.derivations.serve_atoms.Given as goal

abbrev pub invariant-loop-atom : goal.invariant-loop-atom
invariant-loop-atom l = record {
  left : l.initial.steps ++ serving_steps l.block l.accesses l.initial.steps l.initial.set (atoms_of l.block)
      ≡ l.steps ++ serving_steps l.block l.accesses l.initial.steps l.set (drop l.atom (atoms_of l.block));
  there : l.first ≤ length l.steps;
  first : take l.first l.steps ≡ l.initial.steps;
}

use Rattle.std.proofs.Common.{◌≡◌, ◌++◌, ◌-◌}
use Rattle.std.specs.Option.{option_map}
use Rattle.beas_core.specs.Derivations.{adding_steps}
use Rattle.plan_builder.specs.Plans.{HasCome}
use Rattle.plan_builder.proofs.derivations.add_best.Given as goal

abbrev pub invariant-loop-turn : goal.invariant-loop-turn
invariant-loop-turn l = record {
  come : HasCome l.block l.accesses l.initial.set l.set l.steps;
  left : adding_steps l.block.count l.block l.accesses l.initial.set
      ≡ option_map (λ more. l.steps ++ more) (adding_steps (l.block.count - l._turn) l.block l.accesses l.set);
}

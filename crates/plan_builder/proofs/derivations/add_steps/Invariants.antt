use Rattle.std.proofs.Common.{◌≡◌, ◌++◌, ◌-◌, List, map}
use Rattle.std.specs.Option.{option_map}
use Rattle.beas_core.specs.declared.schema.Access.{Access}
use Rattle.beas_core.specs.Coverage.{uses}
use Rattle.beas_core.specs.Derivations.{adding_steps}
use Rattle.beas_core.specs.Shapes.{EachIdOnce}
use Rattle.attribute_closure.specs.Uses.{as_use}
use Rattle.plan_builder.specs.Candidates.{AreCandidates}
use Rattle.plan_builder.specs.Plans.{HasCome}
use Rattle.plan_builder.proofs.derivations.add_steps.Given as goal

abbrev pub invariant-loop-turn : goal.invariant-loop-turn
invariant-loop-turn l = record {
  are : AreCandidates l.block l.candidates;
  listed : l.candidates.keys.uses ≡ l.initial.candidates.keys.uses;
  come : (accesses : List Access) → EachIdOnce accesses → map as_use l.initial.candidates.keys.uses ≡ uses l.block accesses
      → HasCome l.block accesses l.initial.candidates.keys.set.items l.candidates.keys.set.items l.steps
      × (adding_steps l.block.count l.block accesses l.initial.candidates.keys.set.items
      ≡ option_map (λ more. l.steps ++ more) (adding_steps (l.block.count - l._turn) l.block accesses l.candidates.keys.set.items));
}

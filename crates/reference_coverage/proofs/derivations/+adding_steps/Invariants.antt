use Rattle.reference_coverage.proofs.derivations.+adding_steps.Given as goal

abbrev pub decreases-adding_steps : goal.decreases-adding_steps
decreases-adding_steps l = l.turns

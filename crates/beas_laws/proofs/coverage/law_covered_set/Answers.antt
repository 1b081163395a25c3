use Rattle.beas_core.proofs.CoveredSetFacts.{covered_set_least}
use Rattle.beas_laws.proofs.coverage.law_covered_set.Goals as goal

pub returns : goal.returns
returns c = covered_set_least c.args.normal.now c.args.accesses.now c.args.start.now c.requires.start c.requires.classes

use Rattle.partial_plan.proofs.NumberFacts.{covered_alone}
use Rattle.beas_laws.proofs.scans.law_covered_alone.Goals as goal

pub returns : goal.returns
returns c = λ sizes. covered_alone c.args.catalogue.now sizes c.args.query.now c.requires.well_formed c.requires.covered

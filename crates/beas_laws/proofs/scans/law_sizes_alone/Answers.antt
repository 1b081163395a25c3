use Rattle.partial_plan.proofs.NumberFacts.{sizes_alone}
use Rattle.beas_laws.proofs.scans.law_sizes_alone.Goals as goal

pub returns : goal.returns
returns c = λ sizes others agree. sizes_alone c.args.catalogue.now sizes others c.args.query.now c.requires agree

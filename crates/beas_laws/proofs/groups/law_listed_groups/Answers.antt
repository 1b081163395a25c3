use Rattle.beas_laws.proofs.GroupFacts.{listed_groups}
use Rattle.beas_laws.proofs.groups.law_listed_groups.Goals as goal

pub returns : goal.returns
returns c = λ joined same. listed_groups c.args.keys c.args.folds.now joined c.args.listed.now same

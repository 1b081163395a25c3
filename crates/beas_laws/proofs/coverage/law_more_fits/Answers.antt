use Rattle.beas_laws.proofs.MoreConstraints.{still_fits}
use Rattle.beas_laws.proofs.coverage.law_more_fits.Goals as goal

pub returns : goal.returns
returns c = λ rows prepared fits. still_fits c.args.accesses.now c.args.more.now c.requires.ids c.requires.within rows prepared fits

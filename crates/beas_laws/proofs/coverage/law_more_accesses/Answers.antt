use Rattle.beas_core.proofs.MoreAccesses.{stays_sound}
use Rattle.beas_laws.proofs.coverage.law_more_accesses.Goals as goal

pub returns : goal.returns
returns c = λ start steps sound. stays_sound c.args.accesses.now c.args.more.now c.requires.ids c.requires.within c.args.normal.now start steps sound

use Rattle.beas_core.proofs.SoundDerivations.{derivation_sound}
use Rattle.beas_laws.proofs.coverage.law_derivation_sound.Goals as goal

pub returns : goal.returns
returns c = λ steps h. derivation_sound c.args.normal.now c.args.accesses.now c.requires c.args.start.now steps h

use Rattle.desk_model.proofs.AnnouncedFits.{announced_fits}
use Rattle.desk_model.proofs.laws.law_announced_fits.Goals as goal

pub returns : goal.returns
returns c = λ limits budget schema tree prepared sound formed announced. announced_fits limits budget schema tree sound formed prepared announced

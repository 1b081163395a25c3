use Rattle.beas_run.proofs.SourcelessFacts.{fits_demo}
use Rattle.beas_run.proofs.script_source.text_for.Goals as goal

pub returns-in-Ok-clause-fits : goal.returns-in-Ok-clause-fits
returns-in-Ok-clause-fits g c = fits_demo _ _ c.in-Ok.ensures

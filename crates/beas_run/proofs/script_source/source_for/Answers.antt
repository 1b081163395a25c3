use Rattle.std.proofs.Common.{refl}
use Rattle.beas_run.proofs.script_source.source_for.Goals as goal

pub returns-in-Ok-clause-source : goal.returns-in-Ok-clause-source
returns-in-Ok-clause-source g c = record {
  asked_is = refl;
  fits = c.in-Ok.ensures.fits;
  is = c.in-Ok.ensures.asked;
  loaded = c.text_for.ensures.loaded;
  later = c.text_for.ensures.later;
}

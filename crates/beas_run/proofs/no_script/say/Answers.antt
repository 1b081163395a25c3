use Rattle.std.proofs.Common.{ap, inl, inr, refl, Err}
use Rattle.beas_run.proofs.no_script.say.Goals as goal

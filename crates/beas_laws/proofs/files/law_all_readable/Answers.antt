use Rattle.beas_laws.proofs.FailureFacts.{none_named}
use Rattle.beas_laws.proofs.files.law_all_readable.Goals as goal

pub returns : goal.returns
returns c = λ turns tells none. none_named turns tells none

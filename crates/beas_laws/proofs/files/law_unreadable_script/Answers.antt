use Rattle.beas_laws.proofs.TurnFacts.{script_tells}
use Rattle.beas_laws.proofs.files.law_unreadable_script.Goals as goal

pub returns : goal.returns
returns c = λ settings state pieces readings outcomes read. script_tells settings state pieces readings outcomes read

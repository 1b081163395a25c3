use Rattle.beas_run.proofs.NoSessionFacts.{means, turns_are}
use Rattle.beas_run.proofs.laws.law_no_sessions.Goals as goal

pub returns : goal.returns
returns c = λ settings before script readings outcomes sound idle fits none read.
    means before _ _ idle (turns_are settings before script readings outcomes sound idle fits none read)

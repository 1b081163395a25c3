use Rattle.beas_library.proofs.ScriptFacts.{says_as_run}
use Rattle.beas_library.proofs.laws.law_says_as_run.Goals as goal

pub returns : goal.returns
returns c = λ script texts before after m n lines pieces few is said. says_as_run script texts before after m n lines pieces few is said

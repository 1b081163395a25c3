use Rattle.std.proofs.lemmas.Result.{IfOk-weaker}
use Rattle.text_cases.proofs.texts.canonical_of.Goals as goal

-- src/texts.rt:30:1
pub returns-in-Ok-clause-text : goal.returns-in-Ok-clause-text
returns-in-Ok-clause-text c =
    IfOk-weaker c.printed-text.result _ _ (λ text same. (c.in-Ok.statement, c.in-Ok.ensures.spelled, same)) c.printed-text.ensures.text

use Rattle.std.proofs.Common.{ap, Err, ◌∙◌}
use Rattle.beas_run.proofs.SourceFacts.{no_memory_left, none_named, arguments_refused}
use Rattle.beas_run.proofs.script_source.source_of.Goals as goal

pub returns-in-Ok-clause-source : goal.returns-in-Ok-clause-source
returns-in-Ok-clause-source g c = rw c.in-Ok.ensures.taken c.source_for.ensures.source

pub returns-in-Ok-clause-none : goal.returns-in-Ok-clause-none
returns-in-Ok-clause-none g c = rw c.in-Ok.ensures.taken c.source_for.ensures.none

pub returns-in-Ok-clause-unused : goal.returns-in-Ok-clause-unused
returns-in-Ok-clause-unused g c = λ none. c.source_for.ensures.unused (none_named _ _ c.in-Ok.ensures.taken none)

pub returns-in-Err-Refused-clause-none : goal.returns-in-Err-Refused-clause-none
returns-in-Err-Refused-clause-none g c = arguments_refused _ _ (c.args-2.ensures.refused (c.in-Err-Refused.is ∙ ap Err c.in-Err-Refused.field-0-is))

pub returns-in-Err-NoMemory-clause-none : goal.returns-in-Err-NoMemory-clause-none
returns-in-Err-NoMemory-clause-none g c = no_memory_left _ _

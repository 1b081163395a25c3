use Rattle.catalogue.specs.Database.{schema_of}
use Rattle.desk_model.proofs.AnnouncedFits.{announced_fits}
use Rattle.desk_model.proofs.AnswerFacts.{answered_as_opened}
use Rattle.desk_model.proofs.laws.law_first_answer.Goals as goal

pub returns : goal.returns
returns c = λ s state k tree prepared sound idle formed announced happenings report h.
    answered_as_opened s state k prepared (announced_fits s.limits s.budget (schema_of state.db) tree sound formed prepared announced) idle happenings report h

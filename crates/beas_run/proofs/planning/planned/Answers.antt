use Rattle.beas_run.proofs.planning.planned.Goals as goal

pub returns-in-Ok-clause-planned : goal.returns-in-Ok-clause-planned
returns-in-Ok-clause-planned g = rw g.in-Ok.ensures.found g.event_planned-plan.ensures.planned

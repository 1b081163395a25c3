use Rattle.beas_run.proofs.pricing.priced.Goals as goal

pub returns-in-Ok-clause-priced : goal.returns-in-Ok-clause-priced
returns-in-Ok-clause-priced g = rw g.in-Ok.ensures.found g.event_priced-price.ensures.priced

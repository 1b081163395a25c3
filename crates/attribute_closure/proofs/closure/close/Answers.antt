use Rattle.std.proofs.Common.{false, ◌∙◌, ap, length}
use Rattle.beas_core.proofs.StartFacts.{start_counted}
use Rattle.attribute_closure.proofs.closure.close.Goals as goal

pub close_from-requires-clause-classes : goal.close_from-requires-clause-classes
close_from-requires-clause-classes c = ap length (c.as_slice.ensures ∙ c.in_ok-start.ensures) ∙ start_counted c.args.block.now false

use Rattle.drawn_queries.proofs.StoreFacts.{FitsStore}
use Rattle.drawn_queries.proofs.additions.add_constraints.Given as goal

abbrev pub invariant-loop-spec : goal.invariant-loop-spec
invariant-loop-spec g l = FitsStore l.guarded l.prepared

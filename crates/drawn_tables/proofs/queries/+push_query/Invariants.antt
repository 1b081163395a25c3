use Rattle.drawn_tables.proofs.queries.+push_query.Given as goal

abbrev pub decreases-push_query : goal.decreases-push_query
decreases-push_query l = l.depth

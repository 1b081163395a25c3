use Rattle.std.proofs.Common.{◌∙◌, ap}
use Rattle.desk_model.specs.Desks.{query_of}
use Rattle.version_store.specs.Stored.{state_in}
use Rattle.version_store.proofs.DropFacts.{idle_after}
use Rattle.version_store.proofs.desk.Desk.drop_query.Goals as goal

pub returns-clause-idle : goal.returns-clause-idle
returns-clause-idle c =
    ap (λ seen. query_of c.args.session seen.state) c.drop_query.ensures.dropped
    ∙ idle_after c.args.session (state_in c.self.inside.session c.self.inside.queries.items) c.self.invariant.one_each

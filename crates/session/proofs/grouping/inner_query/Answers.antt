use Rattle.std.proofs.Common.{arith}
use Rattle.std.proofs.lemmas.Result.{IfOk-weaker}
use Rattle.beas_core.specs.declared.plan.Prepared.{Prepared}
use Rattle.catalogue.specs.Queries.{BlockIsOver, QueryIsOver}
use Rattle.session.specs.Grouping.{first_block}
use Rattle.session.proofs.BlockFacts.{of_first}
use Rattle.session.proofs.OutputFacts.{outputs_given}
use Rattle.session.proofs.grouping.inner_query.Goals as goal

pub returns-clause-over : goal.returns-clause-over
returns-clause-over c =
    let g = c.args.store.now in
    IfOk-weaker c.prepared_over.result (λ (p : Prepared). QueryIsOver g.catalogue p.query) (λ (p : Prepared). BlockIsOver g.catalogue (first_block p.query))
    (λ p over. of_first (BlockIsOver g.catalogue) p.query over) c.prepared_over.ensures.over

pub returns-clause-outputs : goal.returns-clause-outputs
returns-clause-outputs c =
    outputs_given c.args.settings.now.limits.now c.args.settings.now.budget _ c.args.inner.now c.args.items.now c.args.keys.now c.requires.over
    (omega arith) c.prepared_over.result c.prepared_over.ensures.announced

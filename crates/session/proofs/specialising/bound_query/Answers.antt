use Rattle.std.proofs.Common.{◌≤◌, All, length, sym, subst}
use Rattle.std.proofs.lemmas.Result.{IfOk-weaker}
use Rattle.beas_core.specs.Results.{Gives}
use Rattle.beas_core.specs.Shapes.{BlockIsWellFormed, QueryIsWellFormed}
use Rattle.beas_core.specs.Trees.{QueryTree}
use Rattle.name_resolution.specs.Binding.{blocks_of, bound_query, refusals}
use Rattle.catalogue.specs.Queries.{BlockIsOver, QueryIsOver}
use Rattle.session.specs.Announced.{binding}
use Rattle.session.specs.Grouping.{first_block}
use Rattle.session.proofs.BlockFacts.{of_first}
use Rattle.session.proofs.GivenFacts.{given}
use Rattle.session.proofs.StoreFacts.{schema_is_catalogue}
use Rattle.session.proofs.specialising.bound_query.Goals as goal

pub returns-clause-bound : goal.returns-clause-bound
returns-clause-bound c =
    let g = c.args.store.now in
    let limits = c.args.limits.now in
    let tree = c.args.tree.now in
    subst (λ s. Gives c.bind.result (binding limits s tree)) (sym (schema_is_catalogue g))
    (given c.bind.result (refusals limits g.catalogue tree) (bound_query g.catalogue tree) c.bind.ensures.refused c.bind.ensures.query)

pub returns-clause-form : goal.returns-clause-form
returns-clause-form c =
    IfOk-weaker c.bind.result (λ (q : QueryTree). All (λ b. 1 ≤ length b.from_items) (blocks_of c.args.tree.now) → QueryIsWellFormed q)
    (λ (q : QueryTree). BlockIsWellFormed (first_block q)) (λ q made. let form = made c.requires.some_table in of_first BlockIsWellFormed q form.blocks)
    c.bind.ensures.well_formed

pub returns-clause-over : goal.returns-clause-over
returns-clause-over c =
    let g = c.args.store.now in
    IfOk-weaker c.bind.result (QueryIsOver g.catalogue) (λ (q : QueryTree). BlockIsOver g.catalogue (first_block q))
    (λ q over. of_first (BlockIsOver g.catalogue) q over) c.bind.ensures.over

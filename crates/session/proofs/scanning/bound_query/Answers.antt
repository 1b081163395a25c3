use Rattle.std.proofs.Common.{◌≤◌, All, length, arith}
use Rattle.std.proofs.lemmas.Result.{IfOk-weaker}
use Rattle.beas_core.specs.Shapes.{QueryIsWellFormed}
use Rattle.beas_core.specs.Trees.{QueryTree}
use Rattle.name_resolution.specs.Binding.{blocks_of, bound_query, refusals}
use Rattle.session.proofs.GivenFacts.{given}
use Rattle.session.proofs.ScanFacts.{few_bound}
use Rattle.session.proofs.scanning.bound_query.Goals as goal

pub returns-clause-bound : goal.returns-clause-bound
returns-clause-bound c =
    given c.bind.result (refusals c.args.limits.now c.args.catalogue.now c.args.tree.now) (bound_query c.args.catalogue.now c.args.tree.now)
    c.bind.ensures.refused c.bind.ensures.query

pub returns-clause-form : goal.returns-clause-form
returns-clause-form c =
    IfOk-weaker c.bind.result (λ (q : QueryTree). All (λ b. 1 ≤ length b.from_items) (blocks_of c.args.tree.now) → QueryIsWellFormed q)
    QueryIsWellFormed (λ q made. made c.requires.some_table) c.bind.ensures.well_formed

pub returns-clause-few : goal.returns-clause-few
returns-clause-few c =
    few_bound c.args.limits.now c.args.catalogue.now c.args.tree.now c.bind.result (omega arith) c.bind.ensures.refused c.bind.ensures.count

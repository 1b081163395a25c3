use Rattle.std.proofs.Common.{◌≡◌, length, sym, ◌∙◌, ap, subst}
use Rattle.std.proofs.lemmas.Result.{IfOk-weaker}
use Rattle.name_resolution.specs.Binding.{bound_query}
use Rattle.name_resolution.proofs.FirstFacts.{if_answered}
use Rattle.name_resolution.proofs.OverTables.{as_many_blocks}
use Rattle.beas_core.specs.Shapes.{QueryIsWellFormed}
use Rattle.beas_core.specs.Trees as query
use Rattle.catalogue.specs.Queries.{QueryIsOver}
use Rattle.binder.proofs.AtOnceFacts.{unrefused_fits, unrefused_over}
use Rattle.binder.proofs.binding.bind.Goals as goal

pub returns-in-Some-clause-refused : goal.returns-in-Some-clause-refused
returns-in-Some-clause-refused c = c.in_ok-query.ensures.unrefused c.in-Some.query c.in-Some.is

pub returns-in-Some-clause-query : goal.returns-in-Some-clause-query
returns-in-Some-clause-query c = c.in_ok-query.ensures.query c.in-Some.query c.in-Some.is

pub returns-in-Some-clause-well_formed : goal.returns-in-Some-clause-well_formed
returns-in-Some-clause-well_formed c = λ some.
    subst QueryIsWellFormed (sym (c.in_ok-query.ensures.query c.in-Some.query c.in-Some.is))
    (unrefused_fits c.args.limits.now c.args.catalogue.now c.args.tree.now c.recall_soundness.ensures c.args.limits.now.atoms_in_range.1 some
    (c.in_ok-query.ensures.unrefused c.in-Some.query c.in-Some.is))

pub returns-in-Some-clause-over : goal.returns-in-Some-clause-over
returns-in-Some-clause-over c =
    subst (QueryIsOver c.args.catalogue.now) (sym (c.in_ok-query.ensures.query c.in-Some.query c.in-Some.is))
    (unrefused_over c.args.limits.now c.args.catalogue.now c.args.tree.now (c.in_ok-query.ensures.unrefused c.in-Some.query c.in-Some.is))

pub returns-in-Some-clause-count : goal.returns-in-Some-clause-count
returns-in-Some-clause-count c =
    ap (λ q. length (query.blocks_of q)) (c.in_ok-query.ensures.query c.in-Some.query c.in-Some.is)
    ∙ as_many_blocks c.args.catalogue.now c.args.tree.now

pub returns-clause-well_formed : goal.returns-clause-well_formed
returns-clause-well_formed c =
    let schema = c.args.catalogue.now in
    let tree = c.args.tree.now in
    if_answered (λ q. q ≡ bound_query schema tree) _ c.bound_by_kinds.result _ c.bound_by_kinds.ensures.refused c.bound_by_kinds.ensures.query
    (λ q is none some.
    subst QueryIsWellFormed (sym is) (unrefused_fits c.args.limits.now schema tree c.recall_soundness.ensures c.args.limits.now.atoms_in_range.1 some none))

pub returns-clause-over : goal.returns-clause-over
returns-clause-over c =
    let schema = c.args.catalogue.now in
    let tree = c.args.tree.now in
    if_answered (λ q. q ≡ bound_query schema tree) _ c.bound_by_kinds.result _ c.bound_by_kinds.ensures.refused c.bound_by_kinds.ensures.query
    (λ q is none. subst (QueryIsOver schema) (sym is) (unrefused_over c.args.limits.now schema tree none))

pub returns-clause-count : goal.returns-clause-count
returns-clause-count c =
    IfOk-weaker c.bound_by_kinds.result _ _ (λ q is.
    ap (λ some. length (query.blocks_of some)) is ∙ as_many_blocks c.args.catalogue.now c.args.tree.now) c.bound_by_kinds.ensures.query

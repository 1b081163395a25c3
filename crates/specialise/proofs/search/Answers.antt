use Rattle.std.proofs.Common.{◌≤◌, ◌∙◌, ap, map, subst, sym}
use Rattle.beas_core.specs.Coverage.{uses}
use Rattle.beas_core.specs.Shapes.{BlockIsWellFormed}
use Rattle.attribute_closure.specs.Uses.{as_use}
use Rattle.specialise.proofs.Outcomes.{few_found, refused_by, searched_by, answer_over}
use Rattle.specialise.proofs.search.Goals as goal

pub too_many-requires : goal.too_many-requires
too_many-requires c =
    let listed = c.in_ok-candidates.ensures c.args.accesses.now
    (ap (map as_use) c.as_slice-2.ensures ∙ c.in_ok-found.ensures ∙ ap (uses c.args.normal.now) c.as_slice.ensures) c.requires.cover in
    subst (λ n. n ≤ c.args.normal.now.count) (sym c.len-number.ensures)
    (few_found c.args.accesses.now c.args.block.now c.args.normal.now c.requires.normal c.in_ok-candidates.candidates listed)

pub returns-then-number-gt-LIMIT : goal.returns-then-number-gt-LIMIT
returns-then-number-gt-LIMIT c =
    let listed = c.in_ok-candidates.ensures c.args.accesses.now
    (ap (map as_use) c.as_slice-2.ensures ∙ c.in_ok-found.ensures ∙ ap (uses c.args.normal.now) c.as_slice.ensures) c.requires.cover in
    refused_by c.args.accesses.now c.args.block.now c.args.normal.now c.requires.normal c.in_ok-candidates.candidates listed c.requires.open
    c.len-number.result c.len-number.ensures c.if-number-gt-LIMIT.true c.too_many.result c.too_many.ensures

pub trial_of-requires-clause-candidates : goal.trial_of-requires-clause-candidates
trial_of-requires-clause-candidates c =
    c.in_ok-candidates.ensures c.args.accesses.now
    (ap (map as_use) c.as_slice-2.ensures ∙ c.in_ok-found.ensures ∙ ap (uses c.args.normal.now) c.as_slice.ensures) c.requires.cover

pub search-requires : goal.search-requires
search-requires c = subst BlockIsWellFormed (sym c.in_ok-trial.ensures.block) c.requires.shape

pub returns : goal.returns
returns c =
    let listed = c.in_ok-candidates.ensures c.args.accesses.now
    (ap (map as_use) c.as_slice-2.ensures ∙ c.in_ok-found.ensures ∙ ap (uses c.args.normal.now) c.as_slice.ensures) c.requires.cover in
    searched_by c.args.accesses.now c.args.block.now c.args.normal.now c.requires.normal c.in_ok-candidates.candidates listed c.requires.open
    c.len-number.result c.len-number.ensures c.if-number-gt-LIMIT.false c.in_ok-search.field-0
    (c.in_ok-search.ensures ∙ answer_over c.in_ok-trial.trial.accesses.now c.args.accesses.now c.in_ok-trial.trial.block.now c.args.block.now
    c.in_ok-trial.ensures.accesses c.in_ok-trial.ensures.block)

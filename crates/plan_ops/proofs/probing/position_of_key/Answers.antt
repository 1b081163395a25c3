use Rattle.std.proofs.Common.{[], subst, rules}
use Rattle.std.specs.List.Sorted.{IsBinarySearchResult}
use Rattle.std.proofs.lemmas.Fn.{always_returns_same}
use Rattle.beas_core.specs.Groups.{project}
use Rattle.beas_core.specs.Order.{row_cmp}
use Rattle.plan_ops.proofs.KeyFacts.{found_key, always_found}
use Rattle.plan_ops.proofs.probing.position_of_key.Goals as goal

pub returns-in-Ok-clause-key : goal.returns-in-Ok-clause-key
returns-in-Ok-clause-key c =
    let key = project c.args.columns.now c.args.row.now in
    found_key c.args.keys.now key c.in-Ok.at []
    (subst (IsBinarySearchResult (λ y. row_cmp y key) c.args.keys.now) c.in-Ok.is
    (c.binary_search_by.ensures.position (λ y. row_cmp y key) (always_returns_same _ _ _ (λ a r f' k. search rules))))

pub returns-in-Err-clause-within : goal.returns-in-Err-clause-within
returns-in-Err-clause-within c =
    let key = project c.args.columns.now c.args.row.now in
    absurd (always_found c.args.keys.now key c.in-Err.at c.requires.order c.requires.there
    (subst (IsBinarySearchResult (λ y. row_cmp y key) c.args.keys.now) c.in-Err.is
    (c.binary_search_by.ensures.position (λ y. row_cmp y key) (always_returns_same _ _ _ (λ a r f' k. search rules)))))

pub returns-in-Err-clause-key : goal.returns-in-Err-clause-key
returns-in-Err-clause-key c =
    let key = project c.args.columns.now c.args.row.now in
    absurd (always_found c.args.keys.now key c.in-Err.at c.requires.order c.requires.there
    (subst (IsBinarySearchResult (λ y. row_cmp y key) c.args.keys.now) c.in-Err.is
    (c.binary_search_by.ensures.position (λ y. row_cmp y key) (always_returns_same _ _ _ (λ a r f' k. search rules)))))

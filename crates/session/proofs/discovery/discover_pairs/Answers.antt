use Rattle.std.proofs.Common.{◌∙◌, All, length, sym, subst}
use Rattle.session.proofs.PairFacts.{PairIsBelow, pairs_are_below}
use Rattle.session.proofs.discovery.discover_pairs.Goals as goal

pub named_pairs-found-requires : goal.named_pairs-found-requires
named_pairs-found-requires g c =
    let width = length c.as_slice-columns.result.now in
    subst (λ ps. All (PairIsBelow width) ps) (sym (c.as_slice.ensures ∙ c.in_ok-pairs.ensures.pairs))
    (pairs_are_below c.rows_of_table-rows.result.now c.in_ok-limit.limit width)

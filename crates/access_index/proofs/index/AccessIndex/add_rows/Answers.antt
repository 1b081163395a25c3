use Rattle.std.proofs.Common.{length, map, ap, arith}
use Rattle.std.proofs.lemmas.List.{length-map}
use Rattle.std.proofs.lemmas.List.Sorted.{length_permutation}
use Rattle.std.proofs.lemmas.Result.{IfOk-weaker}
use Rattle.access_index.proofs.Growing.{index_in_order, holds_in_order}
use Rattle.access_index.proofs.index.AccessIndex.add_rows.Goals as goal

pub add_in_turn-requires : goal.add_in_turn-requires
add_in_turn-requires c =
    omega (
      arith,
      c.requires,
      ap length c.as_slice-2.ensures.value,
      length-map c.in_ok-lent.lent.items (λ lent. lent.row.now),
      length_permutation (map (λ lent. lent.row.now) c.in_ok-lent.lent.items) c.args.rows.now c.in_ok-lent.ensures,
    )

pub returns-clause-index : goal.returns-clause-index
returns-clause-index c =
    IfOk-weaker c.add_in_turn.result _ _
    (λ all h front is.
    index_in_order (λ lent. lent.row.now) c.in_ok-lent.lent.items c.as_slice-2.result.now c.args.rows.now c.in_ok-lent.ensures c.as_slice-2.ensures.value
    c.add_in_turn.new.self all front (h front is))
    c.add_in_turn.ensures.index

pub returns-clause-holds : goal.returns-clause-holds
returns-clause-holds c =
    IfOk-weaker c.add_in_turn.result _ _
    (λ all h front is hold.
    holds_in_order (λ lent. lent.row.now) c.in_ok-lent.lent.items c.as_slice-2.result.now c.args.rows.now c.in_ok-lent.ensures c.as_slice-2.ensures.value
    c.args.self.now.access all front (h front is hold))
    c.add_in_turn.ensures.holds

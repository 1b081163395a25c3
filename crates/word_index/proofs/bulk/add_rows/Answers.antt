use Rattle.std.proofs.Common.{length, map, ap, arith}
use Rattle.std.proofs.lemmas.List.{length-map}
use Rattle.std.proofs.lemmas.List.Sorted.{length_permutation}
use Rattle.std.proofs.lemmas.Result.{IfOk-weaker}
use Rattle.access_index.proofs.Growing.{index_in_order, holds_in_order}
use Rattle.code_index.specs.Reading.{read_index}
use Rattle.word_index.specs.Widths.{index_in}
use Rattle.code_index.proofs.Growth.{kept_codes}
use Rattle.word_index.proofs.bulk.add_rows.Goals as goal

pub returns-in_err-columns-clause-kept : goal.returns-in_err-columns-clause-kept
returns-in_err-columns-clause-kept c = kept_codes c.args.codes.now

pub returns-in_err-lent-clause-kept : goal.returns-in_err-lent-clause-kept
returns-in_err-lent-clause-kept c = kept_codes c.args.codes.now

pub add_in_turn-requires-clause-room : goal.add_in_turn-requires-clause-room
add_in_turn-requires-clause-room c =
    omega (
      arith,
      c.requires.room,
      ap length c.as_slice-2.ensures.value,
      length-map c.in_ok-lent.lent.items (λ lent. lent.row.now),
      length_permutation (map (λ lent. lent.row.now) c.in_ok-lent.lent.items) c.args.rows.now c.in_ok-lent.ensures,
    )

pub returns-clause-total : goal.returns-clause-total
returns-clause-total c =
    omega (
      arith,
      c.add_in_turn.ensures.total,
      ap length c.as_slice-2.ensures.value,
      length-map c.in_ok-lent.lent.items (λ lent. lent.row.now),
      length_permutation (map (λ lent. lent.row.now) c.in_ok-lent.lent.items) c.args.rows.now c.in_ok-lent.ensures,
    )

pub returns-clause-index : goal.returns-clause-index
returns-clause-index c =
    IfOk-weaker c.add_in_turn.result _ _
    (λ all h front is.
    index_in_order (λ lent. lent.row.now) c.in_ok-lent.lent.items c.as_slice-2.result.now c.args.rows.now c.in_ok-lent.ensures c.as_slice-2.ensures.value
    (read_index c.add_in_turn.new.codes (index_in c.add_in_turn.new.index)) all front (h front is))
    c.add_in_turn.ensures.index

pub returns-clause-holds : goal.returns-clause-holds
returns-clause-holds c =
    IfOk-weaker c.add_in_turn.result _ _
    (λ all h front is hold.
    holds_in_order (λ lent. lent.row.now) c.in_ok-lent.lent.items c.as_slice-2.result.now c.args.rows.now c.in_ok-lent.ensures c.as_slice-2.ensures.value
    (index_in c.args.index.now).access all front (h front is hold))
    c.add_in_turn.ensures.holds

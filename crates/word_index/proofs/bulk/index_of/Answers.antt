use Rattle.std.proofs.Common.{length, map, ap, arith}
use Rattle.std.proofs.lemmas.List.{length-map}
use Rattle.std.proofs.lemmas.List.Sorted.{length_permutation}
use Rattle.std.proofs.lemmas.Result.{IfOk-weaker}
use Rattle.access_index.proofs.Sorting.{index_of_lent}
use Rattle.code_index.specs.Reading.{read_index}
use Rattle.word_index.specs.Widths.{index_in}
use Rattle.code_index.proofs.Growth.{kept_codes}
use Rattle.word_index.proofs.bulk.index_of.Goals as goal

pub returns-in_err-lent-clause-kept : goal.returns-in_err-lent-clause-kept
returns-in_err-lent-clause-kept g c = kept_codes c.args.codes.now

pub returns-clause-total : goal.returns-clause-total
returns-clause-total g c =
    IfOk-weaker c.index_over.result _ _
    (λ index total.
    omega (
      arith,
      total,
      ap length c.as_slice.ensures.value,
      length-map c.in_ok-lent.lent.items (λ lent. lent.row.now),
      length_permutation (map (λ lent. lent.row.now) c.in_ok-lent.lent.items) c.args.rows.now c.in_ok-lent.ensures.rows,
    ))
    c.index_over.ensures.total

pub returns-clause-index : goal.returns-clause-index
returns-clause-index g c =
    IfOk-weaker c.index_over.result _ _
    (λ index kept.
    index_of_lent (λ lent. lent.row.now) (read_index c.index_over.new.codes (index_in index)) c.in_ok-lent.lent.items c.as_slice.result.now
    c.args.rows.now c.in_ok-lent.ensures.rows c.as_slice.ensures.value kept)
    c.index_over.ensures.index

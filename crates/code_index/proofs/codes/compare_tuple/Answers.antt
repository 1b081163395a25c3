use Rattle.std.proofs.Common.{◌<◌, length, sym, ◌∙◌, arith}
use Rattle.beas_core.specs.Groups.{member_columns}
use Rattle.code_index.proofs.TupleFacts.{ended_after, ended_before, not_within}
use Rattle.code_index.proofs.codes.compare_tuple.Goals as goal

pub returns-then-not-has_place : goal.returns-then-not-has_place
returns-then-not-has_place c =
    let columns = member_columns c.args.access.now in
    sym (c.loop-i.invariant.rest
    ∙ ended_after c.args.codes.now c.args.row_codes.now c.loop-i.i c.args.left.now columns c.loop-i-test.true
    (not_within c.has_place.result c.loop-i.i (length columns) c.has_place.ensures c.if-not-has_place.true))

pub returns-then-has_place : goal.returns-then-has_place
returns-then-has_place c =
    let columns = member_columns c.args.access.now in
    let more : length c.args.left.now < length columns = c.has_place-2.ensures.0 c.if-has_place.true in
    sym (c.loop-i.invariant.rest
    ∙ ended_before c.args.codes.now c.args.row_codes.now c.loop-i.i c.args.left.now columns c.loop-i-test.false (omega (arith, more, c.loop-i.auto.i-end)))

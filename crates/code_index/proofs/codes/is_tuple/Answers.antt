use Rattle.std.proofs.Common.{◌<◌, ◌∙◌, true≢false, length, get_or, ap, sym, subst, arith}
use Rattle.std.specs.Prelude.{IsTrue, ◌↔◌}
use Rattle.std.proofs.lemmas.List.{length-map, get_or-map, take_more_same}
use Rattle.beas_core.specs.Groups.{member_columns}
use Rattle.code_index.specs.Reading.{pick, row_code}
use Rattle.code_index.proofs.TupleFacts.{not_within, ended_alike}
use Rattle.code_index.proofs.codes.is_tuple.Goals as goal

pub returns-then-not-has_place : goal.returns-then-not-has_place
returns-then-not-has_place c =
    let columns = member_columns c.args.access.now in
    let row_codes = c.args.row_codes.now in
    let past = not_within c.has_place.result c.loop-i.i (length columns) c.has_place.ensures c.if-not-has_place.true in (
      λ t. absurd (true≢false (sym t)),
      λ e. absurd (omega (arith, past, c.loop-i-test.true, ap length e, length-map columns (row_code row_codes))),
    )

pub returns-then-code-row_code : goal.returns-then-code-row_code
returns-then-code-row_code c =
    let columns = member_columns c.args.access.now in
    let row_codes = c.args.row_codes.now in
    let i = c.loop-i.i in
    let within : i < length columns = c.has_place.ensures.0 c.if-not-has_place.false in
    let w = c.row_code.ensures ∙ ap (row_code row_codes) c.column_at.ensures ∙ sym (get_or-map (row_code row_codes) columns i c.column_at.result 0 within) in (
      λ t. absurd (true≢false (sym t)),
      λ e. absurd (c.if-code-row_code.true (ap (λ t. get_or t i 0) e ∙ sym w)),
    )

pub loop-i-preserved : goal.loop-i-preserved
loop-i-preserved c =
    let columns = member_columns c.args.access.now in
    let row_codes = c.args.row_codes.now in
    let i = c.loop-i.i in
    let within : i < length columns = c.has_place.ensures.0 c.if-not-has_place.false in
    let w = c.row_code.ensures ∙ ap (row_code row_codes) c.column_at.ensures ∙ sym (get_or-map (row_code row_codes) columns i c.column_at.result 0 within) in
    record {
      within = omega (arith, within);
      same = take_more_same c.args.tuple.now (pick columns row_codes) i 0 c.loop-i-test.true
          (omega (arith, within, length-map columns (row_code row_codes))) c.loop-i.invariant.same
          (c.if-code-row_code.false ∙ w);
    }

pub returns : goal.returns
returns c =
    let columns = member_columns c.args.access.now in
    let row_codes = c.args.row_codes.now in
    let tuple = c.args.tuple.now in
    let own = pick columns row_codes in
    let long = length-map columns (row_code row_codes) in
    let b = c.has_place-2.result in
    let goes_on : IsTrue b ↔ (length tuple < length own) = subst (λ n. IsTrue b ↔ (length tuple < n)) (sym long) c.has_place-2.ensures in
    ended_alike b c.loop-i.i tuple own (omega (arith, c.loop-i-test.false, c.loop-i.auto.i-end)) (omega (arith, long, c.loop-i.invariant.within)) goes_on c.loop-i.invariant.same

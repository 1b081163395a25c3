use Rattle.std.proofs.Common.{◌≡◌, ◌<◌, ◌∙◌, length, take, ap, sym, arith}
use Rattle.std.proofs.lemmas.List.{length-map, length-set, get_or-map, take_all}
use Rattle.beas_core.specs.Groups.{member_columns}
use Rattle.code_index.specs.Reading.{pick, row_code}
use Rattle.code_index.proofs.TupleFacts.{write_next}
use Rattle.code_index.proofs.Members.{members_long}
use Rattle.code_index.proofs.key.KeyCodes.tuple.Goals as goal

pub loop-i-preserved : goal.loop-i-preserved
loop-i-preserved g c =
    let a = c.args.access.now in
    let columns = member_columns a in
    let row_codes = c.args.row_codes.now in
    let i = c.loop-i.i in
    let w = c.row_code.result in
    let long = length-map columns (row_code row_codes) in
    let all = members_long a.key a.fetched in
    let within : i < length columns = omega (arith, c.loop-i-test.true, c.len.ensures, c.len-2.ensures, all, c.saturating_add-len.ensures, c.if-len.false) in
    record {
      same = write_next c.loop-i.tuple (pick columns row_codes) i w
          (omega (arith, c.loop-i.invariant.len, long, all, c.len.ensures, c.len-2.ensures, c.saturating_add-len.ensures, c.if-len.false))
          (omega (arith, within, long))
          (c.row_code.ensures ∙ ap (row_code row_codes) c.column_at.ensures ∙ sym (get_or-map (row_code row_codes) columns i c.column_at.result w within))
          c.loop-i.invariant.same;
      len = length-set c.loop-i.tuple i w ∙ c.loop-i.invariant.len;
    }

pub returns : goal.returns
returns g c =
    let a = c.args.access.now in
    let columns = member_columns a in
    let row_codes = c.args.row_codes.now in
    let long = length-map columns (row_code row_codes) in
    let all = members_long a.key a.fetched in
    let end : c.loop-i.i ≡ length columns = omega (arith, c.loop-i-test.false, c.loop-i.auto.i-end, c.len.ensures, c.len-2.ensures, all, c.saturating_add-len.ensures, c.if-len.false) in
    ap (λ n. take n c.loop-i.tuple) (omega (arith, end, c.len.ensures, c.len-2.ensures, all, c.saturating_add-len.ensures, c.if-len.false)) ∙ c.loop-i.invariant.same
    ∙ take_all c.loop-i.i (pick columns row_codes) (omega (arith, end, long))

use Rattle.std.proofs.Common.{◌∙◌, sym, arith}
use Rattle.std.proofs.lemmas.List.{length-map, length-set, get_or-map}
use Rattle.code_index.specs.Reading.{pick, row_code}
use Rattle.code_index.proofs.TupleFacts.{write_next}
use Rattle.code_index.proofs.codes.key_of.Goals as goal

pub loop-i-preserved : goal.loop-i-preserved
loop-i-preserved g c =
    let columns = c.args.columns.now in
    let row_codes = c.args.row_codes.now in
    let long = length-map columns (row_code row_codes) in
    record {
      same = write_next c.loop-i.key (pick columns row_codes) c.loop-i.i c.row_code.result (omega (arith, c.loop-i.invariant.len, long))
          (omega (arith, c.loop-i-test.true, c.loop-i.auto.i-end, long))
          (c.row_code.ensures ∙ sym (get_or-map (row_code row_codes) columns c.loop-i.i (record { 0 = 0 }) c.row_code.result c.loop-i-test.true))
          c.loop-i.invariant.same;
      len = length-set c.loop-i.key c.loop-i.i c.row_code.result ∙ c.loop-i.invariant.len;
    }

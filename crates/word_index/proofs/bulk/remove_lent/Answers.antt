use Rattle.std.proofs.Common.{◌≡◌, ◌∙◌, ◌<◌, ◌+◌, ◌-◌, ◌++◌, length, get_or, take, map, ap, sym, subst, refl, arith}
use Rattle.std.proofs.lemmas.List.{take_all, append-nil, length-map, get_or-map}
use Rattle.access_index.specs.Index.{IsIndexOf}
use Rattle.code_index.specs.Reading.{read_index}
use Rattle.word_index.specs.Widths.{index_in}
use Rattle.word_index.proofs.RowFacts.{row_fewer}
use Rattle.word_index.proofs.bulk.remove_lent.Goals as goal

pub loop-i-init : goal.loop-i-init
loop-i-init c =
    let xs = map (λ lent. lent.row.now) c.args.rows.now in
    let long : length xs ≡ length c.args.rows.now = length-map c.args.rows.now (λ lent. lent.row.now) in
    record {
      access = refl;
      total = omega arith;
      in_order = c.requires.in_order;
      rest = λ front is. subst (λ rs. IsIndexOf (read_index c.args.codes.now (index_in c.args.index.now)) (front ++ rs))
          (sym (take_all (length c.args.rows.now - 0) xs (omega (arith, long)))) is;
    }

pub loop-i-preserved : goal.loop-i-preserved
loop-i-preserved c =
    let xs = map (λ lent. lent.row.now) c.args.rows.now in
    let long : length xs ≡ length c.args.rows.now = length-map c.args.rows.now (λ lent. lent.row.now) in
    let row = c.as_slice.result.now in
    let k = length c.args.rows.now - (c.loop-i.i + 1) in
    let within : k < length c.args.rows.now = omega (arith, c.loop-i-test.true) in
    let up : length c.args.rows.now - c.loop-i.i ≡ k + 1 = omega (arith, c.loop-i-test.true) in
    let place : length c.args.rows.now - 1 - c.loop-i.i ≡ k = omega (arith) in
    let item = c.index-rows-len.result in
    let there = ap (λ n. get_or c.args.rows.now n item) place in
    let is : row ≡ get_or xs k row = c.as_slice.ensures ∙ ap (λ lent. lent.row.now) there ∙ sym (get_or-map (λ lent. lent.row.now) c.args.rows.now k item row within) in
    let codes = c.args.codes.now in
    record {
      access = c.remove_row.ensures.access ∙ c.loop-i.invariant.access;
      total = omega (arith, c.remove_row.ensures.total, c.loop-i.invariant.total);
      in_order = c.remove_row.ensures.in_order;
      rest = λ front h. row_fewer xs k row (omega (arith, within, long)) is (read_index codes (index_in c.loop-i.index)) (read_index codes (index_in c.remove_row.new.index)) front
          (λ before after. c.remove_row.ensures.rest before after)
          (subst (λ n. IsIndexOf (read_index codes (index_in c.loop-i.index)) (front ++ take n xs)) up (c.loop-i.invariant.rest front h));
    }

pub returns-clause-rest : goal.returns-clause-rest
returns-clause-rest c front h =
    let xs = map (λ lent. lent.row.now) c.args.rows.now in
    let none : length c.args.rows.now - c.loop-i.i ≡ 0 = omega (arith, c.loop-i-test.false) in
    subst (IsIndexOf (read_index c.args.codes.now (index_in c.loop-i.index))) (append-nil front)
    (subst (λ n. IsIndexOf (read_index c.args.codes.now (index_in c.loop-i.index)) (front ++ take n xs)) none (c.loop-i.invariant.rest front h))

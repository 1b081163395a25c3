use Rattle.std.proofs.Common.{◌≡◌, ◌∙◌, ◌+◌, ◌++◌, take, map, ap, sym, subst, arith}
use Rattle.std.specs.Prelude.{IsTrue, if◌then◌else◌}
use Rattle.std.proofs.lemmas.List.{take-map}
use Rattle.access_index.specs.Index.{Index, IsIndexOf}
use Rattle.access_index.proofs.Growing.{holds_up_to}
use Rattle.code_index.specs.Reading.{read_index}
use Rattle.word_index.specs.Widths.{index_in}
use Rattle.word_index.proofs.RowFacts.{row_more, holds_row, had_more, had_same}
use Rattle.code_index.proofs.SpellingFacts.{kept_twice}
use Rattle.word_index.proofs.bulk.add_in_turn.Goals as goal

pub returns-then-not-held-clause-index : goal.returns-then-not-held-clause-index
returns-then-not-held-clause-index c front is =
    let old = read_index c.loop-i.codes (index_in c.loop-i.index) in
    let new = read_index c.add_if_holds.new.codes (index_in c.add_if_holds.new.index) in
    let same = had_same c.in-Ok.held old new c.as_slice.result.now c.if-not-held.true c.in-Ok.ensures.index
    (front ++ take c.loop-i.i (map (λ lent. lent.row.now) c.args.rows.now)) (c.loop-i.invariant.index front is) in
    c.remove_lent.ensures.rest front
    (subst (λ rs. IsIndexOf new (front ++ rs)) (take-map (λ lent. lent.row.now) c.loop-i.i c.args.rows.now) same)

pub returns-then-not-held-clause-holds : goal.returns-then-not-held-clause-holds
returns-then-not-held-clause-holds c front is hold =
    let rows = c.args.rows.now in
    let access = (index_in c.args.index.now).access in
    let told = holds_row (λ lent. lent.row.now) rows c.loop-i.i c.index-rows-i.result c.as_slice.result.now c.loop-i-test.true c.index-rows-i.is c.as_slice.ensures
    (read_index c.loop-i.codes (index_in c.loop-i.index)) access c.in-Ok.held front
    c.loop-i.invariant.access c.in-Ok.ensures.holds (c.loop-i.invariant.index front is) (c.loop-i.invariant.holds front is hold) in (
      λ t. cc,
      λ all. subst IsTrue c.if-not-held.true (told.1 (holds_up_to front (map (λ lent. lent.row.now) rows) (c.loop-i.i + 1) access all)),
    )

pub returns-in-Err-clause-err : goal.returns-in-Err-clause-err
returns-in-Err-clause-err c front is =
    let old = read_index c.loop-i.codes (index_in c.loop-i.index) in
    let new = read_index c.add_if_holds.new.codes (index_in c.add_if_holds.new.index) in
    let same : new ≡ old = ap (read_index c.add_if_holds.new.codes) c.in-Err.ensures.err
    ∙ c.add_if_holds.ensures.kept.same (index_in c.loop-i.index) c.loop-i.invariant.in_order in
    c.remove_lent-in-Err.ensures.rest front
    (subst (λ (index : Index). IsIndexOf index (front ++ map (λ lent. lent.row.now) (take c.loop-i.i c.args.rows.now))) (sym same)
    (subst (λ rs. IsIndexOf old (front ++ rs)) (take-map (λ lent. lent.row.now) c.loop-i.i c.args.rows.now) (c.loop-i.invariant.index front is)))

pub loop-i-preserved : goal.loop-i-preserved
loop-i-preserved c =
    let rows = c.args.rows.now in
    let i = c.loop-i.i in
    let row = c.as_slice.result.now in
    let old = read_index c.loop-i.codes (index_in c.loop-i.index) in
    let new = read_index c.add_if_holds.new.codes (index_in c.add_if_holds.new.index) in
    let total = c.in-Ok.ensures.total ∙ ap (λ b. (index_in c.loop-i.index).total + (if b then 1 else 0)) c.if-not-held.false in
    record {
      kept = kept_twice c.args.codes.now c.loop-i.codes c.add_if_holds.new.codes c.loop-i.invariant.kept c.add_if_holds.ensures.kept;
      access = c.add_if_holds.ensures.access ∙ c.loop-i.invariant.access;
      total = omega (arith, total, c.loop-i.invariant.total);
      in_order = c.add_if_holds.ensures.in_order;
      index = λ front is.
          row_more (λ lent. lent.row.now) rows i c.index-rows-i.result row c.loop-i-test.true c.index-rows-i.is c.as_slice.ensures old new front
          (had_more c.in-Ok.held old new row c.if-not-held.false c.in-Ok.ensures.index) (c.loop-i.invariant.index front is);
      holds = λ front is hold.
          let told = holds_row (λ lent. lent.row.now) rows i c.index-rows-i.result row c.loop-i-test.true c.index-rows-i.is c.as_slice.ensures
          old (index_in c.args.index.now).access c.in-Ok.held front
          c.loop-i.invariant.access c.in-Ok.ensures.holds (c.loop-i.invariant.index front is) (c.loop-i.invariant.holds front is hold) in
          told.0 c.if-not-held.false;
    }

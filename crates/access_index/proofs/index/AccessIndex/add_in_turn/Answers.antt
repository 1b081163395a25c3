use Rattle.std.proofs.Common.{◌∙◌, ◌+◌, ◌++◌, take, map, sym, subst, arith}
use Rattle.std.specs.Prelude.{IsTrue}
use Rattle.std.proofs.lemmas.List.{take-map}
use Rattle.access_index.specs.Index.{Index, IsIndexOf}
use Rattle.access_index.proofs.Growing.{one_row_more, holds_with, holds_up_to}
use Rattle.access_index.proofs.index.AccessIndex.add_in_turn.Goals as goal

pub returns-then-not-would_hold-clause-index : goal.returns-then-not-would_hold-clause-index
returns-then-not-would_hold-clause-index c front is =
    c.remove_lent.ensures.rest front
    (subst (λ rs. IsIndexOf c.loop-i.self (front ++ rs)) (take-map (λ lent. lent.row.now) c.loop-i.i c.args.rows.now) (c.loop-i.invariant.index front is))

pub returns-then-not-would_hold-clause-holds : goal.returns-then-not-would_hold-clause-holds
returns-then-not-would_hold-clause-holds c front is hold =
    let access = c.args.self.now.access in
    let told = holds_with (λ lent. lent.row.now) c.args.rows.now c.loop-i.i c.index-rows-i.result c.loop-i-test.true c.index-rows-i.is
    c.loop-i.self access c.would_hold.result front c.loop-i.invariant.access
    c.would_hold.ensures.holds (c.loop-i.invariant.index front is) (c.loop-i.invariant.holds front is hold) in (
      λ t. cc,
      λ all.
          subst IsTrue c.if-not-would_hold.true (told.1 (holds_up_to front (map (λ lent. lent.row.now) c.args.rows.now) (c.loop-i.i + 1) access all)),
    )

pub returns-in-Err-clause-err : goal.returns-in-Err-clause-err
returns-in-Err-clause-err c front is =
    c.remove_lent-in-Err.ensures.rest front
    (subst (λ (index : Index). IsIndexOf index (front ++ map (λ lent. lent.row.now) (take c.loop-i.i c.args.rows.now))) (sym c.in-Err.ensures.err)
    (subst (λ rs. IsIndexOf c.loop-i.self (front ++ rs)) (take-map (λ lent. lent.row.now) c.loop-i.i c.args.rows.now) (c.loop-i.invariant.index front is)))

pub loop-i-preserved : goal.loop-i-preserved
loop-i-preserved c = record {
  access = c.add.ensures.access ∙ c.loop-i.invariant.access;
  total = omega (arith, c.in_default.ensures.total, c.loop-i.invariant.total);
  index = λ front is.
      one_row_more (λ lent. lent.row.now) c.args.rows.now c.loop-i.i c.index-rows-i.result c.loop-i-test.true c.index-rows-i.is _ _ front
      c.in_default.ensures.ok (c.loop-i.invariant.index front is);
  holds = λ front is hold.
      let access = c.args.self.now.access in
      let told = holds_with (λ lent. lent.row.now) c.args.rows.now c.loop-i.i c.index-rows-i.result c.loop-i-test.true c.index-rows-i.is c.loop-i.self access
      c.would_hold.result front c.loop-i.invariant.access c.would_hold.ensures.holds (c.loop-i.invariant.index front is)
      (c.loop-i.invariant.holds front is hold) in
      told.0 c.if-not-would_hold.false;
}

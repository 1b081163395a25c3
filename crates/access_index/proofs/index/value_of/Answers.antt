use Rattle.std.proofs.Common.{refl, sym, ◌∙◌}
use Rattle.beas_core.specs.Groups.{value_in}
use Rattle.access_index.proofs.Reading.{past}
use Rattle.access_index.proofs.index.value_of.Goals as goal

pub loop-i-preserved : goal.loop-i-preserved
loop-i-preserved c =
    let p = past value_in (λ c cs v vs k. refl) c.args.columns.now c.args.tuple.now c.args.column c.loop-i.i c.loop-i-test.true c.requires.width c.if-other-column.false in
    record { same = c.loop-i.invariant.same ∙ p.same; there = sym p.there ∙ c.loop-i.invariant.there }

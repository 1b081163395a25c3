use Rattle.std.proofs.Common.{◌<◌, ◌∙◌, sym, subst}
use Rattle.beas_core.specs.Coverage.{class_at}
use Rattle.attribute_closure.proofs.Waiting.{waits_on}
use Rattle.attribute_closure.proofs.keys.wait.Goals as goal

pub loop-column-preserved : goal.loop-column-preserved
loop-column-preserved c =
    waits_on c.args.block.now.count c.args.number
    (class_at c.args.block.now c.args.found.atom) c.args.found.access.now.key c.args.waiting.now c.loop-column.waiting c.loop-column.column-index
    (record { 0 = 0 })
    c.from-class.result c.push.new.self _ c.as_slice-column-items.result.now c.loop-column.invariant c.requires.lists c.as_slice-column-items.ensures
    c.loop-column-test.true (c.from-class.ensures ∙ c.class_at.ensures)
    (subst (λ n. n < c.args.block.now.count) (sym (c.from-class.ensures ∙ c.class_at.ensures)) (c.requires.ranges c.args.found.atom _)) c.in_ok-push.ensures.ok

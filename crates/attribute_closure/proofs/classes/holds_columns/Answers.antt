use Rattle.std.proofs.Common.{◌∙◌, ap, sym}
use Rattle.beas_core.specs.Coverage.{class_at, has}
use Rattle.attribute_closure.proofs.Sets.{holds_broken}
use Rattle.attribute_closure.proofs.classes.holds_columns.Goals as goal

pub returns-then-not-has_class : goal.returns-then-not-has_class
returns-then-not-has_class c =
    sym (holds_broken c.args.set.now (class_at c.args.block.now c.args.atom) c.args.columns.now c.loop-column.column-index
    (record { 0 = 0 }) c.loop-column-test.true
    (sym (c.has_class.ensures ∙ ap (has c.args.set.now) c.class_at.ensures) ∙ c.if-not-has_class.true))

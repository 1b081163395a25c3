use Rattle.std.proofs.Common.{◌==◌, ◌∙◌, ℕ, Bool, sym, eq-eqb}
use Rattle.beas_core.specs.declared.plan.Normal.{Normal}
use Rattle.beas_core.specs.Coverage.{class_at}
use Rattle.specialise.proofs.Lists.{find_range_there, find_range_more, unequal}
use Rattle.specialise.proofs.candidates.column_of.Goals as goal

abbrev has_class : Normal → ℕ → ℕ → ℕ → Bool
has_class normal atom class column = class_at normal atom (record { 0 = column }) == class

pub returns-then-class_at-class : goal.returns-then-class_at-class
returns-then-class_at-class c =
    let here = class_at c.args.block.now c.args.atom (record { 0 = c.loop-column.column }) in
    sym (find_range_there (has_class c.args.block.now c.args.atom c.args.class) c.args.width c.loop-column.column c.loop-column-test.true
    c.loop-column.invariant (eq-eqb here c.args.class (sym c.class_at.ensures ∙ c.if-class_at-class.true)))

pub loop-column-preserved : goal.loop-column-preserved
loop-column-preserved c =
    let here = class_at c.args.block.now c.args.atom (record { 0 = c.loop-column.column }) in
    find_range_more (has_class c.args.block.now c.args.atom c.args.class) c.loop-column.column c.loop-column.invariant
    (unequal here c.args.class (λ e. c.if-class_at-class.false (c.class_at.ensures ∙ e)))

use Rattle.std.proofs.Common.{rules, ◌∙◌, Some, ap, sym, subst, arith}
use Rattle.std.specs.Option.{option_copied}
use Rattle.std.proofs.lemmas.Result.{err_from_is_err_and}
use Rattle.beas_core.specs.Order.{row_cmp}
use Rattle.beas_core.specs.Sets.{IsInOrder}
use Rattle.beas_core.specs.Nodes.{query_tree}
use Rattle.beas_core.specs.Queries.{reads_in}
use Rattle.beas_core.proofs.GuidedLaw.{answers_in_order}
use Rattle.plan_ops.proofs.FrontFacts.{at_error}
use Rattle.plan_executor.proofs.BlockFacts.{asked_block, asked_union_left, asked_union_right, asked_except_left, asked_except_right}
use Rattle.plan_executor.proofs.trees.+answer_tree.Goals as goal

pub answer_block-requires : goal.answer_block-requires
answer_block-requires g t c =
    let is = asked_block (g.P.AccessPort.rows c.args.port.now) c.requires.fits c.requires.holds c.in-Block.field-0
    (sym c.query.view_is ∙ ap query_tree c.in-Block.is) c.as_slice-in-Block.ensures c.index-as_slice-first.is c.as_slice-in-Block-2.ensures
    c.index-as_slice-first-in-Block.is c.as_slice-plan.ensures c.as_slice.ensures c.guide_where-guide.ensures in
    record {
      classes = is.classes;
      constants = is.constants;
      fits = is.fits;
      sound = is.sound;
      holds = is.holds;
      room = is.room;
    }

pub returns-in_err-rows-in-Block-clause-reads : goal.returns-in_err-rows-in-Block-clause-reads
returns-in_err-rows-in-Block-clause-reads g t c =
    let is = asked_block (g.P.AccessPort.rows c.args.port.now) c.requires.fits c.requires.holds c.in-Block.field-0
    (sym c.query.view_is ∙ ap query_tree c.in-Block.is) c.as_slice-in-Block.ensures c.index-as_slice-first.is c.as_slice-in-Block-2.ensures
    c.index-as_slice-first-in-Block.is c.as_slice-plan.ensures c.as_slice.ensures c.guide_where-guide.ensures in
    let p = err_from_is_err_and c.from_residual.result c.from_residual.ensures.1 in
    let told = c.in_err-rows-in-Block.ensures.reads in
    at_error c.from_residual.result p.0 c.args.reads.now c.answer_block.new.reads
    (reads_in (g.P.AccessPort.rows c.args.port.now) (g.P.AccessPort.accesses c.args.port.now) c.args.prepared.now.guided c.args.prepared.now.derivations c.args.first
    (option_copied c.args.guide) c.args.query.now) p.1 told.0 (omega (arith, told.1, is.reads_are))

pub returns-in_err-rows-in-Block-clause-steps : goal.returns-in_err-rows-in-Block-clause-steps
returns-in_err-rows-in-Block-clause-steps g t c =
    let is = asked_block (g.P.AccessPort.rows c.args.port.now) c.requires.fits c.requires.holds c.in-Block.field-0
    (sym c.query.view_is ∙ ap query_tree c.in-Block.is) c.as_slice-in-Block.ensures c.index-as_slice-first.is c.as_slice-in-Block-2.ensures
    c.index-as_slice-first-in-Block.is c.as_slice-plan.ensures c.as_slice.ensures c.guide_where-guide.ensures in
    let p = err_from_is_err_and c.from_residual.result c.from_residual.ensures.1 in
    let told = c.in_err-rows-in-Block.ensures.steps in
    at_error c.from_residual.result p.0 c.args.steps.now c.answer_block.new.steps
    (reads_in (g.P.AccessPort.rows c.args.port.now) (g.P.AccessPort.accesses c.args.port.now) c.args.prepared.now.guided c.args.prepared.now.derivations c.args.first
    (option_copied c.args.guide) c.args.query.now) p.1 told.0 (omega (arith, told.1, is.reads_are))

pub returns-in_ok-rows-in-Block-clause-rows : goal.returns-in_ok-rows-in-Block-clause-rows
returns-in_ok-rows-in-Block-clause-rows g t c =
    let is = asked_block (g.P.AccessPort.rows c.args.port.now) c.requires.fits c.requires.holds c.in-Block.field-0
    (sym c.query.view_is ∙ ap query_tree c.in-Block.is) c.as_slice-in-Block.ensures c.index-as_slice-first.is c.as_slice-in-Block-2.ensures
    c.index-as_slice-first-in-Block.is c.as_slice-plan.ensures c.as_slice.ensures c.guide_where-guide.ensures in
    c.in_ok-rows-in-Block.ensures.rows ∙ is.rows_are

pub returns-in_ok-rows-in-Block-clause-reads : goal.returns-in_ok-rows-in-Block-clause-reads
returns-in_ok-rows-in-Block-clause-reads g t c =
    let is = asked_block (g.P.AccessPort.rows c.args.port.now) c.requires.fits c.requires.holds c.in-Block.field-0
    (sym c.query.view_is ∙ ap query_tree c.in-Block.is) c.as_slice-in-Block.ensures c.index-as_slice-first.is c.as_slice-in-Block-2.ensures
    c.index-as_slice-first-in-Block.is c.as_slice-plan.ensures c.as_slice.ensures c.guide_where-guide.ensures in
    omega (arith, c.in_ok-rows-in-Block.ensures.reads, is.reads_are)

pub returns-in_ok-rows-in-Block-clause-steps : goal.returns-in_ok-rows-in-Block-clause-steps
returns-in_ok-rows-in-Block-clause-steps g t c =
    let is = asked_block (g.P.AccessPort.rows c.args.port.now) c.requires.fits c.requires.holds c.in-Block.field-0
    (sym c.query.view_is ∙ ap query_tree c.in-Block.is) c.as_slice-in-Block.ensures c.index-as_slice-first.is c.as_slice-in-Block-2.ensures
    c.index-as_slice-first-in-Block.is c.as_slice-plan.ensures c.as_slice.ensures c.guide_where-guide.ensures in
    omega (arith, c.in_ok-rows-in-Block.ensures.steps, is.reads_are)

pub answer_tree-requires : goal.answer_tree-requires
answer_tree-requires g t c κs within =
    let asked = asked_union_left (g.P.AccessPort.rows c.args.port.now) c.requires.fits c.requires.holds c.in-Union.left.value c.in-Union.right.value
    c.deref.ensures (sym c.query.view_is ∙ ap query_tree c.in-Union.is) in
    (search rules, (search rules, (search rules, (asked, c.requires.holds))))

pub answer_tree-requires-in-Union : goal.answer_tree-requires-in-Union
answer_tree-requires-in-Union g t c κs within =
    let asked = asked_union_right (g.P.AccessPort.rows c.args.port.now) c.requires.fits c.requires.holds c.in-Union.left.value c.in-Union.right.value
    c.deref.ensures c.deref-in-Union.ensures c.in_ok-found-in-Union.ensures.next c.in_ok-found-in-Union.ensures.reads
    (sym c.query.view_is ∙ ap query_tree c.in-Union.is) in
    (search rules, (search rules, (search rules, (asked, c.requires.holds))))

pub unite-requires-clause-left : goal.unite-requires-clause-left
unite-requires-clause-left g t c =
    subst (IsInOrder row_cmp) (sym c.in_ok-found-in-Union.ensures.rows)
    (answers_in_order (g.P.AccessPort.rows c.args.port.now) c.args.prepared.now.guided c.args.first (option_copied c.args.guide) c.deref.result.now)

pub unite-requires-clause-right : goal.unite-requires-clause-right
unite-requires-clause-right g t c =
    subst (IsInOrder row_cmp) (sym c.in-Ok.ensures.rows)
    (answers_in_order (g.P.AccessPort.rows c.args.port.now) c.args.prepared.now.guided c.in_ok-found-in-Union.next (option_copied c.args.guide) c.deref-in-Union.result.now)

pub answer_tree-requires-in-Except : goal.answer_tree-requires-in-Except
answer_tree-requires-in-Except g t c κs within =
    let asked = asked_except_left (g.P.AccessPort.rows c.args.port.now) c.requires.fits c.requires.holds c.in-Except.left.value c.in-Except.right.value
    c.deref-in-Except.ensures (sym c.query.view_is ∙ ap query_tree c.in-Except.is) in
    (search rules, (search rules, (search rules, (asked, c.requires.holds))))

pub answer_tree-requires-in-Except-2 : goal.answer_tree-requires-in-Except-2
answer_tree-requires-in-Except-2 g t c κs within =
    let asked = asked_except_right (g.P.AccessPort.rows c.args.port.now) c.requires.fits c.requires.holds c.in-Except.left.value c.in-Except.right.value
    c.deref-in-Except.ensures c.deref-in-Except-2.ensures c.in_ok-found-in-Except.ensures.next c.in_ok-found-in-Except.ensures.reads c.in_ok-found-in-Except.ensures.rows
    (sym c.query.view_is ∙ ap query_tree c.in-Except.is) in
    (search rules, (search rules, (search rules, (asked, c.requires.holds))))

pub subtract-requires-clause-left : goal.subtract-requires-clause-left
subtract-requires-clause-left g t c =
    subst (IsInOrder row_cmp) (sym c.in_ok-found-in-Except.ensures.rows)
    (answers_in_order (g.P.AccessPort.rows c.args.port.now) c.args.prepared.now.guided c.args.first (option_copied c.args.guide) c.deref-in-Except.result.now)

pub subtract-requires-clause-right : goal.subtract-requires-clause-right
subtract-requires-clause-right g t c =
    subst (IsInOrder row_cmp) (sym c.in-Ok-answer_tree.ensures.rows)
    (answers_in_order (g.P.AccessPort.rows c.args.port.now) c.args.prepared.now.guided c.in_ok-found-in-Except.next (Some c.in_ok-found-in-Except.found) c.deref-in-Except-2.result.now)

use Rattle.std.proofs.Common.{sym, ◌∙◌, arith}
use Rattle.std.proofs.lemmas.Result.{err_from_is_err_and}
use Rattle.name_resolution.specs.Refusing.{unknown_tables}
use Rattle.name_resolution.proofs.FirstFacts.{from_start, next_ok, err_next, at_end}
use Rattle.name_resolution.proofs.binding.want_all_tables.Goals as goal

pub loop-block-init : goal.loop-block-init
loop-block-init c = from_start (λ b. unknown_tables c.args.catalogue.now b.now) c.args.blocks.now

pub returns-in_err-want_tables : goal.returns-in_err-want_tables
returns-in_err-want_tables c = let p = err_from_is_err_and c.from_residual.result c.from_residual.ensures.1 in rw (p.1, p.2)
    (err_next (Unit {0}) (Unit {0}) _
    (λ b. unknown_tables c.args.catalogue.now b.now) c.args.blocks.now c.loop-block.block-index c.block-item.result c.loop-block.invariant
    c.loop-block-test.true c.block-item.is (rw c.as_slice.ensures at c.in_err-want_tables.ensures))

pub loop-block-preserved : goal.loop-block-preserved
loop-block-preserved c =
    sym (next_ok
    (λ b. unknown_tables c.args.catalogue.now b.now) c.args.blocks.now c.loop-block.block-index c.block-item.result c.loop-block-test.true c.block-item.is
    (rw c.as_slice.ensures at c.in_ok-want_tables.ensures))
    ∙ c.loop-block.invariant

pub returns : goal.returns
returns c = sym c.loop-block.invariant ∙ at_end (λ b. unknown_tables c.args.catalogue.now b.now) c.args.blocks.now c.loop-block.block-index (omega arith)

use Rattle.std.proofs.Common.{sym, ◌∙◌, arith}
use Rattle.std.proofs.lemmas.Result.{err_from_is_err_and}
use Rattle.name_resolution.specs.Refusing.{flaws}
use Rattle.name_resolution.proofs.FirstFacts.{from_start, next_ok, err_next, at_end}
use Rattle.name_resolution.proofs.refusing.refuse_items.Goals as goal

pub loop-item-init : goal.loop-item-init
loop-item-init c = from_start (flaws c.args.flaw c.args.limit) c.args.items.now

pub returns-in_err-refuse_meaning : goal.returns-in_err-refuse_meaning
returns-in_err-refuse_meaning c = let p = err_from_is_err_and c.from_residual.result c.from_residual.ensures.1 in rw (p.1, p.2)
    (err_next (Unit {0}) (Unit {0}) _
    (flaws c.args.flaw c.args.limit) c.args.items.now c.loop-item.item-index c.item-item.result c.loop-item.invariant c.loop-item-test.true
    c.item-item.is c.in_err-refuse_meaning.ensures)

pub loop-item-preserved : goal.loop-item-preserved
loop-item-preserved c =
    sym (next_ok
    (flaws c.args.flaw c.args.limit) c.args.items.now c.loop-item.item-index c.item-item.result c.loop-item-test.true c.item-item.is
    c.in_ok-refuse_meaning.ensures)
    ∙ c.loop-item.invariant

pub returns : goal.returns
returns c = sym c.loop-item.invariant ∙ at_end (flaws c.args.flaw c.args.limit) c.args.items.now c.loop-item.item-index (omega arith)

use Rattle.std.proofs.Common.{sym, ◌∙◌, ap, arith}
use Rattle.std.specs.List.{flat_map}
use Rattle.std.proofs.lemmas.Result.{err_from_is_err_and}
use Rattle.name_resolution.specs.Refusing.{flaws, sides, first}
use Rattle.name_resolution.proofs.FirstFacts.{from_start, next_ok, err_next, at_end, flat_map_twice}
use Rattle.name_resolution.proofs.refusing.refuse_conditions.Goals as goal

pub loop-condition-init : goal.loop-condition-init
loop-condition-init c = from_start (λ condition. flat_map (flaws c.args.flaw c.args.limit) (sides condition)) c.args.conditions.now

pub returns-in_err-refuse_sides : goal.returns-in_err-refuse_sides
returns-in_err-refuse_sides c = let p = err_from_is_err_and c.from_residual.result c.from_residual.ensures.1 in rw (
  p.1,
  p.2,
  ← flat_map_twice
      (flaws c.args.flaw c.args.limit) sides c.args.conditions.now,
)
    (err_next (Unit {0}) (Unit {0}) _ (λ condition. flat_map (flaws c.args.flaw c.args.limit)
    (sides condition)) c.args.conditions.now c.loop-condition.condition-index c.condition-item.result
    c.loop-condition.invariant c.loop-condition-test.true c.condition-item.is c.in_err-refuse_sides.ensures)

pub loop-condition-preserved : goal.loop-condition-preserved
loop-condition-preserved c =
    sym (next_ok (λ condition. flat_map (flaws c.args.flaw c.args.limit)
    (sides condition)) c.args.conditions.now c.loop-condition.condition-index c.condition-item.result
    c.loop-condition-test.true c.condition-item.is c.in_ok-refuse_sides.ensures)
    ∙ c.loop-condition.invariant

pub returns : goal.returns
returns c =
    ap first (sym (flat_map_twice (flaws c.args.flaw c.args.limit) sides c.args.conditions.now)) ∙ sym c.loop-condition.invariant
    ∙ at_end (λ condition. flat_map (flaws c.args.flaw c.args.limit) (sides condition)) c.args.conditions.now c.loop-condition.condition-index (omega arith)

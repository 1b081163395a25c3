use Rattle.std.proofs.Common.{sym, ◌∙◌, arith, ℕ, ◌+◌}
use Rattle.std.specs.List.{enumerate_from}
use Rattle.std.proofs.lemmas.Result.{err_from_is_err_and}
use Rattle.beas_core.specs.declared.refusal.Refusal.TheVariants.{MixedTypes}
use Rattle.name_resolution.specs.declared.meaning.Condition.{Condition}
use Rattle.name_resolution.specs.Refusing.{refusals_if, is_mixed}
use Rattle.name_resolution.proofs.FirstFacts.{from_start, next_ok, err_next, at_end, numbered_at, numbered_below, numbered_end}
use Rattle.name_resolution.proofs.refusing.refuse_mixed.Goals as goal

pub loop-place-init : goal.loop-place-init
loop-place-init c = from_start (λ p. refusals_if (is_mixed p.1) (MixedTypes c.args.number p.0)) (enumerate_from 1 c.args.conditions.now)

pub returns-in_err-refuse_if_mixed : goal.returns-in_err-refuse_if_mixed
returns-in_err-refuse_if_mixed c =
    let p = err_from_is_err_and c.from_residual.result c.from_residual.ensures.1 in
    let pair : ℕ × Condition = (c.loop-place.place + 1, c.index-conditions-place.result) in
    rw (p.1, p.2) (err_next (Unit {0}) (Unit {0}) _ (λ p. refusals_if (is_mixed p.1) (MixedTypes c.args.number p.0))
    (enumerate_from 1 c.args.conditions.now) c.loop-place.place pair
    c.loop-place.invariant (numbered_below c.args.conditions.now c.loop-place.place c.loop-place-test.true)
    (numbered_at c.args.conditions.now c.loop-place.place c.index-conditions-place.result c.loop-place-test.true c.index-conditions-place.is)
    c.in_err-refuse_if_mixed.ensures)

pub loop-place-preserved : goal.loop-place-preserved
loop-place-preserved c =
    let pair : ℕ × Condition = (c.loop-place.place + 1, c.index-conditions-place.result) in
    sym (next_ok (λ p. refusals_if (is_mixed p.1) (MixedTypes c.args.number p.0)) (enumerate_from 1 c.args.conditions.now) c.loop-place.place pair
    (numbered_below c.args.conditions.now c.loop-place.place c.loop-place-test.true)
    (numbered_at c.args.conditions.now c.loop-place.place c.index-conditions-place.result c.loop-place-test.true c.index-conditions-place.is)
    c.in_ok-refuse_if_mixed.ensures)
    ∙ c.loop-place.invariant

pub returns : goal.returns
returns c = sym c.loop-place.invariant ∙ at_end (λ p. refusals_if (is_mixed p.1) (MixedTypes c.args.number p.0))
    (enumerate_from 1 c.args.conditions.now) c.loop-place.place
    (numbered_end c.args.conditions.now c.loop-place.place (omega arith))

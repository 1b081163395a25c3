use Rattle.std.proofs.Common.{sym, ◌∙◌, arith, get_or}
use Rattle.std.proofs.lemmas.List.{get_or_default}
use Rattle.std.proofs.lemmas.Result.{err_from_is_err_and}
use Rattle.name_resolution.specs.declared.kinds.Flaw.TheVariants.{UnknownColumn}
use Rattle.name_resolution.specs.declared.kinds.Kind.{Kind}
use Rattle.name_resolution.specs.declared.kinds.Kind.TheVariants.{OfMeaning}
use Rattle.name_resolution.specs.Binding.{places_in_all}
use Rattle.name_resolution.proofs.FirstFacts.{from_start, next_ok, err_next, at_end}
use Rattle.name_resolution.proofs.binding.refuse_kinds.Goals as goal

pub loop-kind-init : goal.loop-kind-init
loop-kind-init c = from_start (places_in_all c.args.limits.now c.args.shape.now c.args.blocks.now) c.args.kinds.now

pub returns-in_err-refuse_kind : goal.returns-in_err-refuse_kind
returns-in_err-refuse_kind c =
    let p = err_from_is_err_and c.from_residual.result c.from_residual.ensures.1 in
    let kind : Kind = get_or c.args.kinds.now c.loop-kind.kind-index (OfMeaning UnknownColumn) in
    rw (p.1, p.2)
    (err_next (Unit {0}) (Unit {0}) _
    (places_in_all c.args.limits.now c.args.shape.now c.args.blocks.now) c.args.kinds.now c.loop-kind.kind-index kind c.loop-kind.invariant
    c.loop-kind-test.true (get_or_default c.args.kinds.now c.loop-kind.kind-index
    (OfMeaning UnknownColumn) kind c.loop-kind-test.true) c.in_err-refuse_kind.ensures)

pub loop-kind-preserved : goal.loop-kind-preserved
loop-kind-preserved c =
    let kind : Kind = get_or c.args.kinds.now c.loop-kind.kind-index (OfMeaning UnknownColumn) in
    sym (next_ok (places_in_all c.args.limits.now c.args.shape.now c.args.blocks.now) c.args.kinds.now c.loop-kind.kind-index kind c.loop-kind-test.true
    (get_or_default c.args.kinds.now c.loop-kind.kind-index (OfMeaning UnknownColumn) kind c.loop-kind-test.true) c.in_ok-refuse_kind.ensures)
    ∙ c.loop-kind.invariant

pub returns : goal.returns
returns c = sym c.loop-kind.invariant ∙ at_end (places_in_all c.args.limits.now c.args.shape.now c.args.blocks.now) c.args.kinds.now c.loop-kind.kind-index
    (omega arith)

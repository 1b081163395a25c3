use Rattle.std.proofs.Common.{◌∙◌, ap, arith, false, replicate, take}
use Rattle.std.proofs.lemmas.List.{take-replicate}
use Rattle.normal_form.proofs.normalise.Goals as goal

pub normal_over-requires-clause-used : goal.normal_over-requires-clause-used
normal_over-requires-clause-used c =
    ap (λ n. take n (replicate 64 false)) c.from-count.ensures
    ∙ take-replicate c.of-places.result.count 64 false (omega (arith, c.from-count.ensures, c.if-count-le-FEW_PLACES.true))

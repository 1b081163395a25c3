use Rattle.std.proofs.Common.{◌≤◌, ◌*◌, ◌-◌, ◌^◌, arith}
use Rattle.std.proofs.lemmas.Bool.{leb-true}
use Rattle.labelled_list.specs.Spreads.{parts_of}
use Rattle.labelled_list.proofs.SpreadFacts.{sparse_steps}
use Rattle.labelled_list.proofs.labels.is_sparse.Goals as goal

pub returns-clause-sparse : goal.returns-clause-sparse
returns-clause-sparse c e =
    let s = c.args.stretch.now in
    let step = c.even_step.result in
    let wide : 2 ^ 8 * c.parts.result ≤ step = leb-true (2 ^ 8 * c.parts.result) step e in
    sparse_steps step (parts_of s) (s.high - s.low) (omega (arith, wide, c.parts.ensures)) c.even_step.ensures.fits

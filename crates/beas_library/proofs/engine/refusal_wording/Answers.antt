use Rattle.std.proofs.Common.{◌∙◌}
use Rattle.beas_library.proofs.RefusalFacts.{has_wording, wording_there}
use Rattle.beas_library.proofs.engine.refusal_wording.Goals as goal

pub but_last-wording-requires : goal.but_last-wording-requires
but_last-wording-requires c =
    has_wording c.args.k c.args.number c.args.report.now c.as_str-front.result.now c.as_bytes-bytes.result.now c.requires
    (c.as_str-front.ensures.value ∙ c.in_ok-before.ensures.ok) (c.as_bytes-bytes.ensures.value ∙ c.as_str.ensures ∙ c.in_ok-line.ensures)

pub returns : goal.returns
returns c =
    wording_there c.args.k c.args.number c.args.report.now c.as_str-front.result.now c.as_bytes-bytes.result.now c.requires
    (c.as_str-front.ensures.value ∙ c.in_ok-before.ensures.ok) (c.as_bytes-bytes.ensures.value ∙ c.as_str.ensures ∙ c.in_ok-line.ensures)
    c.in_ok-copy.copy (c.in_ok-copy.ensures ∙ c.but_last-wording.ensures)

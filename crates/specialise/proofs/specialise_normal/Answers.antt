use Rattle.std.proofs.Common.{◌∙◌, ap, sym}
use Rattle.beas_core.specs.Coverage.{reason}
use Rattle.specialise.proofs.Outcomes.{answer_with, covered_is, covered_when, open_some}
use Rattle.specialise.proofs.specialise_normal.Goals as goal

pub returns-in-None : goal.returns-in-None
returns-in-None c =
    let accesses = c.args.accesses.now in
    let normal = c.args.normal.now in
    let cover = c.in_ok-cover.cover in
    let none = ap (λ a. reason normal a cover) (sym c.as_slice.ensures) ∙ ap (reason normal c.as_slice.result.now) (sym c.as_slice-2.ensures)
    ∙ sym c.in-None.ensures in
    covered_is accesses c.args.block.now (covered_when accesses c.args.block.now normal c.requires.normal cover c.in_ok-cover.ensures none)
    ∙ ap answer_with (sym c.new.ensures)

pub search-requires-clause-open : goal.search-requires-clause-open
search-requires-clause-open c =
    let accesses = c.args.accesses.now in
    let normal = c.args.normal.now in
    let cover = c.in_ok-cover.cover in
    open_some accesses c.args.block.now normal c.requires.normal cover c.in_ok-cover.ensures _
    (c.in-Some.ensures ∙ ap (λ a. reason normal a c.as_slice-2.result.now) c.as_slice.ensures ∙ ap (reason normal accesses) c.as_slice-2.ensures)

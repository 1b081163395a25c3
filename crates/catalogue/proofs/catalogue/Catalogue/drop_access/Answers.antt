use Rattle.std.proofs.Common.{◌∙◌, ap, sym, not, Some, true≢false}
use Rattle.beas_core.specs.declared.refusal.Refusal.TheVariants.{UnknownAccess}
use Rattle.beas_core.specs.Results.{refused_if}
use Rattle.catalogue.proofs.catalogue.Catalogue.drop_access.Goals as goal

pub returns-in_err-copy-in-None-clause-live : goal.returns-in_err-copy-in-None-clause-live
returns-in_err-copy-in-None-clause-live c = λ live. absurd (true≢false (sym live ∙ sym c.in-None.ensures.named))

pub returns-in-Some-clause-refused : goal.returns-in-Some-clause-refused
returns-in-Some-clause-refused c = ap (λ b. refused_if (not b) (UnknownAccess c.args.name.now)) (sym c.in-Some.ensures.named)

pub returns-in_ok-copy-in-None-clause-refused : goal.returns-in_ok-copy-in-None-clause-refused
returns-in_ok-copy-in-None-clause-refused c =
    ap (λ b. refused_if (not b) (UnknownAccess c.args.name.now)) (sym c.in-None.ensures.named)
    ∙ ap (λ n. Some (UnknownAccess n)) (sym c.in_ok-copy-in-None.ensures)

pub returns-in_ok-copy-in-None-clause-live : goal.returns-in_ok-copy-in-None-clause-live
returns-in_ok-copy-in-None-clause-live c = λ live. absurd (true≢false (sym live ∙ sym c.in-None.ensures.named))

use Rattle.std.proofs.Common.{◌≡◌, sym, subst}
use Rattle.std.specs.Prelude.{IfOk}
use Rattle.report.specs.Plans.{plan_text}
use Rattle.session.proofs.StoreFacts.{schema_is_catalogue}
use Rattle.session.proofs.queries.plan_lines.Goals as goal

pub returns : goal.returns
returns c =
    subst (λ s. IfOk c.plan_text.result (λ text. text ≡ plan_text s c.args.prepared.now)) (sym (schema_is_catalogue c.args.store.now)) c.plan_text.ensures

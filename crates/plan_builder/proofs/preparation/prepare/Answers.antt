use Rattle.std.proofs.Common.{◌∙◌, List, ap, subst}
use Rattle.beas_core.specs.declared.schema.Access.{Access}
use Rattle.beas_core.specs.Results.{Gives}
use Rattle.plan_builder.specs.Preparation.{preparation_over}
use Rattle.plan_builder.proofs.Extras.{over_none}
use Rattle.plan_builder.proofs.preparation.prepare.Goals as goal

pub returns-clause-prepared : goal.returns-clause-prepared
returns-clause-prepared c =
    let schema = c.args.catalogue.now in
    let query = c.args.query in
    subst (Gives c.prepare_over-2.result)
    (ap (λ (lists : List (List Access)). preparation_over schema lists query) c.new.ensures ∙ over_none schema query) c.prepare_over-2.ensures.prepared

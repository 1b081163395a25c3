use Rattle.std.proofs.Common.{ap, ◌∙◌}
use Rattle.std.proofs.lemmas.Result.{IfOk-weaker}
use Rattle.sql_text.specs.declared.tree.FromItem.{FromItem}
use Rattle.name_resolution.specs.Refusing.{repeated_among}
use Rattle.name_resolution.proofs.DeleteFacts.{one_alias}
use Rattle.name_resolution.proofs.deleting.look_up.Goals as goal

pub returns-clause-block : goal.returns-clause-block
returns-clause-block c =
    IfOk-weaker c.look_up_over.result _ _ (λ found is. is c.args.table.now (c.as_slice.ensures ∙ c.in_ok-items.ensures)) c.look_up_over.ensures.block

pub returns-clause-never_refused : goal.returns-clause-never_refused
returns-clause-never_refused c =
    let item : FromItem = record { table = c.args.table.now; alias = c.args.table.now } in
    rw (ap repeated_among (c.as_slice.ensures ∙ c.in_ok-items.ensures) ∙ one_alias item) at c.look_up_over.ensures.repeated

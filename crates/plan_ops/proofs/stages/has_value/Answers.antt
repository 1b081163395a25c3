use Rattle.std.proofs.Common.{◌≡◌, ◌∙◌, pos, get_or, ap, sym}
use Rattle.std.specs.Ordering.{eq_by_cmp, is_eq}
use Rattle.std.proofs.lemmas.Cmp.{tied_itself}
use Rattle.beas_core.specs.declared.value.Value.TheVariants.{Int}
use Rattle.beas_core.specs.Groups.{value_at}
use Rattle.beas_core.specs.Hashing.{equal_from}
use Rattle.beas_core.specs.Order.{value_cmp, value_cmp_total}
use Rattle.beas_core.specs.Telling.{value_cmp_tells}
use Rattle.plan_ops.specs.Joins.{joined_by}
use Rattle.plan_ops.proofs.stages.has_value.Goals as goal

pub returns-then-column-len : goal.returns-then-column-len
returns-then-column-len c =
    let joined = joined_by c.args.join.now.sources.items c.args.row.now c.args.tuple.now in
    let value = c.args.value.now in
    let other = c.joined_value.result.now in
    let told : c.eq.result ≡ eq_by_cmp value_cmp value other = c.eq.ensures in
    let is : other ≡ value_at joined c.args.column = c.joined_value.ensures ∙ ap (λ n. get_or joined n (Int (pos 0))) c.from-column.ensures in (
      λ t. value_cmp_tells value other (equal_from (value_cmp value other) (sym told ∙ t)) ∙ is,
      λ e. told ∙ ap (eq_by_cmp value_cmp value) (is ∙ sym e) ∙ ap is_eq (tied_itself value_cmp_total value),
    )

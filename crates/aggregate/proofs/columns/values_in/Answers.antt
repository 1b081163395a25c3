use Rattle.std.proofs.Common.{◌∙◌, ap, arith}
use Rattle.std.proofs.lemmas.List.{take_all}
use Rattle.std.proofs.Common.{map}
use Rattle.beas_core.specs.Order.{value_cmp}
use Rattle.beas_core.specs.Sets.{distinct}
use Rattle.aggregate.specs.Grouping.{column_of}
use Rattle.aggregate.proofs.GroupFacts.{values_from_sort}
use Rattle.aggregate.proofs.columns.values_in.Goals as goal

pub returns : goal.returns
returns c =
    values_from_sort c.loop-row.values.items c.sort_unstable.new.self.items c.dedup.new.self.items c.sort_unstable.ensures.permutation
    c.sort_unstable.ensures.sorted c.dedup.ensures.filtered
    ∙ ap (distinct value_cmp) c.loop-row.invariant
    ∙ ap (λ rows. distinct value_cmp (map (column_of c.args.column) rows)) (take_all c.loop-row.row-index c.args.group.now (omega arith))

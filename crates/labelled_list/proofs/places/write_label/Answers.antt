use Rattle.std.proofs.Common.{ap, sym}
use Rattle.indexmap.specs.IndexMap.{set_value_at}
use Rattle.indexmap.specs.Layout.{length-set_value_at}
use Rattle.labelled_list.specs.declared.slot.Standing.{Standing}
use Rattle.labelled_list.proofs.LabelFacts.{value_at}
use Rattle.labelled_list.proofs.places.write_label.Goals as goal

pub returns-clause-same_length : goal.returns-clause-same_length
returns-clause-same_length c =
    let w : Standing = record { count = c.index.result.now.count; label = c.args.label } in
    length-set_value_at c.args.tuples.now.entries c.args.slot.now.entry w

pub returns-clause-relabelled : goal.returns-clause-relabelled
returns-clause-relabelled c =
    let es = c.args.tuples.now.entries in
    let e = c.args.slot.now.entry in
    ap (λ n. let w : Standing = record { count = n; label = c.args.label } in set_value_at es e w)
    (ap (λ (s : Standing). s.count) (sym (value_at es e c.index.result.now c.index.ensures)))

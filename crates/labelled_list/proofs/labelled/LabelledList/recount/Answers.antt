use Rattle.std.proofs.Common.{◌<◌, List, length, get_or, set, ap, sym, ◌∙◌, arith}
use Rattle.std.specs.Prelude.{map}
use Rattle.std.proofs.lemmas.List.{map-set, get_or-map}
use Rattle.labelled_list.specs.declared.slot.Standing.{Standing}
use Rattle.labelled_list.specs.declared.coded.Coded.{Coded}
use Rattle.labelled_list.specs.Labels.{no_tuple, item_of, in_order}
use Rattle.labelled_list.proofs.KeyFacts.{length_items}
use Rattle.labelled_list.proofs.LabelFacts.{length_order}
use Rattle.labelled_list.proofs.labelled.LabelledList.recount.Goals as goal

pub returns : goal.returns
returns c d =
    let es = c.self.inside.tuples.entries in
    let slots = c.self.inside.slots in
    let at = c.args.at in
    let within : at < length (in_order es slots) = omega (arith, c.requires, length_items es slots, ap length c.self.view_is, length_order es slots) in
    let w : Standing = record { count = c.args.count; label = c.label_at-label.result } in
    ap (map item_of) c.write.ensures.written
    ∙ map-set item_of (in_order es slots) at ((get_or (in_order es slots) at no_tuple).0, w)
    ∙ ap (λ ws. let x : Coded = record { codes = ws; count = c.args.count } in set (map item_of (in_order es slots)) at x)
    (sym (ap (λ (x : Coded). x.codes) (get_or-map item_of (in_order es slots) at no_tuple d within)))
    ∙ ap (λ (xs : List Coded). let x : Coded = record { codes = (get_or xs at d).codes; count = c.args.count } in set xs at x) c.self.view_is

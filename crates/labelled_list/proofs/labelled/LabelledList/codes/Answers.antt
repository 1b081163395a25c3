use Rattle.std.proofs.Common.{◌<◌, List, length, get_or, ap, sym, ◌∙◌, arith}
use Rattle.std.proofs.lemmas.Option.{get_or_from_slice_get}
use Rattle.labelled_list.specs.declared.coded.Coded.{Coded}
use Rattle.labelled_list.specs.Labels.{no_tuple}
use Rattle.labelled_list.proofs.KeyFacts.{item_at, length_items}
use Rattle.labelled_list.proofs.labelled.LabelledList.codes.Goals as goal

pub returns : goal.returns
returns c d =
    let es = c.self.inside.tuples.entries in
    let slots = c.self.inside.slots in
    let s = c.get.result.now in
    let within : c.args.at < length slots = omega (arith, c.requires, length_items es slots, ap length c.self.view_is) in
    let t = get_or_from_slice_get es s.entry (c.in-Some.codes.now, c.in-Some.field-0-1.now) no_tuple (sym c.in-Some.ensures.entry) in
    c.as_slice.ensures ∙ sym (ap (λ x. x.0) t) ∙ ap (λ x. (get_or es x.entry no_tuple).0) c.get.ensures
    ∙ sym (ap (λ (x : Coded). x.codes) (item_at es slots c.args.at d s within))
    ∙ ap (λ (xs : List Coded). (get_or xs c.args.at d).codes) c.self.view_is

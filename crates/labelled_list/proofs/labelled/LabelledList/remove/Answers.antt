use Rattle.std.proofs.Common.{◌<◌, length, ap, ◌∙◌, arith, length-set}
use Rattle.std.specs.List.{remove}
use Rattle.std.specs.Prelude.{map}
use Rattle.labelled_list.specs.Labels.{item_of, in_order}
use Rattle.labelled_list.proofs.KeyFacts.{dropped, length_items, map_remove}
use Rattle.labelled_list.proofs.labelled.LabelledList.remove.Goals as goal

pub remove-requires : goal.remove-requires
remove-requires c =
    let es = c.self.inside.tuples.entries in
    let slots = c.self.inside.slots in
    let s = c.get.result.now in
    omega (arith, c.requires, length_items es slots, ap length c.self.view_is, ap length (c.recount.ensures s), length-set slots c.position_of_entry-place.result s)

pub invariant_of-self : goal.invariant_of-self
invariant_of-self c =
    let es = c.self.inside.tuples.entries in
    let slots = c.self.inside.slots in
    let s = c.get.result.now in
    let within : c.args.at < length slots = omega (arith, c.requires, length_items es slots, ap length c.self.view_is) in
    (dropped es c.swap_remove_index.new.self.entries slots c.recount.new.self c.remove.new.self c.args.at c.position_of_entry-place.result c.len-last.result s c.swap_remove_index.result
    c.self.invariant within c.position_of_entry-place.ensures.within c.get.ensures c.len-last.ensures.len c.position_of_entry-place.ensures.named
    c.swap_remove_index.ensures.entry c.swap_remove_index.ensures.entries (c.recount.ensures s) c.remove.ensures).labelled

pub returns : goal.returns
returns c =
    let es = c.self.inside.tuples.entries in
    let slots = c.self.inside.slots in
    let s = c.get.result.now in
    let within : c.args.at < length slots = omega (arith, c.requires, length_items es slots, ap length c.self.view_is) in
    ap (map item_of) (dropped es c.swap_remove_index.new.self.entries slots c.recount.new.self c.remove.new.self c.args.at c.position_of_entry-place.result c.len-last.result s c.swap_remove_index.result
    c.self.invariant within c.position_of_entry-place.ensures.within c.get.ensures c.len-last.ensures.len c.position_of_entry-place.ensures.named
    c.swap_remove_index.ensures.entry c.swap_remove_index.ensures.entries (c.recount.ensures s) c.remove.ensures).order
    ∙ map_remove item_of (in_order es slots) c.args.at ∙ ap (λ xs. remove xs c.args.at) c.self.view_is

use Rattle.std.proofs.Common.{◌≡◌, ℕ, List, map, insert, ap, ◌∙◌}
use Rattle.indexmap.proofs.MapLemmas.{OnOk-map}
use Rattle.labelled_list.specs.declared.coded.Coded.{Coded}
use Rattle.labelled_list.specs.declared.slot.Standing.{Standing}
use Rattle.labelled_list.specs.Labels.{item_of, in_order, items_of}
use Rattle.labelled_list.proofs.KeyFacts.{map_insert}
use Rattle.labelled_list.proofs.labelled.LabelledList.insert.Goals as goal

pub returns-clause-ok : goal.returns-clause-ok
returns-clause-ok c =
    let slots = c.self.inside.slots in
    let mid = c.make_label-label.new.tuples.entries in
    let at = c.args.at in
    let key = c.args.tuple.codes in
    let w : Standing = record { count = c.args.tuple.count; label = c.make_label-label.result } in
    let x : List ℕ → Coded = λ ws. record { codes = ws; count = c.args.tuple.count } in
    OnOk-map c.put.result
    (in_order c.put.new.tuples.entries c.put.new.slots ≡ insert (in_order mid slots) at (key, w))
    (items_of c.put.new.tuples.entries c.put.new.slots ≡ insert c.args.self.now at c.args.tuple)
    (λ h.
    ap (map item_of) h ∙ map_insert item_of (in_order mid slots) at (key, w)
    ∙ ap (λ xs. insert xs at (x key)) (c.make_label-label.ensures.same ∙ c.self.view_is))
    c.put.ensures.ok

use Rattle.std.proofs.Common.{◌≡◌, ap, sym, ◌∙◌, subst, insert, remove, OnOk, OnErr}
use Rattle.labelled_list.specs.declared.slot.Slot.{Slot}
use Rattle.labelled_list.specs.Labels.{IsLabelled, in_order, items_of}
use Rattle.labelled_list.proofs.KeyFacts.{added, remove_insert}
use Rattle.labelled_list.proofs.labelled.put.Goals.{in-Ok, in-Err}
use Rattle.labelled_list.proofs.labelled.put.Goals as goal

pub returns-clause-labelled : goal.returns-clause-labelled
returns-clause-labelled c =
    let es = c.args.tuples.now.entries in
    let slots = c.args.slots.now in
    elim c.match-insert.branch [
      | in-Ok w ↦
          subst (λ ss. IsLabelled c.insert-2.new.self.entries ss) (sym w.slots-is)
          (added es c.insert-2.new.self.entries slots c.insert.new.self c.args.at c.len-entry.result c.args.key c.args.standing c.requires.labelled c.requires.within c.requires.room c.requires.absent c.requires.sits
          c.len-entry.ensures.len w.in-Ok.ensures.entries c.in_ok-insert.ensures.ok).labelled
      | in-Err w ↦
          let x : Slot = record { entry = c.len-entry.result } in
          let same = w.slots-is ∙ w.remove.ensures ∙ ap (λ ss. remove ss c.args.at) c.in_ok-insert.ensures.ok ∙ remove_insert slots c.args.at x c.requires.within in
          subst (λ ss. IsLabelled c.insert-2.new.self.entries ss) (sym same) (subst (λ ts. IsLabelled ts slots) (sym w.in-Err.ensures.err) c.requires.labelled)
    ]

pub returns-clause-ok : goal.returns-clause-ok
returns-clause-ok c =
    let es = c.args.tuples.now.entries in
    let slots = c.args.slots.now in
    let more = c.insert-2.new.self.entries in
    let there = insert (in_order es slots) c.args.at (c.args.key, c.args.standing) in
    elim c.match-insert.branch [
      | in-Ok w ↦
          subst (λ r. OnOk r (in_order more c.match-insert.slots ≡ there)) (sym w.result-is)
          (ap (in_order more) w.slots-is
          ∙ (added es more slots c.insert.new.self c.args.at c.len-entry.result c.args.key c.args.standing c.requires.labelled c.requires.within c.requires.room c.requires.absent c.requires.sits
          c.len-entry.ensures.len w.in-Ok.ensures.entries c.in_ok-insert.ensures.ok).order)
      | in-Err w ↦ subst (λ r. OnOk r (in_order more c.match-insert.slots ≡ there)) (sym w.result-is) tt
    ]

pub returns-clause-err : goal.returns-clause-err
returns-clause-err c =
    let es = c.args.tuples.now.entries in
    let slots = c.args.slots.now in
    let more = c.insert-2.new.self.entries in
    elim c.match-insert.branch [
      | in-Ok w ↦ subst (λ r. OnErr r (items_of more c.match-insert.slots ≡ items_of es slots)) (sym w.result-is) tt
      | in-Err w ↦
          let x : Slot = record { entry = c.len-entry.result } in
          let same = w.slots-is ∙ w.remove.ensures ∙ ap (λ ss. remove ss c.args.at) c.in_ok-insert.ensures.ok ∙ remove_insert slots c.args.at x c.requires.within in
          subst (λ r. OnErr r (items_of more c.match-insert.slots ≡ items_of es slots)) (sym w.result-is)
          (ap (items_of more) same ∙ ap (λ ts. items_of ts slots) w.in-Err.ensures.err)
    ]

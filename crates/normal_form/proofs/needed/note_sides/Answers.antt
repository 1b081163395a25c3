use Rattle.std.proofs.Common.{[], ◌∷◌, ap, sym, ◌∙◌}
use Rattle.beas_core.specs.Classes.{operand_places}
use Rattle.normal_form.specs.Places.{with_places}
use Rattle.normal_form.proofs.Used.{used_append}
use Rattle.normal_form.proofs.needed.note_sides.Goals as goal

pub returns-in-At : goal.returns-in-At
returns-in-At c =
    let place = c.in-At.place in
    c.note-in-At.ensures
    ∙ ap (λ u. with_places c.args.places.now.atoms.now u (place ∷ [])) c.note.ensures
    ∙ sym (used_append c.args.places.now.atoms.now c.args.used.now (c.args.comparison.now.left ∷ []) (place ∷ []))
    ∙ ap (λ o. with_places c.args.places.now.atoms.now c.args.used.now (c.args.comparison.now.left ∷ operand_places o)) (sym c.in-At.is)

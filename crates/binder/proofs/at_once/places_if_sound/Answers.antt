use Rattle.std.proofs.Common.{◌∷◌, [], ◌++◌, ◌∙◌, List, ap, map, subst, sym, arith}
use Rattle.std.proofs.lemmas.List.{take_all}
use Rattle.sql_text.specs.declared.tree.ColumnRef.{ColumnRef}
use Rattle.name_resolution.specs.Scopes.{told_by}
use Rattle.binder.specs.AtOnce.{ArePlacesOf}
use Rattle.binder.proofs.AtOnceFacts.{places_sound_to}
use Rattle.binder.proofs.at_once.places_if_sound.Goals as goal

pub loop-reference-preserved : goal.loop-reference-preserved
loop-reference-preserved c =
    places_sound_to (told_by c.args.names.now) c.args.references.now c.loop-reference.reference-index c.reference-item.result c.in-At.column
    c.loop-reference.places _ c.loop-reference-test.true c.reference-item.is (sym c.in_ok-column.ensures ∙ c.in-At.is) c.loop-reference.invariant
    (c.in_ok-push.ensures.ok ∙ ap (λ p. c.loop-reference.places ++ p ∷ []) c.place_of.ensures)

pub returns : goal.returns
returns c =
    subst (λ (refs : List ColumnRef). ArePlacesOf c.loop-reference.places (map (told_by c.args.names.now) refs))
    (take_all c.loop-reference.reference-index c.args.references.now (omega (arith, c.loop-reference-test.false))) c.loop-reference.invariant

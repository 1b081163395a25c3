use Rattle.std.proofs.Common.{◌++◌, sym, ◌∙◌, ap, map, get_or}
use Rattle.std.specs.List.{range_with_len}
use Rattle.beas_core.specs.declared.query.Atom.{Atom}
use Rattle.name_resolution.specs.LookedUp.{place_at}
use Rattle.name_resolution.proofs.PartFacts.{places_to}
use Rattle.name_resolution.proofs.building.all_places.Goals as goal

pub loop-number-preserved : goal.loop-number-preserved
loop-number-preserved c =
    let none : Atom = record { table = record { 0 = 0 }; width = 0 } in
    c.in_ok-add_places.ensures
    ∙ ap (λ ps. ps ++ map (place_at c.loop-number.number) (range_with_len 0
    (get_or c.args.atoms.now c.loop-number.number none).width)) c.loop-number.invariant
    ∙ sym (places_to c.args.atoms.now c.loop-number.number none c.loop-number-test.true)

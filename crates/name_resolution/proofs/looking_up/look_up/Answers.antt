use Rattle.std.proofs.Common.{ap, ◌∙◌, map}
use Rattle.name_resolution.specs.LookedUp.{atom_of, output_kinds}
use Rattle.name_resolution.specs.Meanings.{sources, condition}
use Rattle.name_resolution.specs.Scopes.{told_by}
use Rattle.name_resolution.proofs.LookedUpFacts.{looked_up_is}
use Rattle.name_resolution.proofs.looking_up.look_up.Goals as goal

pub returns-in-Ok-clause-block : goal.returns-in-Ok-clause-block
returns-in-Ok-clause-block c =
    looked_up_is c.args.catalogue.now c.args.block.now (told_by c.in_ok-names.names) (rw c.as_slice-items.ensures at c.in_ok-names.ensures.names)
    c.in-Ok.atoms c.in_ok-meanings.meanings c.in_ok-kinds.kinds c.in_ok-conditions.conditions
    (c.in-Ok.ensures ∙ ap (map (atom_of c.args.catalogue.now)) c.as_slice-items.ensures)
    (c.in_ok-meanings.ensures ∙ ap (map (told_by c.in_ok-names.names)) c.as_slice.ensures)
    (c.in_ok-kinds.ensures ∙ ap (output_kinds c.args.block.now.star (sources c.args.catalogue.now c.args.block.now.from_items)) c.as_slice-3.ensures)
    (c.in_ok-conditions.ensures ∙ ap (map (condition (told_by c.in_ok-names.names))) c.as_slice-2.ensures)

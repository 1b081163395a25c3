use Rattle.std.proofs.Common.{◌∙◌, ap, cond, map}
use Rattle.std.specs.List.{filter_map}
use Rattle.name_resolution.specs.LookedUp.{all_places, column_of, place_of}
use Rattle.name_resolution.proofs.PartFacts.{bound_is}
use Rattle.name_resolution.proofs.building.bound_block.Goals as goal

pub returns : goal.returns
returns c =
    let star = c.args.block.now.star in
    bound_is c.args.block.now _ c.add_conditions.new.block c.in_ok-copy.ensures c.new.ensures c.new-2.ensures c.new-3.ensures (c.in_ok-outputs_of.ensures
    ∙ ap (λ atoms. cond star (all_places atoms) (map place_of (filter_map column_of c.as_slice-2.result.now))) c.as_slice.ensures
    ∙ ap (λ items. cond star (all_places c.args.block.now.atoms) (map place_of (filter_map column_of items))) c.as_slice-2.ensures)
    (rw c.as_slice-3.ensures at c.in_ok-add_conditions.ensures)

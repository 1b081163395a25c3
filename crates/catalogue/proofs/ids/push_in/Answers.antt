use Rattle.std.proofs.Common.{◌≡◌, ◌∙◌, ◌<◌, ◌++◌, ◌∷◌, [], ap, sym, map, set, length, get_or, arith}
use Rattle.std.proofs.lemmas.List.{map-set, get_or-map}
use Rattle.catalogue.specs.Kept.{Ids}
use Rattle.catalogue.proofs.ids.push_in.Goals as goal

pub returns : goal.returns
returns c =
    let inner = λ (ids : Ids). ids.items in
    let within : c.args.at < length c.args.lists.now.items = omega (arith, c.requires.within, c.args.lists.now.ok.0) in
    let old : c.index_mut.result.now.items ≡ get_or (map inner c.args.lists.now.items) c.args.at [] =
    ap inner c.index_mut.ensures.value ∙ sym (get_or-map inner c.args.lists.now.items c.args.at c.index_mut.result.now [] within) in
    map-set inner c.args.lists.now.items c.args.at c.push_in_room.new.items
    ∙ ap (set (map inner c.args.lists.now.items) c.args.at) (c.push_in_room.ensures ∙ ap (λ ids. ids ++ c.args.id ∷ []) old)

use Rattle.std.proofs.Common.{◌≡◌, ◌∙◌, ◌<◌, ◌==◌, not, [], ap, sym, map, set, length, get_or, arith, rules}
use Rattle.std.specs.Prelude.{filter}
use Rattle.std.proofs.lemmas.List.{map-set, get_or-map}
use Rattle.std.proofs.lemmas.Fn.{filter_same}
use Rattle.catalogue.specs.Kept.{Ids}
use Rattle.catalogue.proofs.ids.remove_in.Goals as goal

pub returns : goal.returns
returns c =
    let inner = λ (ids : Ids). ids.items in
    let within : c.args.at < length c.args.lists.now.items = omega (arith, c.requires, c.args.lists.now.ok.0) in
    let old : c.index_mut-ids.result.now.items ≡ get_or (map inner c.args.lists.now.items) c.args.at [] =
    ap inner c.index_mut-ids.ensures.value ∙ sym (get_or-map inner c.args.lists.now.items c.args.at c.index_mut-ids.result.now [] within) in
    let kept : c.retain.new.self.items ≡ filter (λ i. not (i.0 == c.args.id.0)) c.index_mut-ids.result.now.items =
    filter_same _ (λ i. not (i.0 == c.args.id.0)) _ (λ x b f r. search rules) c.index_mut-ids.result.now.items c.retain.new.self.items
    c.retain.ensures.filtered in
    map-set inner c.args.lists.now.items c.args.at c.retain.new.self
    ∙ ap (set (map inner c.args.lists.now.items) c.args.at) (kept ∙ ap (filter (λ i. not (i.0 == c.args.id.0))) old)

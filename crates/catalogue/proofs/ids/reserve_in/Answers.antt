use Rattle.std.proofs.Common.{◌∙◌, ap}
use Rattle.std.proofs.Math.Seq.{map-set_same}
use Rattle.catalogue.specs.Kept.{Ids}
use Rattle.catalogue.proofs.ids.reserve_in.Goals as goal

pub returns-in_err-reserve-clause-same : goal.returns-in_err-reserve-clause-same
returns-in_err-reserve-clause-same c =
    let inner = λ (ids : Ids). ids.items in
    map-set_same inner c.args.lists.now.items c.args.at c.reserve.new.self c.index_mut-ids.result.now
    (c.reserve.ensures.items ∙ ap inner c.index_mut-ids.ensures.value)

pub returns-clause-same : goal.returns-clause-same
returns-clause-same c =
    let inner = λ (ids : Ids). ids.items in
    map-set_same inner c.args.lists.now.items c.args.at c.reserve.new.self c.index_mut-ids.result.now
    (c.reserve.ensures.items ∙ ap inner c.index_mut-ids.ensures.value)

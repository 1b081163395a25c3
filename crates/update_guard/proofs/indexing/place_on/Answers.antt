use Rattle.std.proofs.Common.{◌<◌, length, ap, arith}
use Rattle.update_guard.proofs.IndexFacts.{place_on, live_at}
use Rattle.update_guard.proofs.indexing.place_on.Goals as goal

pub position-requires : goal.position-requires
position-requires c =
    let within : c.args.k < length c.ids_on.result.now = omega (arith, c.requires.within, ap length c.ids_on.ensures.ids) in
    live_at c.args.catalogue.now.accesses c.args.table.0 c.args.k c.ids_on.result.now c.id_in-id.result c.ids_on.ensures.sound.ids_rise c.ids_on.ensures.ids
    within c.id_in-id.ensures

pub returns : goal.returns
returns c =
    let within : c.args.k < length c.ids_on.result.now = omega (arith, c.requires.within, ap length c.ids_on.ensures.ids) in
    place_on c.args.catalogue.now.accesses c.args.table.0 c.args.k c.position.result c.ids_on.result.now c.id_in-id.result c.ids_on.ensures.sound.ids_rise
    c.ids_on.ensures.ids within c.id_in-id.ensures
    c.position.ensures.within c.position.ensures.found

use Rattle.std.proofs.Common.{◌∙◌, ◌<◌, ap, length, map, arith, sym, subst}
use Rattle.std.specs.Prelude.{All}
use Rattle.std.proofs.lemmas.List.Elements.{All-push}
use Rattle.update_guard.proofs.IndexFacts.{live_at}
use Rattle.word_index.specs.Parts.{access_at}
use Rattle.word_index.proofs.PartFacts.{one_more}
use Rattle.word_index.proofs.freezing.places_on.Goals as goal

pub position-requires : goal.position-requires
position-requires c =
    live_at c.args.catalogue.now.accesses c.args.table.0 c.loop-k.k c.ids_on-ids.result.now c.id_in.result c.ids_on-ids.ensures.sound.ids_rise
    c.ids_on-ids.ensures.ids (omega arith) c.id_in.ensures

pub loop-k-preserved : goal.loop-k-preserved
loop-k-preserved c =
    let all = c.args.catalogue.now.accesses in
    let old = c.loop-k.places.items in
    let e = c.in_ok-push.ensures.items in
    record {
      within = subst (All (λ place. place < length all)) (sym e) (All-push (λ place. place < length all) old c.position.result c.loop-k.invariant.within c.position.ensures.within);
      on = ap (map (access_at all)) e
          ∙ one_more all c.args.table old c.loop-k.k c.position.result c.ids_on-ids.result.now c.id_in.result c.ids_on-ids.ensures.sound.ids_rise
          c.ids_on-ids.ensures.ids (omega arith) c.id_in.ensures c.position.ensures.found c.loop-k.invariant.on;
    }

use Rattle.std.proofs.Common.{◌≡◌, ◌∙◌, ◌<◌, ◌+◌, ◌^◌, ◌++◌, ◌∷◌, [], Bool, take, length, get_or, set}
use Rattle.std.proofs.Common.{ap, sym, subst, arith, cond, not, Some, if◌then◌else◌, append-nil}
use Rattle.std.proofs.lemmas.List.{get_or_default, take_all, length-map}
use Rattle.access_index.specs.Index.{IsIndexOf, Index}
use Rattle.catalogue.specs.Kept.{ids_on}
use Rattle.catalogue.specs.Schema.{accesses_on}
use Rattle.update_guard.specs.Guarding.{IndexesOf}
use Rattle.update_guard.specs.Indexing.{AreIndexed, no_access}
use Rattle.update_guard.specs.Seen.{index_at, no_index}
use Rattle.update_guard.proofs.BoundFacts.{broken_from, broken_end, judged}
use Rattle.update_guard.proofs.IndexFacts.{moved_long, move_in, move_kept, move_fresh, from_all_done, fresh_at}
use Rattle.update_guard.proofs.indexing.add_row.Goals as goal

pub add_if_holds-requires-clause-within : goal.add_if_holds-requires-clause-within
add_if_holds-requires-clause-within g c = omega (arith, c.place_on-place.ensures.within, c.loop-k.invariant.long)

pub add_if_holds-requires-clause-room : goal.add_if_holds-requires-clause-room
add_if_holds-requires-clause-room g c =
    let accesses = c.args.catalogue.now.accesses in
    let old = g.I.Indexes.seen c.args.indexes.now in
    let place = c.place_on-place.result in
    let listed : c.loop-k.k < length (ids_on accesses c.args.table.0) = omega (arith, c.loop-k-test.true, ap length c.ids_on-k-end.ensures.ids) in
    let same = fresh_at accesses c.args.table.0 c.loop-k.k place old (g.I.Indexes.seen c.loop-k.indexes) no_index c.place_on-place.ensures listed
    c.loop-k.invariant.fresh in
    let long : place < length old = omega (arith, c.place_on-place.ensures.within, c.requires.count) in
    subst (λ (i : Index). i.total + 1 < 2 ^ 32) (sym same) (c.requires.room place no_index long)

pub returns-in-Ok-false-clause-indexed : goal.returns-in-Ok-false-clause-indexed
returns-in-Ok-false-clause-indexed g c rows front live is =
    let accesses = c.args.catalogue.now.accesses in
    let table = c.args.table.0 in
    let new = g.I.Indexes.seen c.add_if_holds.new.self in
    let place = c.place_on-place.result in
    let row = c.args.row.now in
    let after = front ++ row ∷ [] in
    let done = take c.loop-k.k (ids_on accesses table) in
    let kept = move_kept rows front after done c.place_on-place.ensures c.loop-k.invariant.long live c.add_if_holds.ensures.moved
    (λ own h. subst (λ (b : Bool). IsIndexOf (index_at new place) (if b then own ++ row ∷ [] else own)) c.in-Ok-false.field-0-test
    (c.in-Ok-false.ensures.index own h)) (c.loop-k.invariant.moved rows front live is) in
    subst (λ own. IndexesOf accesses (set rows table own) (g.I.Indexes.seen c.remove_from.new.indexes)) (append-nil front)
    (c.remove_from.ensures.taken rows front [] live
    (subst (λ own. AreIndexed accesses rows table own after done new) (sym (append-nil front)) kept))

pub returns-in-Ok-false-clause-first : goal.returns-in-Ok-false-clause-first
returns-in-Ok-false-clause-first g c rows live indexed hold =
    let accesses = c.args.catalogue.now.accesses in
    let old = g.I.Indexes.seen c.args.indexes.now in
    let now = g.I.Indexes.seen c.loop-k.indexes in
    let place = c.place_on-place.result in
    let added = c.args.row.now ∷ [] in
    let listed : c.loop-k.k < length (ids_on accesses c.args.table.0) = omega (arith, c.loop-k-test.true, ap length c.ids_on-k-end.ensures.ids) in
    let same = fresh_at accesses c.args.table.0 c.loop-k.k place old now (index_at now place) c.place_on-place.ensures listed
    c.loop-k.invariant.fresh in
    let within : place < length now = omega (arith, c.place_on-place.ensures.within, c.loop-k.invariant.long) in
    let mine = accesses_on accesses c.args.table in
    let next = broken_from mine (get_or rows c.args.table.0 [] ++ added) (c.loop-k.k + 1) in
    c.loop-k.invariant.whole rows live indexed hold
    ∙ judged accesses c.args.table rows added c.loop-k.k place old (index_at now place)
    c.in-Ok-false.field-0 c.place_on-place.ensures listed indexed hold (get_or_default now place no_index (index_at now place) within ∙ same)
    c.in-Ok-false.ensures.holds
    ∙ ap (λ b. cond (not b) (Some (get_or accesses place no_access)) next) c.in-Ok-false.field-0-test

pub returns-in-Ok-false-clause-key : goal.returns-in-Ok-false-clause-key
returns-in-Ok-false-clause-key g c = ap (λ a. a.table.0) (c.place_on-place.ensures.at no_access) ∙ c.place_on-place.ensures.is_on.on

pub returns-in-Err-clause-err : goal.returns-in-Err-clause-err
returns-in-Err-clause-err g c rows front live is =
    let accesses = c.args.catalogue.now.accesses in
    let table = c.args.table.0 in
    let new = g.I.Indexes.seen c.add_if_holds.new.self in
    let after = front ++ c.args.row.now ∷ [] in
    let done = take c.loop-k.k (ids_on accesses table) in
    let kept = subst (λ ixs. AreIndexed accesses rows table front after done ixs) (sym c.in-Err.ensures.err)
    (c.loop-k.invariant.moved rows front live is) in
    subst (λ own. IndexesOf accesses (set rows table own) (g.I.Indexes.seen c.remove_from-in-Err.new.indexes)) (append-nil front)
    (c.remove_from-in-Err.ensures.taken rows front [] live
    (subst (λ own. AreIndexed accesses rows table own after done new) (sym (append-nil front)) kept))

pub loop-k-preserved : goal.loop-k-preserved
loop-k-preserved g c =
    let accesses = c.args.catalogue.now.accesses in
    let old = g.I.Indexes.seen c.args.indexes.now in
    let now = g.I.Indexes.seen c.loop-k.indexes in
    let new = g.I.Indexes.seen c.add_if_holds.new.self in
    let place = c.place_on-place.result in
    let added = c.args.row.now ∷ [] in
    let listed : c.loop-k.k < length (ids_on accesses c.args.table.0) = omega (arith, c.loop-k-test.true, ap length c.ids_on-k-end.ensures.ids) in
    let within : place < length now = omega (arith, c.place_on-place.ensures.within, c.loop-k.invariant.long) in
    record {
      long = moved_long accesses c.add_if_holds.ensures.moved c.loop-k.invariant.long;
      moved = λ rows front live was.
          move_in rows front (front ++ added) c.place_on-place.ensures listed c.loop-k.invariant.long live c.add_if_holds.ensures.moved
          (λ h. subst (λ (b : Bool). IsIndexOf (index_at new place) (if b then front ++ added else front)) c.in-Ok-true.field-0-test
          (c.in-Ok-true.ensures.index front h)) (c.loop-k.invariant.moved rows front live was);
      fresh = move_fresh old c.place_on-place.ensures listed c.add_if_holds.ensures.moved c.loop-k.invariant.fresh;
      whole = λ rows live indexed hold.
          let same = fresh_at accesses c.args.table.0 c.loop-k.k place old now (index_at now place) c.place_on-place.ensures listed
          c.loop-k.invariant.fresh in
          let mine = accesses_on accesses c.args.table in
          let next = broken_from mine (get_or rows c.args.table.0 [] ++ added) (c.loop-k.k + 1) in
          c.loop-k.invariant.whole rows live indexed hold
          ∙ judged accesses c.args.table rows added c.loop-k.k place old (index_at now place)
          c.in-Ok-true.field-0 c.place_on-place.ensures listed indexed hold (get_or_default now place no_index (index_at now place) within ∙ same)
          c.in-Ok-true.ensures.holds
          ∙ ap (λ b. cond (not b) (Some (get_or accesses place no_access)) next) c.in-Ok-true.field-0-test;
    }

pub returns-clause-indexed : goal.returns-clause-indexed
returns-clause-indexed g c rows front live is =
    let accesses = c.args.catalogue.now.accesses in
    let ids = ids_on accesses c.args.table.0 in
    let now = g.I.Indexes.seen c.loop-k.indexes in
    let after = front ++ c.args.row.now ∷ [] in
    let all : take c.loop-k.k ids ≡ ids = take_all c.loop-k.k ids (omega (arith, c.loop-k-test.false, ap length c.ids_on-k-end.ensures.ids)) in
    from_all_done accesses rows c.args.table.0 front after now c.ids_on-k-end.ensures.sound.ids_rise live
    (subst (λ ds. AreIndexed accesses rows c.args.table.0 front after ds now) all (c.loop-k.invariant.moved rows front live is))

pub returns-clause-first : goal.returns-clause-first
returns-clause-first g c rows live indexed hold =
    let mine = accesses_on c.args.catalogue.now.accesses c.args.table in
    c.loop-k.invariant.whole rows live indexed hold
    ∙ broken_end mine (get_or rows c.args.table.0 [] ++ c.args.row.now ∷ []) c.loop-k.k
    (omega (arith, c.loop-k-test.false, ap length c.ids_on-k-end.ensures.ids, length-map mine (λ a. a.id)))

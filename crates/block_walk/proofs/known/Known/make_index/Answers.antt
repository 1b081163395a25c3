use Rattle.std.proofs.Common.{◌≡◌, Some, length, arith, ap, refl}
use Rattle.std.proofs.lemmas.Grind.{common_steps}
use Rattle.std.specs.Vec.{with_item}
use Rattle.block_walk.specs.declared.known.Known.{Known}
use Rattle.block_walk.specs.declared.known.Spot.{Spot}
use Rattle.block_walk.proofs.KnownFacts.{known_indexed, same_entries, same_kept}
use Rattle.block_walk.proofs.known.Known.make_index.Goals as goal

pub returns-clause-known : goal.returns-clause-known
returns-clause-known c =
    let old = c.args.self.now in
    let s = c.index_mut.result.now in
    let t : Spot = record { step = s.step; from = s.from; width = s.width; count = s.count; key_width = s.key_width; index = Some c.len-at.result; all = s.all } in
    let new : Known = record { values = old.values; spots = with_item old.spots c.args.place t; chains = old.chains; ordered = old.ordered; indexes = c.push.new.self } in
    let last : c.len-at.result ≡ length old.indexes.items = grind (arith, common_steps) in
    known_indexed old c.requires.known c.args.place c.requires.place s t c.index_mut.ensures.value c.in_ok-index.index c.in_ok-index.ensures
    (ap (λ k. record s { index = Some k }) last) new refl refl refl refl c.in_ok-push.ensures.items

pub returns-clause-entries : goal.returns-clause-entries
returns-clause-entries c =
    let old = c.args.self.now in
    let s = c.index_mut.result.now in
    let t : Spot = record { step = s.step; from = s.from; width = s.width; count = s.count; key_width = s.key_width; index = Some c.len-at.result; all = s.all } in
    let new : Known = record { values = old.values; spots = with_item old.spots c.args.place t; chains = old.chains; ordered = old.ordered; indexes = c.push.new.self } in
    let last : c.len-at.result ≡ length old.indexes.items = grind (arith, common_steps) in
    same_entries old c.requires.known c.args.place c.requires.place s t c.index_mut.ensures.value c.in_ok-index.index c.in_ok-index.ensures
    (ap (λ k. record s { index = Some k }) last) new refl refl refl refl c.in_ok-push.ensures.items

pub returns-clause-kept : goal.returns-clause-kept
returns-clause-kept c =
    let old = c.args.self.now in
    let s = c.index_mut.result.now in
    let t : Spot = record { step = s.step; from = s.from; width = s.width; count = s.count; key_width = s.key_width; index = Some c.len-at.result; all = s.all } in
    let new : Known = record { values = old.values; spots = with_item old.spots c.args.place t; chains = old.chains; ordered = old.ordered; indexes = c.push.new.self } in
    let last : c.len-at.result ≡ length old.indexes.items = grind (arith, common_steps) in
    same_kept old c.requires.known c.args.place c.requires.place s t c.index_mut.ensures.value c.in_ok-index.index c.in_ok-index.ensures
    (ap (λ k. record s { index = Some k }) last) new refl refl refl refl c.in_ok-push.ensures.items

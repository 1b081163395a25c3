use Rattle.std.proofs.Common.{◌≡◌, ◌∙◌, ◌<◌, [], get_or, length, map, ap, arith}
use Rattle.std.proofs.lemmas.List.{get_or_default}
use Rattle.catalogue.proofs.StoredFacts.{length-joined}
use Rattle.update_guard.specs.Seen.{index_at}
use Rattle.word_index.specs.Parts.{access_at}
use Rattle.word_index.proofs.PartFacts.{part_is, part_kept}
use Rattle.word_index.proofs.guarded.WordGuarded.freeze.Goals as goal

pub places_on-requires : goal.places_on-requires
places_on-requires c =
    let s = c.args.self.now in
    omega (arith, c.requires, length-joined s.catalogue.tables s.rows s.kept.tables)

pub bounds-as_slice-table : goal.bounds-as_slice-table
bounds-as_slice-table c =
    let s = c.args.self.now in
    let e = ap length c.as_slice.ensures in
    omega (arith, c.requires, length-joined s.catalogue.tables s.rows s.kept.tables, s.kept.tables, e)

pub invariant_of-result : goal.invariant_of-result
invariant_of-result c =
    let s = c.args.self.now in
    let t = c.args.table.0 in
    let own = c.index-as_slice-table.result in
    let live : t < length s.rows = omega (arith, c.requires, length-joined s.catalogue.tables s.rows s.kept.tables, s.kept.tables) in
    let own_is : c.in_ok-rows.rows ≡ get_or s.rows t [] = c.in_ok-rows.ensures
    ∙ (c.index-as_slice-table.is ∙ ap (λ xs. get_or xs t own) c.as_slice.ensures) ∙ get_or_default s.rows t own [] live in
    let accesses_are : c.in_ok-accesses.accesses ≡ map (access_at s.catalogue.accesses) c.in_ok-places.places.items = c.in_ok-accesses.ensures
    ∙ ap (λ xs. map (access_at xs) c.as_slice-3.result.now) (c.as_slice-2.ensures ∙ c.accesses.ensures.accesses)
    ∙ ap (map (access_at s.catalogue.accesses)) c.as_slice-3.ensures.value in
    let copies_are : c.in_ok-indexes.indexes ≡ map (index_at s.indexes) c.in_ok-places.places.items = c.in_ok-indexes.ensures
    ∙ ap (map (index_at s.indexes)) c.as_slice-4.ensures.value in
    record {
      kept = part_kept s.catalogue s.rows s.indexes c.args.table c.in_ok-places.places.items c.in_ok-rows.rows c.in_ok-accesses.accesses
          c.in_ok-indexes.indexes c.accesses.ensures.sound s.kept c.in_ok-places.ensures own_is accesses_are copies_are;
    }

pub returns : goal.returns
returns c =
    let s = c.args.self.now in
    let t = c.args.table.0 in
    let own = c.index-as_slice-table.result in
    let live : t < length s.rows = omega (arith, c.requires, length-joined s.catalogue.tables s.rows s.kept.tables, s.kept.tables) in
    let own_is : c.in_ok-rows.rows ≡ get_or s.rows t [] = c.in_ok-rows.ensures
    ∙ (c.index-as_slice-table.is ∙ ap (λ xs. get_or xs t own) c.as_slice.ensures) ∙ get_or_default s.rows t own [] live in
    let accesses_are : c.in_ok-accesses.accesses ≡ map (access_at s.catalogue.accesses) c.in_ok-places.places.items = c.in_ok-accesses.ensures
    ∙ ap (λ xs. map (access_at xs) c.as_slice-3.result.now) (c.as_slice-2.ensures ∙ c.accesses.ensures.accesses)
    ∙ ap (map (access_at s.catalogue.accesses)) c.as_slice-3.ensures.value in
    part_is s.catalogue s.rows c.args.table c.in_ok-rows.rows c.in_ok-accesses.accesses s.kept.tables own_is (accesses_are ∙ c.in_ok-places.ensures.on)

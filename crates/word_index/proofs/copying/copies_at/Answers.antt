use Rattle.std.proofs.Common.{◌∙◌, ◌<◌, length, get_or, ap, sym, subst}
use Rattle.std.proofs.lemmas.List.{get_or_default}
use Rattle.word_index.specs.Kept.{meanings, AreKept}
use Rattle.word_index.proofs.KeptFacts.{copies_kept, copies_same}
use Rattle.word_index.proofs.copying.copies_at.Goals as goal

pub loop-i-preserved : goal.loop-i-preserved
loop-i-preserved c =
    let places = c.args.places.now in
    let indexes = c.args.indexes.now in
    let i = c.loop-i.i in
    let copies = c.loop-i.copies.items in
    let index = c.index-indexes-places.result in
    let copy = c.in_ok-copy.copy in
    let lt : i < length places = c.loop-i-test.true in
    let place = get_or places i 0 in
    let within : place < length indexes = c.requires i 0 lt in
    let at = get_or_default places i 0 place lt in
    record {
      same = λ codes. ap (meanings codes) c.in_ok-push.ensures.items
          ∙ copies_same codes index copy c.in_ok-copy.ensures indexes copies place within c.index-indexes-places.is places i lt at (c.loop-i.invariant.same codes);
      kept = λ codes k. subst (AreKept codes) (sym c.in_ok-push.ensures.items)
          (copies_kept codes index copy c.in_ok-copy.ensures indexes copies place within c.index-indexes-places.is k (c.loop-i.invariant.kept codes k));
    }

use Rattle.std.proofs.Common.{◌==◌, ◌∙◌, sym, subst}
use Rattle.std.proofs.lemmas.Bool.Decides.{Decides-eqb}
use Rattle.std.proofs.lemmas.Slice.Eq.{slice_eq-Decides}
use Rattle.place_chains.specs.TupleOrder.{IsOrder}
use Rattle.block_walk.specs.Entries.{IsIndex, kept_of}
use Rattle.block_walk.proofs.KnownFacts.{index_read}
use Rattle.block_walk.proofs.known.Known.order.Goals as goal

pub returns-then-eq : goal.returns-then-eq
returns-then-eq c =
    let known = c.args.self.now in
    let tuples = kept_of known c.args.place in
    let s = c.index.result.now in
    let index = c.index-index.result.now in
    let indexed = index_read known c.requires.known c.args.place s c.requires.place c.index.ensures c.in_ok-at.at c.in_ok-at.was in
    let same = slice_eq-Decides {E = ◌==◌} Decides-eqb c.as_slice.result.now c.args.places.now c.eq.result c.eq.ensures in
    let here = subst (IsIndex tuples) (sym c.index-index.ensures) (indexed.is index) in
    subst (λ ps. IsOrder ps tuples index.order) (sym c.as_slice.ensures.value ∙ same.0 c.if-eq.true) here

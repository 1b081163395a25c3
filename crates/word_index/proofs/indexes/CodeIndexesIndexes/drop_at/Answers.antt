use Rattle.std.proofs.Common.{◌∙◌, ap, sym, subst}
use Rattle.std.specs.Prelude.{remove}
use Rattle.word_index.specs.Kept.{meanings, AreKept}
use Rattle.word_index.proofs.KeptFacts.{kept_dropped, meanings_dropped}
use Rattle.word_index.proofs.indexes.CodeIndexesIndexes.drop_at.Goals as goal

pub invariant_of-self : goal.invariant_of-self
invariant_of-self c =
    subst (AreKept c.self.inside.codes) (sym c.remove-index.ensures.items) (kept_dropped c.self.inside.codes c.self.inside.indexes.items c.args.place c.self.invariant)

pub returns : goal.returns
returns c =
    ap (meanings c.self.inside.codes) c.remove-index.ensures.items
    ∙ meanings_dropped c.self.inside.codes c.self.inside.indexes.items c.args.place
    ∙ ap (λ xs. remove xs c.args.place) c.self.view_is

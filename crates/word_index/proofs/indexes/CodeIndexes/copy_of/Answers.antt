use Rattle.std.proofs.Common.{sym, subst}
use Rattle.word_index.specs.Kept.{AreKept}
use Rattle.word_index.proofs.indexes.CodeIndexes.copy_of.Goals as goal

pub invariant_of-result : goal.invariant_of-result
invariant_of-result c =
    let codes = c.self.inside.codes in
    subst (λ cs. AreKept cs c.in_ok-indexes.indexes.items) (sym c.in_ok-codes.ensures)
    (c.in_ok-indexes.ensures.kept codes (subst (AreKept codes) (sym c.as_slice.ensures.value) c.self.invariant))

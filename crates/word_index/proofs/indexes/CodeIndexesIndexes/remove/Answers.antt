use Rattle.std.proofs.Common.{◌++◌, ◌∷◌, sym, subst}
use Rattle.access_index.specs.Index.{Index, IsIndexOf}
use Rattle.code_index.proofs.Growth.{kept_codes}
use Rattle.word_index.specs.Kept.{meaning}
use Rattle.word_index.proofs.KeptFacts.{was_at, new_at, moved}
use Rattle.word_index.proofs.indexes.CodeIndexesIndexes.remove.Goals as goal

pub returns-clause-moved : goal.returns-clause-moved
returns-clause-moved c =
    moved c.self.inside.codes c.self.inside.indexes.items c.args.place c.index_mut.result.now c.args.self.now c.self.view_is c.self.invariant c.requires
    c.index_mut.ensures.value c.self.inside.codes c.remove_row.new.index (kept_codes c.self.inside.codes) c.remove_row.ensures.in_order
    c.remove_row.ensures.access

pub returns-clause-rest : goal.returns-clause-rest
returns-clause-rest c front back is =
    let codes = c.self.inside.codes in
    let was = c.index_mut.result.now in
    let new = c.remove_row.new.index in
    let before = was_at c.self.inside.codes c.self.inside.indexes.items c.args.place c.index_mut.result.now c.args.self.now c.self.view_is c.self.invariant c.requires
    c.index_mut.ensures.value in
    let after = new_at c.self.inside.codes c.self.inside.indexes.items c.args.place c.index_mut.result.now c.args.self.now c.self.view_is c.self.invariant c.requires
    c.index_mut.ensures.value codes new in
    subst (λ (x : Index). IsIndexOf x (front ++ back)) (sym after)
    (c.remove_row.ensures.rest front back (subst (λ r. IsIndexOf (meaning codes was) (front ++ r ∷ back)) (sym c.as_slice.ensures)
    (subst (λ (x : Index). IsIndexOf x (front ++ c.args.row.now ∷ back)) before is)))

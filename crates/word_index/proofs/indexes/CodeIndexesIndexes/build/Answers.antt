use Rattle.std.proofs.Common.{◌≡◌, ◌∙◌, ◌++◌, ◌∷◌, [], ap, sym, subst, arith}
use Rattle.std.proofs.lemmas.Result.{err_from_is_err_and}
use Rattle.beas_core.specs.Shapes.{AccessIsWellFormed}
use Rattle.word_index.specs.Kept.{meaning, meanings, AreKept}
use Rattle.word_index.proofs.KeptFacts.{kept_grown, meanings_grown, kept_pushed, meanings_pushed}
use Rattle.word_index.proofs.indexes.CodeIndexesIndexes.build.Goals as goal

pub invariant_of-self-in_err-index : goal.invariant_of-self-in_err-index
invariant_of-self-in_err-index g c =
    subst (AreKept c.index_of.new.codes) (sym c.in_ok-reserve.ensures.items)
    (kept_grown c.self.inside.codes c.index_of.new.codes c.index_of.ensures.kept c.self.inside.indexes.items c.self.invariant)

pub returns-in_err-index-clause-err : goal.returns-in_err-index-clause-err
returns-in_err-index-clause-err g c =
    let err = err_from_is_err_and c.from_residual-in_err-index.result c.from_residual-in_err-index.ensures.1 in
    rw err.1 (ap (meanings c.index_of.new.codes) c.in_ok-reserve.ensures.items
    ∙ meanings_grown c.self.inside.codes c.index_of.new.codes c.index_of.ensures.kept c.self.inside.indexes.items c.self.invariant ∙ c.self.view_is)

pub invariant_of-self-2 : goal.invariant_of-self-2
invariant_of-self-2 g c =
    let index = c.in_ok-index.index in
    let items : c.push_reserved.new.self.items ≡ c.self.inside.indexes.items ++ index ∷ [] = c.push_reserved.ensures.items ∙ ap (λ xs. xs ++ index ∷ []) c.in_ok-reserve.ensures.items in
    subst (AreKept c.index_of.new.codes) (sym items)
    (kept_pushed c.self.inside.codes c.index_of.new.codes c.index_of.ensures.kept c.self.inside.indexes.items index c.self.invariant (record {
      in_order = c.in_ok-index.ensures.in_order;
      form = subst (AccessIsWellFormed 64) (sym c.in_ok-index.ensures.access) c.requires;
      few = omega (arith, c.in_ok-index.ensures.total, c.recall_few_rows.ensures);
    }))

pub returns-clause-built : goal.returns-clause-built
returns-clause-built g c =
    let index = c.in_ok-index.index in
    let items : c.push_reserved.new.self.items ≡ c.self.inside.indexes.items ++ index ∷ [] = c.push_reserved.ensures.items ∙ ap (λ xs. xs ++ index ∷ []) c.in_ok-reserve.ensures.items in
    record {
      index = meaning c.index_of.new.codes index;
      added = ap (meanings c.index_of.new.codes) items
          ∙ meanings_pushed c.self.inside.codes c.index_of.new.codes c.index_of.ensures.kept c.self.inside.indexes.items index c.self.invariant
          ∙ ap (λ xs. xs ++ meaning c.index_of.new.codes index ∷ []) c.self.view_is;
      access_is = c.in_ok-index.ensures.access;
      index_is = c.in_ok-index.ensures.index;
    }

use Rattle.std.proofs.Common.{◌++◌, sym, subst, arith}
use Rattle.access_index.specs.Index.{Index, IsIndexOf}
use Rattle.code_index.proofs.Growth.{kept_codes}
use Rattle.word_index.proofs.KeptFacts.{was_kept, was_at, new_at, moved, kept_changed}
use Rattle.word_index.proofs.indexes.CodeIndexesIndexes.remove_rows.Goals as goal

pub invariant_of-self : goal.invariant_of-self
invariant_of-self c =
    let was = was_kept c.self.inside.codes c.self.inside.indexes.items c.args.place c.index_mut.result.now c.args.self.now c.self.view_is c.self.invariant c.requires
    c.index_mut.ensures.value in
    kept_changed c.self.inside.codes c.self.inside.indexes.items c.args.place c.index_mut.result.now c.args.self.now c.self.view_is c.self.invariant c.requires
    c.index_mut.ensures.value c.self.inside.codes c.remove_rows.new.index (kept_codes c.self.inside.codes) c.remove_rows.ensures.in_order
    c.remove_rows.ensures.access (omega (arith, c.remove_rows.ensures.total, was.few))

pub returns-clause-moved : goal.returns-clause-moved
returns-clause-moved c =
    moved c.self.inside.codes c.self.inside.indexes.items c.args.place c.index_mut.result.now c.args.self.now c.self.view_is c.self.invariant c.requires
    c.index_mut.ensures.value c.self.inside.codes c.remove_rows.new.index (kept_codes c.self.inside.codes) c.remove_rows.ensures.in_order
    c.remove_rows.ensures.access

pub returns-clause-rest : goal.returns-clause-rest
returns-clause-rest c front is =
    let before = was_at c.self.inside.codes c.self.inside.indexes.items c.args.place c.index_mut.result.now c.args.self.now c.self.view_is c.self.invariant c.requires
    c.index_mut.ensures.value in
    let after = new_at c.self.inside.codes c.self.inside.indexes.items c.args.place c.index_mut.result.now c.args.self.now c.self.view_is c.self.invariant c.requires
    c.index_mut.ensures.value c.self.inside.codes c.remove_rows.new.index in
    subst (λ (x : Index). IsIndexOf x front) (sym after)
    (c.remove_rows.ensures.rest front (subst (λ (x : Index). IsIndexOf x (front ++ c.args.rows.now)) before is))

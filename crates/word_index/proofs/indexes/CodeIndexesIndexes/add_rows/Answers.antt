use Rattle.std.proofs.Common.{◌++◌, List, Bool, sym, subst, if◌then◌else◌}
use Rattle.std.proofs.lemmas.Result.{on_err_weaker}
use Rattle.std.specs.Prelude.{IfOk}
use Rattle.beas_core.specs.Types.{Row}
use Rattle.access_index.specs.Index.{Index, IsIndexOf}
use Rattle.update_guard.specs.Seen.{index_at}
use Rattle.word_index.specs.Kept.{meaning}
use Rattle.word_index.proofs.KeptFacts.{was_at, new_at, moved}
use Rattle.word_index.proofs.indexes.CodeIndexesIndexes.add_rows.Goals as goal

-- an index takes all of these rows or none
abbrev Takes : List Row → Index → Index → Bool → Type 0
Takes rows old new all = (front : List Row) → IsIndexOf old front → IsIndexOf new (if all then front ++ rows else front)

pub returns-clause-moved : goal.returns-clause-moved
returns-clause-moved c =
    moved c.self.inside.codes c.self.inside.indexes.items c.args.place c.index_mut.result.now c.args.self.now c.self.view_is c.self.invariant c.requires.within
    c.index_mut.ensures.value c.add_rows.new.codes c.add_rows.new.index c.add_rows.ensures.kept c.add_rows.ensures.in_order c.add_rows.ensures.access

pub returns-clause-index : goal.returns-clause-index
returns-clause-index c =
    let rows = c.args.rows.now in
    let new = meaning c.add_rows.new.codes c.add_rows.new.index in
    let before = was_at c.self.inside.codes c.self.inside.indexes.items c.args.place c.index_mut.result.now c.args.self.now c.self.view_is c.self.invariant c.requires.within
    c.index_mut.ensures.value in
    let after = new_at c.self.inside.codes c.self.inside.indexes.items c.args.place c.index_mut.result.now c.args.self.now c.self.view_is c.self.invariant c.requires.within
    c.index_mut.ensures.value c.add_rows.new.codes c.add_rows.new.index in
    subst (λ (x : Index). IfOk c.add_rows.result (Takes rows (index_at c.args.self.now c.args.place) x)) (sym after)
    (subst (λ (x : Index). IfOk c.add_rows.result (Takes rows x new)) (sym before) c.add_rows.ensures.index)

pub returns-clause-err : goal.returns-clause-err
returns-clause-err c =
    let before = was_at c.self.inside.codes c.self.inside.indexes.items c.args.place c.index_mut.result.now c.args.self.now c.self.view_is c.self.invariant c.requires.within
    c.index_mut.ensures.value in
    let after = new_at c.self.inside.codes c.self.inside.indexes.items c.args.place c.index_mut.result.now c.args.self.now c.self.view_is c.self.invariant c.requires.within
    c.index_mut.ensures.value c.add_rows.new.codes c.add_rows.new.index in
    on_err_weaker c.add_rows.result (λ stays front is. subst (λ (x : Index). IsIndexOf x front) (sym after)
    (stays front (subst (λ (x : Index). IsIndexOf x front) before is))) c.add_rows.ensures.err

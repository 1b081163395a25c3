use Rattle.std.proofs.Common.{◌++◌, ◌∷◌, [], List, Bool, sym, subst, if◌then◌else◌, append-nil}
use Rattle.std.proofs.lemmas.Result.{on_err_weaker, IfOk-weaker}
use Rattle.std.specs.Prelude.{IfOk}
use Rattle.beas_core.specs.Types.{Row}
use Rattle.access_index.specs.Index.{Index, IsIndexOf}
use Rattle.update_guard.specs.Seen.{index_at}
use Rattle.word_index.specs.Kept.{meaning}
use Rattle.word_index.proofs.KeptFacts.{was_at, new_at, moved, as_before}
use Rattle.word_index.proofs.indexes.CodeIndexesIndexes.add_if_holds.Goals as goal

-- an index takes this row or none, wherever among the rows it stands
abbrev Among : Row → Index → Index → Bool → Type 0
Among row old new held =
    (front back : List Row) → IsIndexOf old (front ++ back) → IsIndexOf new (if held then front ++ row ∷ back else front ++ back)

-- and so after all rows
abbrev After : Row → Index → Index → Bool → Type 0
After row old new held = (front : List Row) → IsIndexOf old front → IsIndexOf new (if held then front ++ row ∷ [] else front)

at_the_end : (row : Row) (old new : Index) (held : Bool) → Among row old new held → After row old new held
at_the_end row old new held among front is =
    subst (λ own. IsIndexOf new (if held then front ++ row ∷ [] else own)) (append-nil front)
    (among front [] (subst (IsIndexOf old) (sym (append-nil front)) is))

pub returns-clause-moved : goal.returns-clause-moved
returns-clause-moved c =
    moved c.self.inside.codes c.self.inside.indexes.items c.args.place c.index_mut.result.now c.args.self.now c.self.view_is c.self.invariant c.requires.within
    c.index_mut.ensures.value c.add_if_holds.new.codes c.add_if_holds.new.index c.add_if_holds.ensures.kept c.add_if_holds.ensures.in_order
    c.add_if_holds.ensures.access

pub returns-clause-index : goal.returns-clause-index
returns-clause-index c =
    let result = c.add_if_holds.result in
    let old = meaning c.self.inside.codes c.index_mut.result.now in
    let new = meaning c.add_if_holds.new.codes c.add_if_holds.new.index in
    let before = was_at c.self.inside.codes c.self.inside.indexes.items c.args.place c.index_mut.result.now c.args.self.now c.self.view_is c.self.invariant c.requires.within
    c.index_mut.ensures.value in
    let after = new_at c.self.inside.codes c.self.inside.indexes.items c.args.place c.index_mut.result.now c.args.self.now c.self.view_is c.self.invariant c.requires.within
    c.index_mut.ensures.value c.add_if_holds.new.codes c.add_if_holds.new.index in
    subst (λ (x : Index). IfOk result (After c.args.row.now (index_at c.args.self.now c.args.place) x)) (sym after)
    (subst (λ (x : Index). IfOk result (After c.args.row.now x new)) (sym before)
    (subst (λ row. IfOk result (After row old new)) c.as_slice.ensures
    (IfOk-weaker result (Among c.as_slice.result.now old new) (After c.as_slice.result.now old new)
    (at_the_end c.as_slice.result.now old new) c.add_if_holds.ensures.index)))

pub returns-clause-err : goal.returns-clause-err
returns-clause-err c =
    on_err_weaker c.add_if_holds.result
    (as_before c.self.inside.codes c.self.inside.indexes.items c.args.place c.index_mut.result.now c.args.self.now c.self.view_is c.self.invariant c.requires.within
    c.index_mut.ensures.value c.add_if_holds.new.codes c.add_if_holds.new.index c.add_if_holds.ensures.kept c.add_if_holds.ensures.in_order
    c.add_if_holds.ensures.access) c.add_if_holds.ensures.err

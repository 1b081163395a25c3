use Rattle.std.proofs.Common.{◌≡◌, ◌<◌, ◌∙◌, List, [], ap, arith, get_or, length}
use Rattle.std.proofs.lemmas.List.{get_or_default}
use Rattle.std.proofs.lemmas.Result.{IfOk-weaker}
use Rattle.beas_core.specs.declared.plan.Normal.{Normal}
use Rattle.beas_core.specs.declared.schema.ColumnId.{ColumnId}
use Rattle.beas_core.specs.Classes.{normal_of}
use Rattle.beas_core.specs.Coverage.{needed_of}
use Rattle.plan_builder.proofs.PreparationFacts.{as_many_needed}
use Rattle.partial_plan.specs.ScanPlans.{or_first}
use Rattle.partial_plan.proofs.ListFacts.{some_columns}
use Rattle.partial_plan.proofs.scans.scanned_columns.Goals as goal

pub bounds-as_slice-from : goal.bounds-as_slice-from
bounds-as_slice-from c =
    let many = as_many_needed c.args.block.now in
    let needed = ap length (c.as_slice.ensures ∙ ap (λ (n : Normal). n.needed) c.in_ok-normal.ensures) in
    omega (arith, c.requires.atom, c.from.ensures, needed, many)

pub returns-then-not-is_empty : goal.returns-then-not-is_empty
returns-then-not-is_empty c =
    let needed = (normal_of c.args.block.now).needed in
    let own : List ColumnId = c.index-as_slice-from.result in
    let many = as_many_needed c.args.block.now in
    let below : c.args.atom < length needed = omega (arith, c.requires.atom, many) in
    let same : own ≡ needed_of (normal_of c.args.block.now) c.args.atom =
    c.index-as_slice-from.is ∙ ap (λ k. get_or c.as_slice.result.now k own) c.from.ensures
    ∙ ap (λ (xs : List (List ColumnId)). get_or xs c.args.atom own) (c.as_slice.ensures ∙ ap (λ (n : Normal). n.needed) c.in_ok-normal.ensures)
    ∙ get_or_default needed c.args.atom own [] below in
    let some : own ≡ or_first own = some_columns own (λ none. let empty = c.is_empty.ensures.1 none in let full = c.if-not-is_empty.true in cc) in
    IfOk-weaker c.copy.result (λ copy. copy ≡ own) (λ columns. columns ≡ or_first (needed_of (normal_of c.args.block.now) c.args.atom))
    (λ copy is. is ∙ some ∙ ap or_first same) c.copy.ensures

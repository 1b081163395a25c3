use Rattle.std.proofs.Common.{◌∷◌, ◌+◌, ◌++◌, ◌-◌, [], List, sym, ◌∙◌, ap, append_assoc}
use Rattle.beas_core.specs.declared.schema.ColumnId.{ColumnId}
use Rattle.constraint_miner.specs.Pairs.{columns_from}
use Rattle.constraint_miner.proofs.PairFacts.{columns_at}
use Rattle.constraint_miner.proofs.pairs.columns_below.Goals as goal

pub loop-column-preserved : goal.loop-column-preserved
loop-column-preserved c =
    let rest : List ColumnId = columns_from (c.loop-column.column + 1) (c.args.width - (c.loop-column.column + 1)) in
    let column : ColumnId = record { 0 = c.loop-column.column } in
    ap (λ items. items ++ rest) c.in_ok-push.ensures.items
    ∙ append_assoc c.loop-column.columns.items (column ∷ []) rest
    ∙ ap (λ xs. c.loop-column.columns.items ++ xs) (sym (columns_at c.loop-column.column c.args.width c.loop-column-test.true))
    ∙ c.loop-column.invariant

use Rattle.std.proofs.Common.{◌≡◌, ℕ, List, map, ◌∙◌, ap}
use Rattle.std.specs.List.{filter_map, flat_map}
use Rattle.beas_core.specs.declared.value.Value.{Value}
use Rattle.beas_core.specs.declared.schema.ColumnId.{ColumnId}
use Rattle.constraint_miner.specs.Pairs.{pair_in, columns_from}
use Rattle.constraint_miner.proofs.pairs.pairs_within.Goals as goal

pub returns-clause-pairs : goal.returns-clause-pairs
returns-clause-pairs g c =
    let P : List (List Value) → List ColumnId
    → List (ColumnId × ColumnId × ℕ) = λ rows columns. flat_map (λ first. filter_map (pair_in rows c.args.limit first) columns) columns in
    let found : c.in_ok-found.found.items ≡ P (map (λ row. row.now) c.as_slice.result.now) c.as_slice-2.result.now = c.in_ok-found.ensures in
    let lent : map (λ row. row.now) c.as_slice.result.now ≡ c.args.rows.now = ap (map (λ row. row.now)) c.as_slice.ensures.value ∙ c.in_ok-lent.ensures.rows in
    let columns : c.as_slice-2.result.now ≡ columns_from 0 c.args.width = c.as_slice-2.ensures.value ∙ c.in_ok-columns.ensures in
    c.from_vec.ensures ∙ found ∙ ap (λ rows. P rows c.as_slice-2.result.now) lent ∙ ap (P c.args.rows.now) columns

use Rattle.std.proofs.Common.{◌≡◌, ◌++◌, map, drop}
use Rattle.sql_text.specs.Grouping.{column_in}
use Rattle.sql_text.proofs.grouping.columns_of.Given as goal

abbrev pub invariant-loop-item : goal.invariant-loop-item
invariant-loop-item l = l.columns ++ map column_in (drop l.item-index l.item-items) ≡ l.keys ++ map column_in l.items

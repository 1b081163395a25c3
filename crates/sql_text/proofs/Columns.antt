-- The columns of group items, one after the other.
use Rattle.std.proofs.Common.{◌≡◌, ℕ, ◌+◌, ◌<◌, ◌≤◌, List, [], ◌∷◌, ◌++◌, length, get_or, drop, map, sym, ap, ◌∙◌, append_assoc}
use Rattle.std.proofs.lemmas.List.{append-nil, at_drop_more, drop_all}
use Rattle.sql_text.specs.declared.tree.ColumnRef.{ColumnRef}
use Rattle.sql_text.specs.declared.tree.GroupItem.{GroupItem}
use Rattle.sql_text.specs.Grouping.{column_in}

-- one more column
pub one_more_column : (columns next : List ColumnRef) (items : List GroupItem) (i : ℕ) (item : GroupItem) (column : ColumnRef) → item ≡ get_or items i item
    → i < length items → column ≡ column_in item → next ≡ columns ++ column ∷ []
    → next ++ map column_in (drop (i + 1) items) ≡ columns ++ map column_in (drop i items)
one_more_column columns next items i item column e lt c n =
    let others : List ColumnRef = map column_in (drop (i + 1) items) in
    ap (λ cs. cs ++ others) n ∙ append_assoc columns (column ∷ []) others
    ∙ ap (λ c. columns ++ c ∷ others) (c ∙ ap column_in e)
    ∙ sym (at_drop_more (λ is. columns ++ map column_in is) items i item lt)

pub all_columns : (columns : List ColumnRef) (items : List GroupItem) (i : ℕ) → length items ≤ i → columns ++ map column_in (drop i items) ≡ columns
all_columns columns items i le = ap (λ is. columns ++ map column_in is) (drop_all i items le) ∙ append-nil columns

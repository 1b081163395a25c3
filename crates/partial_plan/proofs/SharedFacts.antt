-- An index stands for each scan of its columns.
use Rattle.std.proofs.Common.{◌≡◌, ◌+◌, ◌++◌, List, length, map, ap, sym, ◌∙◌, subst, arith}
use Rattle.std.specs.List.{All, filter, flat_map}
use Rattle.std.specs.Prelude.{count_by}
use Rattle.std.proofs.lemmas.List.Elements.{All-contains}
use Rattle.beas_core.specs.declared.schema.Access.{Access}
use Rattle.beas_core.specs.declared.schema.ColumnId.{ColumnId}
use Rattle.beas_core.specs.declared.schema.TableId.{TableId}
use Rattle.beas_core.specs.Types.{Row}
use Rattle.beas_core.specs.Groups.{group, group_of, member_columns, project, same_row}
use Rattle.access_index.specs.declared.tally.Tally.{Tally}
use Rattle.access_index.specs.Buckets.{is_key}
use Rattle.access_index.specs.Index.{Index, IsIndexOf}
use Rattle.partial_plan.specs.Scans.{HaveSameColumns, IsAlike, index_under, rows_of_tables}

pub back : (a b : Access) → HaveSameColumns a b → HaveSameColumns b a
back a b same = record { key = sym same.key; fetched = sym same.fetched }

-- what holds of the columns of one holds of those of the other
pub moved : (P : List ColumnId → List ColumnId → Type 0) (a b : Access) → HaveSameColumns a b → P a.key a.fetched → P b.key b.fetched
moved P a b same h = subst (λ k. P k b.fetched) same.key (subst (P a.key) same.fetched h)

pub same_groups : (rows : List Row) (key : Row) (a b : Access) → HaveSameColumns a b → group_of rows a key ≡ group_of rows b key
same_groups rows key a b same = ap (λ f. group rows a.key f key) same.fetched ∙ ap (λ k. group rows k b.fetched key) same.key

pub same_members : (a b : Access) → HaveSameColumns a b → member_columns a ≡ member_columns b
same_members a b same = ap (λ f. a.key ++ f) same.fetched ∙ ap (λ k. k ++ b.fetched) same.key

abbrev Tells : List Row → List (List Tally) → List ColumnId → List ColumnId → Type 0
Tells rows buckets k f = (key : Row) → flat_map (filter (is_key (length k) key)) buckets
    ≡ map (λ tuple. record { tuple = tuple; count = count_by (λ row. same_row (project (k ++ f) row) tuple) rows }) (group rows k f key)

pub stands_under : (scan : Access) (index : Index) (rows : List Row) → HaveSameColumns index.access scan → IsIndexOf index rows
    → IsIndexOf (index_under scan index) rows
stands_under scan index rows same is = record {
  tallies_are = moved (Tells rows index.buckets) index.access scan same is.tallies_are;
  total_is = is.total_is;
}

pub shared_is : (tables : List (List Row)) (indexes : List Index) (scan : Access) (found : Index) → IsAlike indexes scan found
    → All (λ index. IsIndexOf index (rows_of_tables tables index.access.table)) indexes
    → IsIndexOf (index_under scan found) (rows_of_tables tables scan.table)
shared_is tables indexes scan found alike all =
    let own = All-contains (λ (index : Index). IsIndexOf index (rows_of_tables tables index.access.table)) indexes found all alike.among in
    stands_under scan found (rows_of_tables tables scan.table) alike.columns
    (subst (λ (table : TableId). IsIndexOf found (rows_of_tables tables table)) alike.table own)

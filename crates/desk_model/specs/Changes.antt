-- Which tables a statement may change: where the rows of a table change, or a constraint on it is dropped.
--     is_named schema name t            the table with this name is this one
--     changes schema statement t        the statement may change this table
use Rattle.std.specs.Prelude.{◌&&◌, ◌==◌, ℕ, Bool, false, List}
use Rattle.std.specs.List.{list_any}
use Rattle.std.specs.Option.{option_map_or}
use Rattle.beas_core.specs.declared.schema.TableId.{TableId}
use Rattle.catalogue.specs.Schema.{Schema, access_has_name, table_named}
use Rattle.sql_text.specs.declared.tree.Statement.{Statement}
use Rattle.sql_text.specs.declared.tree.Statement.TheVariants.{CreateTable, CreateAccess, DropAccess, Load, Insert, Delete, DiscoverGroup, DiscoverPairs, Select, Explain, ScanOk, Grouped, Specialise}

-- the table has this name
abbrev pub is_named : Schema → List ℕ → TableId → Bool
is_named schema name t = option_map_or (λ u. u.0 == t.0) (table_named schema name) false

abbrev pub changes : Schema → Statement → TableId → Bool
changes schema (Insert table tuples) t = is_named schema table t
changes schema (Load table file) t = is_named schema table t
changes schema (Delete table conditions) t = is_named schema table t
changes schema (DropAccess name) t = list_any (λ a. access_has_name name a && (a.table.0 == t.0)) schema.accesses
changes schema (CreateTable name columns) t = false
changes schema (CreateAccess spec) t = false
changes schema (DiscoverGroup table key fetched) t = false
changes schema (DiscoverPairs table limit) t = false
changes schema (Select tree) t = false
changes schema (Explain tree) t = false
changes schema (ScanOk tree) t = false
changes schema (Grouped items keys inner) t = false
changes schema (Specialise tree) t = false

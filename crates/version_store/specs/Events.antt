-- What the parts of an event's call do, by its effect.
--     Happens effect report before after ..       the report, the desk afterwards and the reads are those of the effect
--     HappensSome effect report before after ..   there is an effect, and so it is
--     IsNoSelect statement                       it isn't a SELECT
--     changed_table schema statement              the one table that the statement may change
use Rattle.std.specs.Prelude.{◌≡◌, ◌+◌, ℕ, List, sum, find, option_map, Option, Some, None}
use Rattle.beas_core.specs.declared.schema.Access.{Access}
use Rattle.beas_core.specs.declared.schema.TableId.{TableId}
use Rattle.catalogue.specs.Schema.{Schema, access_has_name, table_named}
use Rattle.report.specs.declared.reports.Report.{Report}
use Rattle.sql_text.specs.declared.tree.Statement.{Statement}
use Rattle.sql_text.specs.Trees.{Tree}
use Rattle.sql_text.specs.declared.tree.Statement.TheVariants.{CreateTable, CreateAccess, DropAccess, Load, Insert, Delete, DiscoverGroup, DiscoverPairs, Select, Explain, ScanOk, Grouped, Specialise}
use Rattle.desk_model.specs.Desks.{DeskEffect}
use Rattle.version_store.specs.Desks.{Seen}

pub record Happens (effect : DeskEffect) (report : Report) (before after : Seen) (s t : ℕ) : Type 0 where
  pub report_is : report ≡ effect.report
  pub state_is : after.state ≡ effect.state
  pub settings_stay : after.settings ≡ before.settings
  pub counts : t + sum before.shares ≡ s + effect.cost + sum after.shares

abbrev pub HappensSome : Option DeskEffect → Report → Seen → Seen → ℕ → ℕ → Type 0
HappensSome None report before after s t = ⊥
HappensSome (Some effect) report before after s t = Happens effect report before after s t

abbrev pub IsNoSelect : Statement → Type 0
IsNoSelect statement = (tree : Tree) → statement ≡ Select tree → ⊥

-- the table of the constraint with this name
abbrev pub table_of_named : List Access → List ℕ → Option TableId
table_of_named accesses name = option_map (λ a. a.table) (find (access_has_name name) accesses)

abbrev pub changed_table : Schema → Statement → Option TableId
changed_table schema (Insert table tuples) = table_named schema table
changed_table schema (Load table file) = table_named schema table
changed_table schema (Delete table conditions) = table_named schema table
changed_table schema (DropAccess name) = table_of_named schema.accesses name
changed_table schema (CreateTable name columns) = None
changed_table schema (CreateAccess spec) = None
changed_table schema (DiscoverGroup table key fetched) = None
changed_table schema (DiscoverPairs table limit) = None
changed_table schema (Select tree) = None
changed_table schema (Explain tree) = None
changed_table schema (ScanOk tree) = None
changed_table schema (Grouped items keys inner) = None
changed_table schema (Specialise tree) = None

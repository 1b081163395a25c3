-- What a query goes on seeing of a store: the rows of the tables that it names, and the constraints of its derivations.
--     KeptTable                        a table with the rows that it had
--     kept_tables rows query           the tables that a query names, each with its rows
--     rows_in kept                     the rows of each table that is kept
--     kept_accesses accesses plans     the constraints of derivations, step by step
--     tables_of query, ids_of plans    these tables, and the ids of these constraints
use Rattle.std.specs.Prelude.{◌==◌, if◌then◌else◌, List, [], ◌∷◌, map, flat_map}
use Rattle.beas_core.specs.declared.plan.Derivation.{Derivation}
use Rattle.beas_core.specs.declared.schema.Access.{Access}
use Rattle.beas_core.specs.declared.schema.AccessId.{AccessId}
use Rattle.beas_core.specs.declared.schema.TableId.{TableId}
use Rattle.beas_core.specs.Derivations.{access_in}
use Rattle.beas_core.specs.Trees.{QueryTree, blocks_of}
use Rattle.beas_core.specs.Types.{Row, TableRows}

pub record KeptTable : Type 0 where
  pub table : TableId
  pub rows : List Row

abbrev pub tables_of : QueryTree → List TableId
tables_of query = flat_map (λ block. map (λ a. a.table) block.atoms) (blocks_of query)

abbrev pub kept_tables : TableRows → QueryTree → List KeptTable
kept_tables rows query = map (λ t. record { table = t; rows = rows t }) (tables_of query)

abbrev pub rows_in : List KeptTable → TableRows
rows_in [] t = []
rows_in (kept ∷ more) t = if kept.table.0 == t.0 then kept.rows else rows_in more t

abbrev pub ids_of : List Derivation → List AccessId
ids_of plans = flat_map (λ plan. map (λ s. s.access) plan.steps) plans

abbrev pub kept_accesses : List Access → List Derivation → List Access
kept_accesses accesses plans = map (access_in accesses) (ids_of plans)

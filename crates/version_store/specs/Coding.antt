-- How what is seen of a desk is stored: as the pairs of its fields.
--     coded_desk
use Rattle.std.specs.Prelude.{Bool, ℕ, List, Option, refl}
use Rattle.std.specs.Coded.{Coded, code_by, coded×, coded_ℕ, coded_bool, coded_list, coded_option}
use Rattle.beas_core.specs.contracts.limits.Limits.{the_row as limits_row}
use Rattle.beas_core.specs.contracts.plan.Prepared.{the_row as prepared_row}
use Rattle.beas_core.specs.contracts.schema.Access.{the_row as access_row}
use Rattle.beas_core.specs.contracts.schema.Column.{the_row as column_row}
use Rattle.beas_core.specs.contracts.schema.TableId.{the_row as table_row}
use Rattle.beas_core.specs.contracts.value.Value.{the_row as value_row}
use Rattle.beas_core.specs.declared.limits.Limits.{Limits}
use Rattle.beas_core.specs.declared.plan.Prepared.{Prepared}
use Rattle.beas_core.specs.declared.schema.Access.{Access}
use Rattle.beas_core.specs.declared.schema.Column.{Column}
use Rattle.beas_core.specs.declared.schema.TableId.{TableId}
use Rattle.beas_core.specs.Queries.{BlockProbe}
use Rattle.beas_core.specs.Types.{Row}
use Rattle.catalogue.specs.Database.{Database, Table}
use Rattle.session.specs.Effects.{Settings}
use Rattle.desk_model.specs.Keeping.{KeptTable}
use Rattle.desk_model.specs.OpenQueries.{OpenQuery}
use Rattle.desk_model.specs.Desks.{State}
use Rattle.version_store.specs.Desks.{Seen}

abbrev coded_rows : Coded (List Row)
coded_rows = coded_list (coded_list value_row.coded)

abbrev coded_settings : Coded Settings
coded_settings = code_by (Limits × (Option ℕ × Bool))
    (coded× limits_row.coded (coded× (coded_option coded_ℕ) coded_bool))
    (λ s. (s.limits, (s.budget, s.explain)))
    (λ p. record { limits = p.0; budget = p.1.0; explain = p.1.1 }) (λ _. refl)

abbrev coded_table : Coded Table
coded_table = code_by (List ℕ × (List Column × List Row))
    (coded× (coded_list coded_ℕ) (coded× (coded_list column_row.coded) coded_rows))
    (λ t. (t.name, (t.columns, t.rows)))
    (λ p. record { name = p.0; columns = p.1.0; rows = p.1.1 }) (λ _. refl)

abbrev coded_database : Coded Database
coded_database = code_by (List Table × (List Access × ℕ))
    (coded× (coded_list coded_table) (coded× (coded_list access_row.coded) coded_ℕ))
    (λ d. (d.tables, (d.accesses, d.created)))
    (λ p. record { tables = p.0; accesses = p.1.0; created = p.1.1 }) (λ _. refl)

abbrev coded_kept : Coded KeptTable
coded_kept = code_by (TableId × List Row) (coded× table_row.coded coded_rows)
    (λ k. (k.table, k.rows)) (λ p. record { table = p.0; rows = p.1 }) (λ _. refl)

abbrev coded_query : Coded OpenQuery
coded_query = code_by (ℕ × (Prepared × (List ℕ × (List KeptTable × (List Access × Option ℕ)))))
    (coded× coded_ℕ (coded× prepared_row.coded (coded× (coded_list coded_ℕ)
    (coded× (coded_list coded_kept) (coded× (coded_list access_row.coded) (coded_option coded_ℕ))))))
    (λ q. (q.session, (q.prepared, (q.plan, (q.tables, (q.accesses, q.made))))))
    (λ p. record { session = p.0; prepared = p.1.0; plan = p.1.1.0; tables = p.1.1.1.0; accesses = p.1.1.1.1.0; made = p.1.1.1.1.1 }) (λ _. refl)

abbrev coded_state : Coded State
coded_state = code_by (Database × List OpenQuery) (coded× coded_database (coded_list coded_query))
    (λ s. (s.db, s.queries)) (λ p. record { db = p.0; queries = p.1 }) (λ _. refl)

abbrev coded_probe : Coded BlockProbe
coded_probe = code_by (ℕ × (ℕ × Row)) (coded× coded_ℕ (coded× coded_ℕ (coded_list value_row.coded)))
    (λ p. (p.block, (p.probe.step, p.probe.key)))
    (λ p. record { block = p.0; probe = record { step = p.1.0; key = p.1.1 } }) (λ _. refl)

abbrev pub coded_desk : Coded Seen
coded_desk = code_by (Settings × (State × (List ℕ × List (List BlockProbe))))
    (coded× coded_settings (coded× coded_state (coded× (coded_list coded_ℕ) (coded_list (coded_list coded_probe)))))
    (λ s. (s.settings, (s.state, (s.shares, s.probes))))
    (λ p. record { settings = p.0; state = p.1.0; shares = p.1.1.0; probes = p.1.1.1 }) (λ _. refl)

-- The plan of a piece as data.
--     query_plan desk tree             the JSON text of a query as it is prepared without a budget, or why it is refused
--     statement_plan desk statement    the same of a statement; one that is no query has no plan
--     plan_of_reading desk reading     the same of a piece, whichever session says it; one that says nothing is refused
use Rattle.std.specs.Prelude.{ℕ, List, Option, None, Some, Result, Ok, Err}
use Rattle.beas_core.specs.declared.plan.Prepared.{Prepared}
use Rattle.beas_core.specs.declared.refusal.Refusal.{Refusal}
use Rattle.catalogue.specs.Database.{schema_of}
use Rattle.catalogue.specs.Schema.{Schema}
use Rattle.sql_text.specs.declared.tree.Statement.{Statement}
use Rattle.sql_text.specs.declared.tree.Statement.TheVariants.{Select}
use Rattle.sql_text.specs.Trees.{Tree}
use Rattle.plan_data.specs.PlanValue.{plan_value, printed}
use Rattle.session.specs.Announced.{announcement}
use Rattle.piece_reader.specs.declared.event.Event.TheVariants.{Said, Stepped}
use Rattle.piece_reader.specs.Sayings.{Reading}
use Rattle.version_store.specs.Desks.{Seen}

-- the columns of the answer are named as the query's header has them
abbrev pub text_of : Schema → Prepared → List ℕ
text_of schema prepared = printed (plan_value prepared prepared.header schema)

abbrev pub as_text : Schema → Result Prepared Refusal → Result (List ℕ) Refusal
as_text schema (Ok prepared) = Ok (text_of schema prepared)
as_text schema (Err why) = Err why

abbrev pub query_plan : Seen → Tree → Result (List ℕ) Refusal
query_plan desk tree = as_text (schema_of desk.state.db) (announcement desk.settings.limits None (schema_of desk.state.db) tree)

abbrev pub statement_plan : Seen → Statement → Option (Result (List ℕ) Refusal)
statement_plan desk (Select tree) = Some (query_plan desk tree)
statement_plan desk _ = None

abbrev pub plan_of_reading : Seen → Reading → Option (Result (List ℕ) Refusal)
plan_of_reading desk (Err why) = Some (Err why)
plan_of_reading desk (Ok (Said session statement)) = statement_plan desk statement
plan_of_reading desk (Ok (Stepped session)) = None

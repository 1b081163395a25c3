-- What is reported of a piece that is priced.
--     statement_price desk statement     what EXPLAIN would say of a query without a budget; another statement has no price
--     price_of desk reading              the same of a piece, whichever session says it; one that says nothing is refused
use Rattle.std.specs.Prelude.{Option, None, Some, Ok, Err}
use Rattle.sql_text.specs.declared.tree.Statement.{Statement}
use Rattle.sql_text.specs.declared.tree.Statement.TheVariants.{Select}
use Rattle.report.specs.declared.reports.Report.{Report}
use Rattle.report.specs.declared.reports.Report.TheVariants.{Refused}
use Rattle.session.specs.Effects.{explain_effect}
use Rattle.piece_reader.specs.declared.event.Event.TheVariants.{Said, Stepped}
use Rattle.piece_reader.specs.Sayings.{Reading}
use Rattle.version_store.specs.Desks.{Seen}

abbrev pub statement_price : Seen → Statement → Option Report
statement_price desk (Select tree) = Some (explain_effect desk.settings.limits None desk.state.db tree).report
statement_price desk _ = None

abbrev pub price_of : Seen → Reading → Option Report
price_of desk (Err why) = Some (Refused why)
price_of desk (Ok (Said session statement)) = statement_price desk statement
price_of desk (Ok (Stepped session)) = None

-- What the events of a desk first answer to a session's query.
--     Happening                                        an event, with what the load of its file gives if it has one
--     effect_by action outcome                         what an action does where its load, if it has one, gives this
--     as_answer report, answer_to session event report      the report, where it is an answer; where it answers this session's query
--     first_answer settings session state happenings   the report of the first event of the session that answers its query, none where no
--                                                      event does or where a query that memory ran out for is to go on before
use Rattle.std.specs.Prelude.{◌==◌, if◌then◌else◌, ℕ, List, [], ◌∷◌, Option, Some, None}
use Rattle.std.specs.Option.{option_map_or, option_or}
use Rattle.report.specs.declared.reports.Report.{Report}
use Rattle.report.specs.declared.reports.Report.TheVariants.{Answered}
use Rattle.session.specs.declared.loading.LoadOutcome.{LoadOutcome}
use Rattle.session.specs.Effects.{Settings}
use Rattle.piece_reader.specs.declared.event.Event.{Event}
use Rattle.piece_reader.specs.declared.event.Event.TheVariants.{Said, Stepped}
use Rattle.desk_model.specs.Desks.{DeskAction, AtOnce, ByLoad, DeskEffect, State, action_of_event}

pub record Happening : Type 0 where
  pub event : Event
  pub outcome : LoadOutcome

abbrev pub effect_by : DeskAction → LoadOutcome → DeskEffect
effect_by (AtOnce effect) outcome = effect
effect_by (ByLoad name effect) outcome = effect outcome

abbrev pub as_answer : Report → Option Report
as_answer (Answered bound plan header rows reads) = Some (Answered bound plan header rows reads)
as_answer _ = None

-- the report, where it answers the query of this session
abbrev pub answer_to : ℕ → Event → Report → Option Report
answer_to session (Said other statement) report = None
answer_to session (Stepped other) report = if other == session then as_answer report else None

abbrev pub first_answer : Settings → ℕ → State → List Happening → Option Report
first_answer settings session state [] = None
first_answer settings session state (happening ∷ happenings) =
    option_map_or (λ action. option_or (answer_to session happening.event (effect_by action happening.outcome).report)
    (first_answer settings session (effect_by action happening.outcome).state happenings)) (action_of_event settings state happening.event) None

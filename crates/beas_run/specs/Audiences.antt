-- Who takes the reports of a script.
--     reports_in turns            the reports of these turns
--     unshown                     an output of which nothing is told, as one that no report is written to
--     HasTaken took count         so many reports were taken, one fewer than this number
--     counted report              what is counted of a report
--     totals_in turns             the totals of these turns' reports
use Rattle.std.specs.Prelude.{◌≡◌, ◌+◌, ◌-◌, ◌^◌, ℕ, false, List, [], length, map}
use Rattle.demo_gen.specs.declared.summary.Outcome.{Outcome as Counted}
use Rattle.demo_gen.specs.declared.summary.Outcome.TheVariants.{Answered as AnsweredQuery, Other, Refused as Refusal}
use Rattle.demo_gen.specs.Summaries.{Totals, totals_of}
use Rattle.outside.specs.Seen.{Sent}
use Rattle.report.specs.declared.reports.Report.{Report}
use Rattle.report.specs.declared.reports.Report.TheVariants.{Done, Changed, Greatest, Pairs, Explained, Answered, Grouped, Specialised, Opened, Probed, Refused}
use Rattle.desk_model.specs.Pieces.{DeskTurn}

abbrev pub reports_in : List DeskTurn → List Report
reports_in turns = map (λ t. t.effect.report) turns

-- its count of puts stands at its last value, which tells nothing of them
abbrev pub unshown : Sent
unshown = record { told = false; bytes = []; faults = 0; puts = 2 ^ 64 - 1 }

pub record HasTaken (took : List Report → Type 0) (number : ℕ) : Type 0 where
  pub reports : List Report
  pub these : took reports
  pub count : length reports + 1 ≡ number

abbrev pub counted : Report → Counted
counted (Refused why) = Refusal
counted (Answered bound plan header rows reads) = AnsweredQuery (length rows) reads bound
counted Done = Other
counted (Changed rows) = Other
counted (Greatest most) = Other
counted (Pairs found) = Other
counted (Explained bound plan) = Other
counted (Grouped bound plan header rows reads) = Other
counted (Specialised places) = Other
counted (Opened session bound) = Other
counted (Probed session) = Other

-- the totals of these reports
abbrev pub totals_over : List Report → Totals
totals_over reports = totals_of (map counted reports)

abbrev pub totals_in : List DeskTurn → Totals
totals_in turns = totals_over (reports_in turns)

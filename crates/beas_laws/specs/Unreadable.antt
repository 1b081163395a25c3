-- Which file a report says can't be read, and which load failed.
--     unreadable_file why       the file that can't be read, where that is why a statement is refused
--     unreadable_in report      the file of which the report says so
--     failed_file load          the file of a load that failed
--     TellsFailures turn        the report names the file of the turn's load as unreadable where that load failed, and else no file
--     NamesNone turn            the report names no file as unreadable
use Rattle.std.specs.Prelude.{◌≡◌, if◌then◌else◌, ℕ, List, Option, Some, None}
use Rattle.beas_core.specs.declared.refusal.Refusal.{Refusal}
use Rattle.beas_core.specs.declared.refusal.Refusal.TheVariants.{Unreadable}
use Rattle.report.specs.declared.reports.Report.{Report}
use Rattle.report.specs.declared.reports.Report.TheVariants.{Refused}
use Rattle.session.specs.Ties.{is_failed}
use Rattle.session.specs.Turns.{FileLoad, Turn}

abbrev pub unreadable_file : Refusal → Option (List ℕ)
unreadable_file (Unreadable file) = Some file
unreadable_file _ = None

abbrev pub unreadable_in : Report → Option (List ℕ)
unreadable_in (Refused why) = unreadable_file why
unreadable_in _ = None

abbrev pub failed_file : Option FileLoad → Option (List ℕ)
failed_file None = None
failed_file (Some load) = if is_failed load.outcome then Some load.name else None

abbrev pub TellsFailures : Turn → Type 0
TellsFailures turn = unreadable_in turn.effect.report ≡ failed_file turn.load

abbrev pub NamesNone : Turn → Type 0
NamesNone turn = unreadable_in turn.effect.report ≡ None

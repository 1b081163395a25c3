-- Reports of refusals.
--     IsRefusalOf number report      it reports a refusal with this number
--     IsTextOf wording report        and this is the wording of the refusal
use Rattle.std.specs.Prelude.{◌≡◌, ℕ, List}
use Rattle.beas_core.specs.declared.refusal.Refusal.{Refusal}
use Rattle.beas_core.specs.Refusals.{number_of}
use Rattle.report.specs.declared.reports.Report.{Report}
use Rattle.report.specs.declared.reports.Report.TheVariants.{Refused}
use Rattle.report.specs.Texts.{refusal_text}

pub record IsRefusalOf (number : ℕ) (report : Report) : Type 0 where
  pub why : Refusal
  pub is : report ≡ Refused why
  pub number_is : number ≡ number_of why

pub record IsTextOf (wording : List ℕ) (report : Report) : Type 0 where
  pub why : Refusal
  pub is : report ≡ Refused why
  pub wording_is : wording ≡ refusal_text why

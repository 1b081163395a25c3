-- What the parts of a statement's call answer and leave, by the statement's effect.
--     Happens effect report db ..              the report, the database and the reads are those of the effect
--     Stops effect before after ..             out of memory: no change, and no more reads than the effect's
--     CarriesOut effect before result ..       one of them; where the answer is a refusal, that is what is reported
--     Performs limit action before result ..   so by the action's effect, for what its file's load gave if it has one
--     reported result                          a refusal is reported too
use Rattle.std.specs.Prelude.{◌≡◌, ◌+◌, ◌≤◌, ℕ, List, [], ◌∷◌, Result, Ok, Err}
use Rattle.beas_core.specs.declared.errors.Fail.{Fail}
use Rattle.beas_core.specs.declared.errors.Fail.TheVariants.{NoMemory, Refused}
use Rattle.beas_core.specs.declared.errors.NoMemory.{NoMemory as Want}
use Rattle.catalogue.specs.Database.{Database}
use Rattle.outside.specs.Counts.{raised}
use Rattle.outside.specs.Seen.{Seen}
use Rattle.report.specs.declared.reports.Report.{Report}
use Rattle.report.specs.declared.reports.Report.TheVariants.{Refused as Refusing}
use Rattle.session.specs.declared.loading.LoadOutcome.{LoadOutcome}
use Rattle.session.specs.Effects.{Action, Does, Loads, Effect}
use Rattle.session.specs.Ties.{AreTied}

pub record Happens (effect : Effect) (report : Report) (db : Database) (steps_before steps_after : ℕ) : Type 0 where
  pub report_is : report ≡ effect.report
  pub db_is : db ≡ effect.db
  pub cost_is : steps_after ≡ steps_before + effect.cost

pub record Stops (effect : Effect) (before after : Database) (steps_before steps_after : ℕ) : Type 0 where
  pub unchanged : after ≡ before
  pub no_fewer : steps_before ≤ steps_after
  pub at_most : steps_after ≤ steps_before + effect.cost

abbrev pub CarriesOut : Effect → Database → Result Report Fail → Database → ℕ → ℕ → Type 0
CarriesOut effect before (Ok report) after s t = Happens effect report after s t
CarriesOut effect before (Err NoMemory) after s t = Stops effect before after s t
CarriesOut effect before (Err (Refused why)) after s t = Happens effect (Refusing why) after s t

-- the effect is that of what the load of the file gave in this call
pub record HappensByLoad (limit : ℕ) (name : List ℕ) (effect : LoadOutcome → Effect) (report : Report) (db : Database)
    (steps_before steps_after : ℕ) (files_before files_after : Seen) : Type 0 where
  pub outcome : LoadOutcome
  pub happens : Happens (effect outcome) report db steps_before steps_after
  pub tied : AreTied limit (record { name = name; outcome = outcome } ∷ []) files_before files_after
  pub counted : files_after.loads ≡ raised 1 files_before.loads

abbrev pub CarriesOutLoad : ℕ → List ℕ → (LoadOutcome → Effect) → Database → Result Report Fail → Database
    → ℕ → ℕ → Seen → Seen → Type 0
CarriesOutLoad limit name effect before (Ok report) after s t x y = HappensByLoad limit name effect report after s t x y
CarriesOutLoad limit name effect before (Err NoMemory) after s t x y = after ≡ before
CarriesOutLoad limit name effect before (Err (Refused why)) after s t x y =
    HappensByLoad limit name effect (Refusing why) after s t x y

-- a statement that waits for a file reads no tuple
abbrev pub Performs : ℕ → Action → Database → Result Report Fail → Database → ℕ → ℕ → Seen → Seen → Type 0
Performs limit (Does effect) before result after s t x y = CarriesOut effect before result after s t
Performs limit (Loads name effect) before result after s t x y =
    (t ≡ s) × CarriesOutLoad limit name effect before result after s t x y

abbrev pub reported : Result Report Fail → Result Report Want
reported (Ok report) = Ok report
reported (Err NoMemory) = Err (record {})
reported (Err (Refused why)) = Ok (Refusing why)

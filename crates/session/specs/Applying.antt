-- What a call that carries out one statement did.
--     settings_of session                    what the session decides by beside its database
--     settings_in settings                   the same, as they are handed on
--     database_of session                    its database
--     IsApplied limit action report db ..         its report, the new database and the reads are those of its action
--     MayCost action before after               so many reads, at most those of the action
--     MayLoad action before after               its file was loaded at most once, and no other
use Rattle.std.specs.Prelude.{◌≡◌, ◌+◌, ◌≤◌, ◌⊎◌, ℕ, [], ◌∷◌, length}
use Rattle.outside.specs.Counts.{raised}
use Rattle.outside.specs.Seen.{Seen}
use Rattle.catalogue.specs.Database.{Database}
use Rattle.report.specs.declared.reports.Report.{Report}
use Rattle.session.specs.declared.loading.LoadOutcome.{LoadOutcome}
use Rattle.session.specs.declared.session.Session.{Session}
use Rattle.session.specs.declared.settings.Settings.{Settings as HandedSettings}
use Rattle.session.specs.Effects.{Action, Does, Loads, Settings}
use Rattle.session.specs.Stores.{database_in}
use Rattle.session.specs.Ties.{AreTied}
use Rattle.session.specs.Turns.{loads_of, turn_of}

-- the same, as they are handed on
abbrev pub settings_in : HandedSettings → Settings
settings_in settings = record { limits = settings.limits.now; budget = settings.budget; explain = settings.explain }

abbrev pub settings_of : Session → Settings
settings_of session = record { limits = session.limits; budget = session.budget; explain = session.explain }

abbrev pub database_of : Session → Database
database_of session = database_in session.guarded

pub record IsApplied (limit : ℕ) (action : Action) (report : Report) (db : Database)
    (steps_before steps_after : ℕ) (before after : Seen) : Type 0 where
  -- what the load of the action's file gave in this call, if it has one
  pub outcome : LoadOutcome
  pub report_is : report ≡ (turn_of action outcome).effect.report
  pub db_is : db ≡ (turn_of action outcome).effect.db
  pub cost_is : steps_after ≡ steps_before + (turn_of action outcome).effect.cost
  pub tied : AreTied limit (loads_of (turn_of action outcome ∷ [])) before after
  -- that load was the only one
  pub counted : after.loads ≡ raised (length (loads_of (turn_of action outcome ∷ []))) before.loads

-- whatever the load of the action's file gave
abbrev pub MayCost : Action → ℕ → ℕ → Type 0
MayCost action before after = (outcome : LoadOutcome) → after ≤ before + (turn_of action outcome).effect.cost

-- whatever became of the action
abbrev pub MayLoad : Action → Seen → Seen → Type 0
MayLoad (Does effect) before after = after.loads ≡ before.loads
MayLoad (Loads name effect) before after = (after.loads ≡ before.loads) ⊎ (after.loads ≡ raised 1 before.loads)

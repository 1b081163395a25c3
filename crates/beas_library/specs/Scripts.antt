-- A script that is said statement by statement.
--     line_of engine                       the last report as the program writes it
--     SaysAll texts before after ..        the texts were said one after another, and these are the lines of their reports
--     scene_of, moment_of engine ..        a run that has come to this engine, with so many steps, lines and puts
--     IsBefore engine                      no report is held yet, and no query is open
--     WritesAsRun script lines ..          the lines are what the run of a script writes
use Rattle.std.specs.Prelude.{◌≡◌, ◌<◌, ◌++◌, ℕ, true, List, [], ◌∷◌, option_map, unwrap_or}
use Rattle.report.specs.Reports.{report_text}
use Rattle.beas_run.specs.Pieces.{Scene, moment_of as moment_at, scene}
use Rattle.beas_run.specs.Readings.{readings_of}
use Rattle.beas_run.specs.Walks.{Moment, Walked}
use Rattle.beas_library.specs.declared.engine.Engine.{Engine}
use Rattle.beas_library.specs.Engines.{HasSaid}
use Rattle.beas_library.specs.HandedFiles.{seen_of}

abbrev pub line_of : Engine → List ℕ
line_of engine = unwrap_or (option_map (report_text engine.number) engine.report) []

pub record SaysFirst (text : List ℕ) (SaysOthers : Engine → Engine → ℕ → ℕ → List ℕ → Type 0) (before after : Engine)
    (steps_before steps_after : ℕ) (lines : List ℕ) : Type 0 where
  pub next : Engine
  pub steps : ℕ
  pub said : HasSaid text before next steps_before steps
  pub lines_after : List ℕ
  pub others : SaysOthers next after steps steps_after lines_after
  pub lines_are : lines ≡ line_of next ++ lines_after

abbrev pub SaysAll : List (List ℕ) → Engine → Engine → ℕ → ℕ → List ℕ → Type 0
SaysAll [] before after steps_before steps_after lines = (after ≡ before) × (steps_after ≡ steps_before) × (lines ≡ [])
SaysAll (text ∷ texts) before after steps_before steps_after lines =
    SaysFirst text (SaysAll texts) before after steps_before steps_after lines

-- its output is in memory, and takes all
abbrev pub scene_of : Engine → ℕ → List ℕ → ℕ → Scene
scene_of engine steps lines puts =
    scene engine.desk steps (record { told = true; bytes = lines; faults = 0; puts = puts }) (seen_of engine.files)

abbrev pub moment_of : Engine → ℕ → List ℕ → ℕ → Moment
moment_of engine steps lines puts = moment_at (scene_of engine steps lines puts)

pub record IsBefore (engine : Engine) : Type 0 where
  pub number : engine.number ≡ 0
  pub queries : engine.desk.state.queries ≡ []
  pub shares : engine.desk.shares ≡ []

-- it is carried out whole, over the same database, settings and files
pub record WritesAsRun (script lines : List ℕ) (before after : Engine) (steps_before steps_after : ℕ) : Type 0 where
  pub status : ℕ
  pub whole : status < 2
  pub puts : ℕ
  pub walked : Walked before.desk.settings (readings_of script) status (moment_of before steps_before [] 0)
      (moment_of after steps_after lines puts)

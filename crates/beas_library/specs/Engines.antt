-- What is held for a program, and what its calls do.
--     fresh_desk limits budget explain          a desk without tables
--     IsFresh limits budget explain engine      nothing was done with it yet
--     with_report report engine                 the report is held, with the next number
--     with_settings, without_query ..           other settings; a session's open query is dropped
--     HasFile name bytes before after           the name has these bytes, and all else is as it was
--     HasDone tokens before after steps ..      a statement was carried out, as a script's next one, and its report is held
--     HasLeft tokens before after steps ..      memory ran out in it
--     HasSaid text .., HasWanted text ..        the same of a text
--     HasPriced text before after               what EXPLAIN would report of its query is held
--     IsUnpricedFor desk why text               the cause for which a text isn't priced stands
--     IsPlanOf desk text plan                   the plan of its query as data, or why the query is refused
use Rattle.std.specs.Prelude.{◌≡◌, ◌≢◌, ◌⊎◌, ◌+◌, ◌-◌, ◌^◌, ℕ, zero, suc, Bool, List, [], min, Option, None, Some, Result, Ok, Err}
use Rattle.beas_core.specs.declared.limits.Limits.{Limits}
use Rattle.beas_core.specs.declared.refusal.Refusal.{Refusal}
use Rattle.outside.specs.Contents.{content_of}
use Rattle.report.specs.declared.reports.Report.{Report}
use Rattle.sql_tokens.specs.declared.token.Token.{Token}
use Rattle.piece_reader.specs.declared.event.Event.TheVariants.{Said, Stepped}
use Rattle.piece_reader.specs.Sayings.{Reading, reading_of}
use Rattle.version_store.specs.Desks.{MayTake, Seen as DeskSeen, desk_wanting, without_query_of}
use Rattle.beas_run.specs.Pieces.{GoesOnBy, IsDone, IsLeft, MayTakeUnnamed}
use Rattle.beas_run.specs.Plans.{plan_of_reading}
use Rattle.beas_run.specs.Prices.{price_of}
use Rattle.beas_library.specs.declared.engine.Engine.{Engine}
use Rattle.beas_library.specs.declared.pieces.Why.{Why}
use Rattle.beas_library.specs.declared.pieces.Why.TheVariants.{TooLong, NotText, NoStatement, Several, NotAQuery, NoMemory}
use Rattle.beas_library.specs.HandedFiles.{Handed, seen_of}
use Rattle.beas_library.specs.OnePiece.{IsRefusedFor, IsStatementIn}

abbrev pub fresh_desk : Limits → Option ℕ → Bool → DeskSeen
fresh_desk limits budget explain = record {
  settings = record { limits = limits; budget = budget; explain = explain };
  state = record { db = record { tables = []; accesses = []; created = 0 }; queries = [] };
  shares = [];
  probes = [];
}

-- no report is held, and no file
pub record IsFresh (limits : Limits) (budget : Option ℕ) (explain : Bool) (engine : Engine) : Type 0 where
  pub desk : engine.desk ≡ fresh_desk limits budget explain
  pub files : engine.files ≡ record { shelf = []; loads = 0 }
  pub report : engine.report ≡ None
  pub number : engine.number ≡ 0

-- the number stands still at its last value
abbrev pub with_report : Report → Engine → Engine
with_report report engine = record engine { report = Some report; number = min (engine.number + 1) (2 ^ 32 - 1) }

abbrev pub with_settings : Option ℕ → Bool → Engine → Engine
with_settings budget explain engine = record engine {
  desk = record engine.desk { settings = record { limits = engine.desk.settings.limits; budget = budget; explain = explain } };
}

abbrev pub without_query : ℕ → Engine → Engine
without_query session engine = record engine { desk = without_query_of session engine.desk }

-- ---- files

pub record HasFile (name bytes : List ℕ) (before after : Engine) : Type 0 where
  pub added : content_of after.files.shelf name ≡ Some bytes
  pub others : (other : List ℕ) → other ≢ name → content_of after.files.shelf other ≡ content_of before.files.shelf other
  pub rest : after ≡ record before { files = after.files }
  pub loads : after.files.loads ≡ before.files.loads

-- files are handed over by calls of their own alone
abbrev pub AreSameFiles : Handed → Handed → Type 0
AreSameFiles before after = content_of after.shelf ≡ content_of before.shelf

-- ---- a statement

pub record HasDone (tokens : List Token) (before after : Engine) (steps_before steps_after : ℕ) : Type 0 where
  pub report : Report
  pub done : IsDone before.desk.settings (reading_of tokens) report before.desk after.desk steps_before steps_after
      (seen_of before.files) (seen_of after.files)
  pub goes_on : GoesOnBy (reading_of tokens) report before.desk after.desk steps_before steps_after
  pub held : after ≡ with_report report (record before { desk = after.desk; files = after.files })
  pub settings : after.desk.settings ≡ before.desk.settings
  pub files : AreSameFiles before.files after.files

-- session 0 is that of the statements that name none: no query of it stays open
abbrev pub DropsLost : Reading → DeskSeen → DeskSeen → ℕ → ℕ → Type 0
DropsLost (Ok (Said zero statement)) before after s t = (after ≡ without_query_of 0 before) × MayTakeUnnamed statement before s t
DropsLost (Ok (Said (suc session) statement)) before after s t =
    (after ≡ without_query_of 0 before) × MayTake (Said (suc session) statement) before s t
DropsLost (Ok (Stepped session)) before after s t =
    ((after ≡ without_query_of 0 before) × (t ≡ s))
    ⊎ ((after ≡ without_query_of 0 (desk_wanting (Stepped session) before)) × MayTake (Stepped session) before s t)
DropsLost (Err why) before after s t = (after ≡ without_query_of 0 before) × (t ≡ s)

pub record HasLeft (tokens : List Token) (before after : Engine) (steps_before steps_after : ℕ) : Type 0 where
  pub left : IsLeft before.desk.settings (reading_of tokens) before.desk after.desk steps_before steps_after
      (seen_of before.files) (seen_of after.files)
  pub desk : DropsLost (reading_of tokens) before.desk after.desk steps_before steps_after
  pub held : after ≡ record before { desk = after.desk; files = after.files }
  pub files : AreSameFiles before.files after.files

-- ---- a text

pub record HasSaid (text : List ℕ) (before after : Engine) (steps_before steps_after : ℕ) : Type 0 where
  pub tokens : List Token
  pub is : IsStatementIn text tokens
  pub done : HasDone tokens before after steps_before steps_after

-- in a statement, or before it was known
pub record WantedIn (text : List ℕ) (before after : Engine) (steps_before steps_after : ℕ) : Type 0 where
  pub tokens : List Token
  pub is : IsStatementIn text tokens
  pub left : HasLeft tokens before after steps_before steps_after

abbrev pub HasWanted : List ℕ → Engine → Engine → ℕ → ℕ → Type 0
HasWanted text before after steps_before steps_after =
    ((after ≡ before) × (steps_after ≡ steps_before)) ⊎ WantedIn text before after steps_before steps_after

-- ---- a price

pub record HasPriced (text : List ℕ) (before after : Engine) : Type 0 where
  pub tokens : List Token
  pub is : IsStatementIn text tokens
  pub report : Report
  pub price : price_of before.desk (reading_of tokens) ≡ Some report
  pub held : after ≡ with_report report before

pub record IsNoQuery (desk : DeskSeen) (text : List ℕ) : Type 0 where
  pub tokens : List Token
  pub is : IsStatementIn text tokens
  pub priceless : price_of desk (reading_of tokens) ≡ None

abbrev pub IsUnpricedFor : DeskSeen → Why → List ℕ → Type 0
IsUnpricedFor desk NotAQuery text = IsNoQuery desk text
IsUnpricedFor desk TooLong text = IsRefusedFor TooLong text
IsUnpricedFor desk NotText text = IsRefusedFor NotText text
IsUnpricedFor desk NoStatement text = IsRefusedFor NoStatement text
IsUnpricedFor desk Several text = IsRefusedFor Several text
IsUnpricedFor desk NoMemory text = IsRefusedFor NoMemory text

-- ---- a plan

pub record IsPlanOf (desk : DeskSeen) (text : List ℕ) (plan : Result (List ℕ) Refusal) : Type 0 where
  pub tokens : List Token
  pub is : IsStatementIn text tokens
  pub plan_is : plan_of_reading desk (reading_of tokens) ≡ Some plan

-- What a statement did in a run, with what the load of its file gave.
--     FileLoad                      a file's name, and what its load gave
--     Turn                          a statement's effect, and its load where it is a LOAD of a known table
--     turn_of action outcome        what the action does where its file's load, if it has one, gives this
--     out_of turns                  the texts of the reports, one after another
--     cost_of turns                 all reads
--     any_refused turns, database_after db turns, loads_of turns
--     IsWithin report               a query reads at most the number that was announced
use Rattle.std.specs.Prelude.{◌≤◌, ℕ, Bool, true, false, List, fold, sum_by, Option, Some, None}
use Rattle.std.specs.List.{enumerate_from, filter_map, flat_map, list_any}
use Rattle.catalogue.specs.Database.{Database}
use Rattle.report.specs.declared.reports.Report.{Report}
use Rattle.report.specs.declared.reports.Report.TheVariants.{Done, Changed, Greatest, Pairs, Explained, Answered, Grouped, Specialised, Opened, Probed, Refused}
use Rattle.report.specs.Reports.{report_text}
use Rattle.session.specs.declared.loading.LoadOutcome.{LoadOutcome}
use Rattle.session.specs.Effects.{Action, Does, Effect, Loads}

pub record FileLoad : Type 0 where
  pub name : List ℕ
  pub outcome : LoadOutcome

pub record Turn : Type 0 where
  pub effect : Effect
  pub load : Option FileLoad

abbrev pub turn_of : Action → LoadOutcome → Turn
turn_of (Does effect) outcome = record { effect = effect; load = None }
turn_of (Loads name effect) outcome =
    record { effect = effect outcome; load = Some (record { name = name; outcome = outcome }) }

abbrev pub is_refusal : Report → Bool
is_refusal (Refused why) = true
is_refusal Done = false
is_refusal (Changed rows) = false
is_refusal (Greatest most) = false
is_refusal (Pairs found) = false
is_refusal (Explained bound plan) = false
is_refusal (Answered bound plan header rows reads) = false
is_refusal (Grouped bound plan header rows reads) = false
is_refusal (Specialised places) = false
is_refusal (Opened session bound) = false
is_refusal (Probed session) = false

-- statements are numbered from 1
abbrev pub out_of : List Turn → List ℕ
out_of turns = flat_map (λ t. report_text t.0 t.1.effect.report) (enumerate_from 1 turns)

abbrev pub cost_of : List Turn → ℕ
cost_of turns = sum_by (λ t. t.effect.cost) turns

abbrev pub any_refused : List Turn → Bool
any_refused turns = list_any (λ t. is_refusal t.effect.report) turns

abbrev pub database_after : Database → List Turn → Database
database_after db turns = fold (λ before t. t.effect.db) db turns

abbrev pub loads_of : List Turn → List FileLoad
loads_of turns = filter_map (λ t. t.load) turns

-- the reads of an answered query, in groups too, are at most the number that its report announces
abbrev pub IsWithin : Report → Type 0
IsWithin (Answered bound plan header rows reads) = reads ≤ bound
IsWithin (Grouped bound plan header rows reads) = reads ≤ bound
IsWithin Done = Unit {0}
IsWithin (Changed rows) = Unit {0}
IsWithin (Greatest most) = Unit {0}
IsWithin (Pairs found) = Unit {0}
IsWithin (Explained bound plan) = Unit {0}
IsWithin (Specialised places) = Unit {0}
IsWithin (Opened session bound) = Unit {0}
IsWithin (Probed session) = Unit {0}
IsWithin (Refused why) = Unit {0}

-- What the pieces of a run come from, and what is done with them.
--     LoadsScript args before after     a script's file is loaded once, and for a demonstration none
--     IsSource asked ..              this is asked for, and this is its text
--     IsMade args text               where a demonstration is asked for, this is its text
--     HasNoScript asked why ..       why there is none
--     RanOver args text ..           the pieces of the text were carried out, or as far as the run came
use Rattle.std.specs.Prelude.{◌≡◌, ◌≢◌, ◌<◌, ◌≤◌, ◌⊎◌, ℕ, List, length, Option, Some, None, option_and_then, IsSomeAnd}
use Rattle.beas_core.specs.declared.limits.Limits.{Limits}
use Rattle.command_line.specs.declared.arguments.Args.{Args}
use Rattle.command_line.specs.declared.arguments.Args.TheVariants.{Script, Demo}
use Rattle.demo_gen.specs.Demo.{demo_text}
use Rattle.outside.specs.Counts.{Rose, raised}
use Rattle.outside.specs.Seen.{IsLater, IsLaterSink, Seen}
use Rattle.session.specs.Effects.{Settings}
use Rattle.beas_run.specs.declared.no_script.NoScript.{NoScript}
use Rattle.beas_run.specs.declared.no_script.NoScript.TheVariants.{Arguments, Unread, TooLong, NotText, NoMemory}
use Rattle.beas_run.specs.declared.script_source.Source.{Source}
use Rattle.beas_run.specs.NoScripts.{status_of}
use Rattle.beas_run.specs.Runs.{path_of, seed_of, settings_for, longest_script, HasLoaded, IsNoText, IsScriptOf, IsTooLong, WalkedFor}
use Rattle.beas_run.specs.Readings.{readings_of}
use Rattle.beas_run.specs.Walks.{Moment}

abbrev pub LoadsScript : Args → Seen → Seen → Type 0
LoadsScript (Script path budget explain) before after = after.loads ≡ raised 1 before.loads
LoadsScript (Demo seed budget explain) before after = after ≡ before

pub record IsSource (asked : Option Args) (before after : Seen) (source : Source) : Type 0 where
  pub asked_is : asked ≡ Some source.args
  pub fits : length source.text ≤ longest_script
  pub is : IsScriptOf (Some source.args) before source.text
  pub loaded : LoadsScript source.args before after
  pub later : IsLater before after

abbrev pub IsMade : Args → List ℕ → Type 0
IsMade (Script path budget explain) text = Unit {0}
IsMade (Demo seed budget explain) text = text ≡ demo_text seed

pub record HasNoScript (asked : Option Args) (why : NoScript) (before after : Seen) : Type 0 where
  pub arguments : asked ≡ None → (why ≡ Arguments) ⊎ (why ≡ NoMemory)
  pub arguments_alone : why ≡ Arguments → asked ≡ None
  pub unread : why ≡ Unread → IsSomeAnd (option_and_then path_of asked)
      (λ name. Rose (before.faults name) (after.faults name))
  pub too_long : why ≡ TooLong → IsSomeAnd (option_and_then path_of asked) (IsTooLong before after)
  pub not_text : why ≡ NotText → IsSomeAnd (option_and_then path_of asked) (IsNoText before)
  pub loaded : HasLoaded asked (status_of why) before after
  -- a demonstration lacks its text out of memory alone
  pub seedless : (option_and_then seed_of asked ≡ None) ⊎ (why ≡ NoMemory)
  pub later : IsLater before after

pub record RanOver (args : Args) (text : List ℕ) (limits : Limits) (status : ℕ) (settings : Settings)
    (before after : Moment) : Type 0 where
  pub statuses : (status < 2) ⊎ (status ≡ 4) ⊎ (status ≡ 5)
  pub walked : WalkedFor (Some args) (settings_for limits args) (readings_of text) status before after
  pub settings_are : settings ≡ settings_for limits args
  pub no_fault : status ≢ 4 → after.out.faults ≡ before.out.faults
  pub fault : status ≡ 4 → Rose before.out.faults after.out.faults
  pub out : IsLaterSink before.out after.out
  pub files : IsLater before.files after.files

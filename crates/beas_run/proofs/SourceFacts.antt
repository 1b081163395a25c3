-- What a run does with what the arguments ask for, and what it says where there is no text.
use Rattle.std.proofs.Common.{◌≡◌, ◌≤◌, ◌<◌, ◌⊎◌, ◌∙◌, ap, sym, subst, refl, inl, inr, ℕ, Bool, List, Option, Some, None, false, length, arith}
use Rattle.std.specs.Prelude.{option_and_then}
use Rattle.beas_core.specs.declared.limits.Limits.{Limits}
use Rattle.command_line.specs.declared.arguments.Args.{Args}
use Rattle.command_line.specs.declared.arguments.Args.TheVariants.{Script, Demo}
use Rattle.demo_gen.specs.Demo.{demo_text}
use Rattle.outside.specs.Counts.{Rose, raised}
use Rattle.session.specs.Effects.{Settings}
use Rattle.outside.specs.Seen.{Seen, Sent, IsLater}
use Rattle.beas_run.specs.declared.no_script.NoScript.{NoScript}
use Rattle.beas_run.specs.declared.no_script.NoScript.TheVariants.{Arguments, Unread, TooLong, NotText, NoMemory}
use Rattle.beas_run.specs.NoScripts.{status_of, IsSaid}
use Rattle.beas_run.specs.NoSessions.{NamesNoSession}
use Rattle.beas_run.specs.Runs.{path_of, seed_of, settings_for, longest_script, HasLoaded, IsNoText, IsScriptOf, IsTooLong, WalkedFor}
use Rattle.beas_run.specs.Readings.{readings_of}
use Rattle.beas_run.specs.Sources.{HasNoScript, IsMade}
use Rattle.beas_run.specs.Walks.{Moment}
use Rattle.beas_run.proofs.DemoFacts.{demo_names_none}
use Rattle.beas_run.proofs.SourcelessFacts.{early_said, status_said}
use Rattle.beas_run.proofs.TieFacts.{same_later}

some≢none : {X : Type 0} (x : X) → Some x ≡ None → ⊥
some≢none x e = cc

-- ---- there is no text

none_loaded : (asked : Option Args) (status : ℕ) (files : Seen) → status ≡ 5 → HasLoaded asked status files files
none_loaded None status files five = refl
none_loaded (Some (Script path budget explain)) status files five = inr (five, refl)
none_loaded (Some (Demo seed budget explain)) status files five = refl

pub no_memory_left : (asked : Option Args) (files : Seen) → HasNoScript asked NoMemory files files
no_memory_left asked files = record {
  arguments = λ _. inr refl;
  arguments_alone = λ e. absurd (let bad : NoMemory ≡ Arguments = e in cc);
  unread = λ e. absurd (let bad : NoMemory ≡ Unread = e in cc);
  too_long = λ e. absurd (let bad : NoMemory ≡ TooLong = e in cc);
  not_text = λ e. absurd (let bad : NoMemory ≡ NotText = e in cc);
  loaded = none_loaded asked (status_of NoMemory) files refl;
  seedless = inr refl;
  later = same_later files;
}

pub arguments_refused : (asked : Option Args) (files : Seen) → asked ≡ None → HasNoScript asked Arguments files files
arguments_refused asked files none = record {
  arguments = λ _. inl refl;
  arguments_alone = λ _. none;
  unread = λ e. absurd (let bad : Arguments ≡ Unread = e in cc);
  too_long = λ e. absurd (let bad : Arguments ≡ TooLong = e in cc);
  not_text = λ e. absurd (let bad : Arguments ≡ NotText = e in cc);
  loaded = subst (λ a. HasLoaded a (status_of Arguments) files files) (sym none) refl;
  seedless = inl (ap (option_and_then seed_of) none);
  later = same_later files;
}

pub file_unread : (path : List ℕ) (budget : Option ℕ) (explain : Bool) (why : NoScript) (before after : Seen)
    → (why ≡ Arguments → ⊥) → (why ≡ Unread → Rose (before.faults path) (after.faults path)) → (why ≡ TooLong → IsTooLong before after path)
    → (why ≡ NotText → IsNoText before path) → after.loads ≡ raised 1 before.loads → IsLater before after
    → HasNoScript (Some (Script path budget explain)) why before after
file_unread path budget explain why before after named unread too_long not_text loaded later = record {
  arguments = λ none. absurd (some≢none (Script path budget explain) none);
  arguments_alone = λ e. absurd (named e);
  unread = unread;
  too_long = too_long;
  not_text = not_text;
  loaded = inl loaded;
  seedless = inl refl;
  later = later;
}

-- ---- the text that is run over is the one that is asked for

pub same_script : (args : Args) (files : Seen) (text now : List ℕ) → IsScriptOf (Some args) files text → now ≡ text
    → IsScriptOf (Some args) files now
same_script args files text now is same = subst (λ (t : List ℕ). IsScriptOf (Some args) files t) (sym same) is

pub same_length : (text now : List ℕ) → length text ≤ longest_script → now ≡ text → length now ≤ longest_script
same_length text now fits same = subst (λ (t : List ℕ). length t ≤ longest_script) (sym same) fits

-- ---- a demonstration is over its own text

pub is_made : (args : Args) (files : Seen) (text now : List ℕ) → IsScriptOf (Some args) files text → now ≡ text → IsMade args now
is_made (Script path budget explain) files text now is same = tt
is_made (Demo seed budget explain) files text now is same = same ∙ is

pub made_names_none : (args : Args) (seed : ℕ) (budget : Option ℕ) (explain : Bool) (text : List ℕ) → args ≡ Demo seed budget explain → IsMade args text
    → NamesNoSession text
made_names_none args seed budget explain text asked made =
    let is : text ≡ demo_text seed = subst (λ (a : Args). IsMade a text) asked made in subst NamesNoSession (sym is) (demo_names_none seed)

-- ---- the way and the settings that are asked for

pub names_a_file : (args : Args) (path : List ℕ) (budget : Option ℕ) (explain : Bool) → args ≡ Script path budget explain → path_of args ≡ None → ⊥
names_a_file args path budget explain e none = some≢none path (sym (ap path_of e) ∙ none)

-- what is asked for names no file where the arguments name none
pub none_named : (asked : Option Args) (args : Args) → asked ≡ Some args → option_and_then path_of asked ≡ None → path_of args ≡ None
none_named asked args e none = sym (ap (option_and_then path_of) e) ∙ none

pub way_for : (args asked : Args) (limits : Limits) (text : List ℕ) (status : ℕ) (before after : Moment) → args ≡ asked
    → WalkedFor (Some asked) (settings_for limits asked) (readings_of text) status before after
    → WalkedFor (Some args) (settings_for limits args) (readings_of text) status before after
way_for args asked limits text status before after e walked =
    let P : Args → Type 0 = λ a. WalkedFor (Some a) (settings_for limits a) (readings_of text) status before after in
    subst P (sym e) walked

pub settings_for_same : (args asked : Args) (limits : Limits) (settings : Settings) → args ≡ asked
    → settings ≡ settings_for limits asked → settings ≡ settings_for limits args
settings_for_same args asked limits settings e same = same ∙ ap (settings_for limits) (sym e)

-- ---- the status of a run that has a script is none of a run without one

pub without_one : (status : ℕ) → (status < 2) ⊎ (status ≡ 4) ⊎ (status ≡ 5)
    → (status ≡ 2) ⊎ (status ≡ 3) ⊎ (status ≡ 6) ⊎ (status ≡ 7) → ⊥
without_one status ended without = omega arith

pub with_none : (why : NoScript) (status : ℕ) (before after : Sent) → IsSaid why status before after → (status < 2) ⊎ (status ≡ 4) → ⊥
with_none why status before after told (inl below) = let early = early_said why status (status_said why status before after told) in omega (arith, early.0)
with_none why status before after told (inr four) = (early_said why status (status_said why status before after told)).1 four

-- What a run does, at each of its statuses.
--     script_name arguments      the name of the script that the arguments ask for, if they ask for one
--     demo_seed arguments        the seed of the demonstration, if they ask for one
--     settings_of_arguments ..   what the statements are then decided by
--     WalkedFor ..               the turns of a file's script, or of a demonstration's, were done, or as far as the run came
--     HasLoaded ..               whether it loaded the file of its script
--     outcomes_in ..             what the loads of its files gave
--     Standing                   what a run finds, and what it leaves
--     Ended ..                   how it ended: a case for each status
--     HasRun ..                  what it did: its script's turns, or as far as it came, and how it ended
--     IsComplete ..              which statuses are left where nothing stands in the way of a script
use Rattle.std.specs.Prelude.{◌≡◌, ◌≢◌, ◌<◌, ◌≤◌, ◌+◌, ◌++◌, ◌⊎◌, ℕ, true, false, List, [], length, codes, Option, Some, None, option_and_then, IsSomeAnd}
use Rattle.std.specs.Option.{option_map_or}
use Rattle.std.specs.Str.{IsUtf8}
use Rattle.beas_core.specs.declared.limits.Limits.{Limits}
use Rattle.command_line.specs.declared.arguments.Args.{Args}
use Rattle.command_line.specs.declared.arguments.Args.TheVariants.{Script, Demo}
use Rattle.command_line.specs.Arguments.{args_of, usage_line}
use Rattle.demo_gen.specs.Demo.{demo_text}
use Rattle.outside.specs.Counts.{Rose, RoseBy, raised}
use Rattle.outside.specs.Parts.{SentPart}
use Rattle.outside.specs.Seen.{IsLater, IsLaterSink, Seen, Sent}
use Rattle.session.specs.declared.loading.LoadOutcome.{LoadOutcome}
use Rattle.session.specs.declared.session.Session.{Session}
use Rattle.session.specs.Applying.{settings_of}
use Rattle.session.specs.Effects.{Settings}
use Rattle.beas_run.specs.Demonstrations.{Demonstrated}
use Rattle.piece_reader.specs.Sayings.{Reading}
use Rattle.beas_run.specs.Readings.{Readings}
use Rattle.beas_run.specs.Walks.{Moment, Walked, moment}

abbrev pub path_of : Args → Option (List ℕ)
path_of (Script path budget explain) = Some path
path_of (Demo seed budget explain) = None

abbrev pub seed_of : Args → Option ℕ
seed_of (Script path budget explain) = None
seed_of (Demo seed budget explain) = Some seed

abbrev pub script_name : List (List ℕ) → Option (List ℕ)
script_name arguments = option_and_then path_of (args_of arguments)

abbrev pub demo_seed : List (List ℕ) → Option ℕ
demo_seed arguments = option_and_then seed_of (args_of arguments)

abbrev pub settings_for : Limits → Args → Settings
settings_for limits (Script path budget explain) = record { limits = limits; budget = budget; explain = explain }
settings_for limits (Demo seed budget explain) = record { limits = limits; budget = budget; explain = explain }

abbrev pub longest_script : ℕ
longest_script = 16777216

-- what is said of a run that has no script
abbrev pub unread_line : List ℕ
unread_line = codes "beas: cannot read the script\n"

abbrev pub too_long_line : List ℕ
too_long_line = codes "beas: the script is longer than 16777216 bytes\n"

abbrev pub no_text_line : List ℕ
no_text_line = codes "beas: the script is not UTF-8\n"

-- the file of this name has these bytes, where contents are told
abbrev pub IsContent : Seen → List ℕ → List ℕ → Type 0
IsContent files bytes name = files.told ≡ true → files.content name ≡ Some bytes

-- the script that is asked for: the content of a file, or the text of a demonstration
abbrev pub IsScriptOf : Option Args → Seen → List ℕ → Type 0
IsScriptOf None files script = ⊥
IsScriptOf (Some (Script path budget explain)) files script = IsContent files script path
IsScriptOf (Some (Demo seed budget explain)) files script = script ≡ demo_text seed

-- where the arguments ask for nothing there are no statements
abbrev pub settings_of_arguments : Limits → List (List ℕ) → Settings
settings_of_arguments limits arguments =
    option_map_or (settings_for limits) (args_of arguments) (record { limits = limits; budget = None; explain = false })

-- the reports of a file's script are written, and of a demonstration's the line of their totals
abbrev pub WalkedFor : Option Args → Settings → List Reading → ℕ → Moment → Moment → Type 0
WalkedFor None = Walked
WalkedFor (Some (Script path budget explain)) = Walked
WalkedFor (Some (Demo seed budget explain)) = Demonstrated

-- what the loads of files gave
abbrev pub outcomes_in : (asked : Option Args) (s : Settings) (readings : List Reading) (status : ℕ)
    (before after : Moment) → WalkedFor asked s readings status before after → List LoadOutcome
outcomes_in None s readings status before after walked = walked.outcomes
outcomes_in (Some (Script path budget explain)) s readings status before after walked = walked.outcomes
outcomes_in (Some (Demo seed budget explain)) s readings status before after walked = walked.walked.outcomes

-- the file of the script that is asked for is loaded once, or out of memory perhaps not at all; a demonstration has none
abbrev pub HasLoaded : Option Args → ℕ → Seen → Seen → Type 0
HasLoaded None status before after = after.loads ≡ before.loads
HasLoaded (Some (Script path budget explain)) status before after =
    (after.loads ≡ raised 1 before.loads) ⊎ ((status ≡ 5) × (after.loads ≡ before.loads))
HasLoaded (Some (Demo seed budget explain)) status before after = after.loads ≡ before.loads

-- a run where its script is there, with the files as they are then
abbrev pub with_files : Moment → Seen → Moment
with_files moment files = record moment { files = files }

-- the script is longer than a script may be; where contents aren't told, one byte more was taken
pub record IsTooLong (before after : Seen) (name : List ℕ) : Type 0 where
  pub longer : before.told ≡ true → IsSomeAnd (before.content name) (λ bytes. longest_script < length bytes)
  pub taken : before.told ≢ true → RoseBy (longest_script + 1) before.taken after.taken

-- the script is no text
pub record IsNoText (before : Seen) (name : List ℕ) : Type 0 where
  pub bytes : List ℕ
  pub fits : length bytes ≤ longest_script
  pub no_text : IsUtf8 bytes → ⊥
  pub content_is : IsContent before bytes name

-- ---- what a run finds, and what it leaves

pub record Standing : Type 0 where
  pub settings : Settings
  pub moment : Moment
  -- on `err`
  pub said : Sent

abbrev pub standing : Session → ℕ → Sent → Sent → Seen → Standing
standing session steps out err files =
    record { settings = settings_of session; moment = moment session steps out files; said = err }

-- ---- what is said on `err`

-- this line, by one put, unless `err` failed
pub record Says (line : List ℕ) (before after : Sent) : Type 0 where
  pub part : before.told ≡ true → SentPart before.bytes after.bytes line
  pub whole : before.told ≡ true → (after.bytes ≡ before.bytes ++ line) ⊎ Rose before.faults after.faults
  pub puts : after.puts ≡ raised 1 before.puts
  pub later : IsLaterSink before after

-- nothing, by one put or by none
pub record SaysNothing (before after : Sent) : Type 0 where
  pub unsaid : before.told ≡ true → after.bytes ≡ before.bytes
  pub no_fault : after.faults ≡ before.faults
  pub puts : (after.puts ≡ raised 1 before.puts) ⊎ (after.puts ≡ before.puts)
  pub later : IsLaterSink before after

-- ---- how a run ended

-- it had the script that the arguments ask for: the session has their settings, and nothing was said
pub record HadScript (arguments : List (List ℕ)) (script : List ℕ) (before after : Standing) : Type 0 where
  pub asked : IsScriptOf (args_of arguments) before.moment.files script
  pub settings : after.settings ≡ settings_of_arguments before.settings.limits arguments
  pub said : after.said ≡ before.said

-- it had none: nothing was sent, read or changed, and this line was said
pub record HadNoScript (line script : List ℕ) (begun : Seen) (before after : Standing) : Type 0 where
  pub no_script : script ≡ []
  pub sent : before.moment.out.told ≡ true → after.moment.out.bytes ≡ before.moment.out.bytes
  pub no_fault : after.moment.out.faults ≡ before.moment.out.faults
  pub steps : after.moment.steps ≡ before.moment.steps
  pub db : after.moment.state ≡ before.moment.state
  -- no other file was loaded
  pub unread : after.moment.files ≡ begun
  pub settings : after.settings ≡ before.settings
  pub says : Says line before.said after.said

-- 0 and 1: all pieces were carried out, and the output took all
pub record CarriedOut (arguments : List (List ℕ)) (script : List ℕ) (before after : Standing) : Type 0 where
  pub had : HadScript arguments script before after
  pub no_fault : after.moment.out.faults ≡ before.moment.out.faults

-- 2: the arguments are refused
pub record ArgumentsRefused (arguments : List (List ℕ)) (script : List ℕ) (begun : Seen) (before after : Standing) : Type 0 where
  pub refused : args_of arguments ≡ None
  pub had : HadNoScript usage_line script begun before after

-- 3: the file that the arguments name failed
pub record ScriptUnread (arguments : List (List ℕ)) (script : List ℕ) (begun : Seen) (before after : Standing) : Type 0 where
  pub fault : IsSomeAnd (script_name arguments)
      (λ name. Rose (before.moment.files.faults name) (after.moment.files.faults name))
  pub had : HadNoScript unread_line script begun before after

-- 4: the output failed
pub record OutputFailed (arguments : List (List ℕ)) (script : List ℕ) (before after : Standing) : Type 0 where
  pub had : HadScript arguments script before after
  pub fault : Rose before.moment.out.faults after.moment.out.faults

-- 5: memory ran out, perhaps before there was a script
pub record OutOfMemory (arguments : List (List ℕ)) (script : List ℕ) (before after : Standing) : Type 0 where
  pub asked : (script ≡ []) ⊎ IsScriptOf (args_of arguments) before.moment.files script
  pub no_fault : after.moment.out.faults ≡ before.moment.out.faults
  pub settings : (after.settings ≡ before.settings)
      ⊎ (after.settings ≡ settings_of_arguments before.settings.limits arguments)
  -- arguments that are refused leave them
  pub unasked : args_of arguments ≡ None → after.settings ≡ before.settings
  pub says : SaysNothing before.said after.said

-- 6: the file has more bytes than a script may have
pub record ScriptTooLong (arguments : List (List ℕ)) (script : List ℕ) (begun : Seen) (before after : Standing) : Type 0 where
  pub longer : IsSomeAnd (script_name arguments) (IsTooLong before.moment.files after.moment.files)
  pub had : HadNoScript too_long_line script begun before after

-- 7: its bytes are no text
pub record ScriptNoText (arguments : List (List ℕ)) (script : List ℕ) (begun : Seen) (before after : Standing) : Type 0 where
  pub no_text : IsSomeAnd (script_name arguments) (IsNoText before.moment.files)
  pub had : HadNoScript no_text_line script begun before after

-- there is no other status
abbrev pub Ended : List (List ℕ) → ℕ → List ℕ → Seen → Standing → Standing → Type 0
Ended arguments status script begun before after =
    ((status < 2) × CarriedOut arguments script before after)
    ⊎ ((status ≡ 2) × ArgumentsRefused arguments script begun before after)
    ⊎ ((status ≡ 3) × ScriptUnread arguments script begun before after)
    ⊎ ((status ≡ 4) × OutputFailed arguments script before after)
    ⊎ ((status ≡ 5) × OutOfMemory arguments script before after)
    ⊎ ((status ≡ 6) × ScriptTooLong arguments script begun before after)
    ⊎ ((status ≡ 7) × ScriptNoText arguments script begun before after)

-- ---- what a run did

pub record HasRun (arguments : List (List ℕ)) (status : ℕ) (before after : Standing) : Type 0 where
  -- its script, or no text where it ended before it had one
  pub script : List ℕ
  pub readings : List Reading
  pub fits : length script ≤ longest_script
  pub is_text : IsUtf8 script
  pub read_as : Readings script readings
  -- the files where the script is there, before its first statement; they tell the contents that the files told before
  pub begun : Seen
  pub loaded : HasLoaded (args_of arguments) status before.moment.files begun
  pub later : IsLater before.moment.files begun
  -- the turns of its statements were done, or as far as it came
  pub walked : WalkedFor (args_of arguments) (settings_of_arguments before.settings.limits arguments) readings status
      (with_files before.moment begun) after.moment
  -- without a text not even the totals of no statements were sent
  pub silent : script ≡ [] → before.moment.out.told ≡ true → after.moment.out.bytes ≡ before.moment.out.bytes
  -- what files and output tell stays, and no count falls
  pub files : IsLater before.moment.files after.moment.files
  pub out : IsLaterSink before.moment.out after.moment.out
  pub ended : Ended arguments status script begun before after

-- ---- which status a script has that can be read

-- over a script that could be loaded
pub record CompletesWithout (script : List ℕ) (status : ℕ) : Type 0 where
  pub too_long : longest_script < length script → (status ≡ 6) ⊎ (status ≡ 5)
  pub no_text : length script ≤ longest_script → (IsUtf8 script → ⊥) → (status ≡ 7) ⊎ (status ≡ 5)

-- and over an output that didn't fail
abbrev pub Completes : List ℕ → ℕ → Type 0
Completes script status = length script ≤ longest_script → IsUtf8 script → (status < 2) ⊎ (status ≡ 5)

-- the file of this name has these bytes, and its count of faults doesn't rise
pub record IsReadable (name script : List ℕ) (before after : Seen) : Type 0 where
  pub told : before.told ≡ true
  pub content : before.content name ≡ Some script
  pub no_fault : Rose (before.faults name) (after.faults name) → ⊥

-- nothing but its own length and bytes, memory and the output keeps a script from being run
pub record IsComplete (arguments : List (List ℕ)) (status : ℕ) (before after : Standing) : Type 0 where
  -- a text that isn't too long is run whole, unless memory runs out
  pub complete : (name script : List ℕ) → script_name arguments ≡ Some name
      → IsReadable name script before.moment.files after.moment.files
      → (Rose before.moment.out.faults after.moment.out.faults → ⊥) → Completes script status
  -- one that is too long, or is no text, has its own status
  pub complete_without : (name script : List ℕ) → script_name arguments ≡ Some name
      → IsReadable name script before.moment.files after.moment.files → CompletesWithout script status
  -- a demonstration needs no file
  pub complete_demo : (seed : ℕ) → demo_seed arguments ≡ Some seed
      → (Rose before.moment.out.faults after.moment.out.faults → ⊥) → (status < 2) ⊎ (status ≡ 5)
  -- arguments that are refused have theirs
  pub complete_refused : args_of arguments ≡ None → (status ≡ 2) ⊎ (status ≡ 5)

-- What a run does over its script, and how it ends. Without one, nothing is sent to its output and nothing is read.
use Rattle.std.proofs.Common.{◌≡◌, ◌≢◌, ◌≤◌, ◌<◌, ◌⊎◌, ◌++◌, ◌∷◌, ◌∙◌, ap, false, [], List, ℕ, Bool, true, Option, Some, None, refl, length, arith, inl, inr, subst, sym, append-nil}
use Rattle.std.specs.Prelude.{option_and_then}
use Rattle.std.specs.Option.{option_map_or}
use Rattle.std.specs.Str.{IsUtf8}
use Rattle.std.proofs.lemmas.Str.{IsUtf8-nil}
use Rattle.beas_core.specs.declared.limits.Limits.{Limits}
use Rattle.command_line.specs.declared.arguments.Args.{Args}
use Rattle.command_line.specs.declared.arguments.Args.TheVariants.{Script, Demo}
use Rattle.command_line.specs.Arguments.{args_of}
use Rattle.demo_gen.specs.Demo.{demo_text}
use Rattle.demo_gen.proofs.Lengths.{length-demo}
use Rattle.outside.specs.Counts.{Rose}
use Rattle.outside.specs.Parts.{SentPart}
use Rattle.sql_tokens.specs.Tokens.{tokens_from}
use Rattle.session.specs.Effects.{Settings}
use Rattle.outside.specs.Seen.{Seen, Sent, IsLater}
use Rattle.piece_reader.specs.Sayings.{Reading}
use Rattle.beas_run.specs.Readings.{Readings, readings_of}
use Rattle.beas_run.specs.declared.no_script.NoScript.{NoScript}
use Rattle.beas_run.specs.declared.no_script.NoScript.TheVariants.{Arguments, Unread, TooLong, NotText, NoMemory}
use Rattle.beas_run.specs.NoScripts.{status_of, IsSaid, IsSaidWhole}
use Rattle.beas_run.specs.Runs.{seed_of, settings_for, settings_of_arguments, with_files, Ended, HadNoScript, HadScript, HasLoaded, HasRun, IsScriptOf, Says, SaysNothing, Standing, WalkedFor, longest_script}
use Rattle.beas_run.specs.Sources.{HasNoScript, LoadsScript, RanOver}
use Rattle.beas_run.specs.Demonstrations.{Demonstrated, empty_files, summary_of, without_outside}
use Rattle.beas_run.specs.Walks.{Moment, Walked}
use Rattle.beas_run.proofs.ReachedFacts.{unstarted}
use Rattle.beas_run.proofs.TieFacts.{later_twice, same_later, sink_later}
use Rattle.beas_run.proofs.ReadingFacts.{found}

pub no_readings : Readings [] []
unfolding tokens_from
no_readings = tt

early_status : (why : NoScript) → (2 ≤ status_of why) × (status_of why ≢ 4)
early_status Arguments = (omega arith, omega arith)
early_status Unread = (omega arith, omega arith)
early_status TooLong = (omega arith, omega arith)
early_status NotText = (omega arith, omega arith)
early_status NoMemory = (omega arith, omega arith)

-- the status that is said is that of no run that has read its script
pub early_said : (why : NoScript) (status : ℕ) → (status ≡ status_of why) ⊎ (status ≡ 5) → (2 ≤ status) × (status ≢ 4)
early_said why status (inl e) = let early = early_status why in (omega arith, omega (arith, early.1))
early_said why status (inr e) = (omega arith, omega arith)

some≢none : (n : ℕ) → Some n ≡ None → ⊥
some≢none n e = cc

none_of : (sent text : List ℕ) → SentPart sent sent text
none_of sent text = record { part = []; left = text; sent = sym (append-nil sent); cut = refl }

pub fits_demo : (seed : ℕ) (script : List ℕ) → script ≡ demo_text seed → length script ≤ longest_script
fits_demo seed script e = let l = ap length e in let short = length-demo seed in omega arith

-- nothing is done, whatever is asked for; where that is a demonstration, out of memory
idle : (asked : Option Args) (s : Settings) (before after : Moment) (status : ℕ)
    → (before.out.told ≡ true → after.out.bytes ≡ before.out.bytes) → after.steps ≡ before.steps → after.state ≡ before.state
    → after.out.puts ≡ before.out.puts → after.files.loads ≡ before.files.loads → IsLater before.files after.files
    → 2 ≤ status → status ≢ 4 → (option_and_then seed_of asked ≡ None) ⊎ (status ≡ 5) → WalkedFor asked s [] status before after
idle None s before after status sent steps db puts loads later early fault why =
    unstarted s [] before after status sent steps db puts loads later early fault
idle (Some (Script path budget explain)) s before after status sent steps db puts loads later early fault why =
    unstarted s [] before after status sent steps db puts loads later early fault
idle (Some (Demo seed budget explain)) s before after status sent steps db puts loads later early fault (inl none) = absurd (some≢none seed none)
idle (Some (Demo seed budget explain)) s before after status sent steps db puts loads later early fault (inr five) = record {
  ended = 5;
  walked = unstarted s [] (without_outside before) (without_outside after) 5 (λ _. refl) steps db refl refl (same_later empty_files) (omega arith) (omega arith);
  whole = λ below. absurd (omega arith);
  part = λ on. rw (sent on) (none_of before.out.bytes (summary_of []));
  unsent = λ _ _. sent;
  puts = inr (five, puts);
  early = λ _. (refl, five);
  steps = λ below. absurd (omega arith);
  at_most = omega (arith, steps);
}

-- what is said doesn't change what was loaded
loaded_said : (asked : Option Args) (why : NoScript) (status : ℕ) (before after : Seen) → (status ≡ status_of why) ⊎ (status ≡ 5)
    → HasLoaded asked (status_of why) before after → HasLoaded asked status before after
loaded_said None why status before after said loaded = loaded
loaded_said (Some (Script path budget explain)) why status before after said (inl more) = inl more
loaded_said (Some (Script path budget explain)) why status before after (inl e) (inr same) = inr (e ∙ same.0, same.1)
loaded_said (Some (Script path budget explain)) why status before after (inr five) (inr same) = inr (five, same.1)
loaded_said (Some (Demo seed budget explain)) why status before after said loaded = loaded

-- ---- a run without a script

-- what such a run leaves
abbrev pub left : Standing → Seen → Sent → Standing
left before files said = record { settings = before.settings; moment = with_files before.moment files; said = said }

none_done : (line : List ℕ) (before : Standing) (files : Seen) (said : Sent) → Says line before.said said
    → HadNoScript line [] files before (left before files said)
none_done line before files said says = record {
  no_script = refl;
  sent = λ _. refl;
  no_fault = refl;
  steps = refl;
  db = refl;
  unread = refl;
  settings = refl;
  says = says;
}

ended_whole : (arguments : List (List ℕ)) (why : NoScript) (status : ℕ) (before : Standing) (files : Seen) (said : Sent)
    → IsSaidWhole why status before.said said → HasNoScript (args_of arguments) why before.moment.files files
    → Ended arguments status [] files before (left before files said)
ended_whole arguments Arguments status before files said whole none =
    inr (inl (whole.status_is, record { refused = none.arguments_alone refl; had = none_done _ before files said whole.says }))
ended_whole arguments Unread status before files said whole none =
    inr (inr (inl (whole.status_is, record { fault = none.unread refl; had = none_done _ before files said whole.says })))
ended_whole arguments TooLong status before files said whole none =
    inr (inr (inr (inr (inr (inl (whole.status_is, record { longer = none.too_long refl; had = none_done _ before files said whole.says }))))))
ended_whole arguments NotText status before files said whole none =
    inr (inr (inr (inr (inr (inr (whole.status_is, record { no_text = none.not_text refl; had = none_done _ before files said whole.says }))))))
ended_whole arguments NoMemory status before files said whole none = absurd (whole.in_memory refl)

ended_early : (arguments : List (List ℕ)) (why : NoScript) (status : ℕ) (before : Standing) (files : Seen) (said : Sent)
    → IsSaid why status before.said said → HasNoScript (args_of arguments) why before.moment.files files
    → Ended arguments status [] files before (left before files said)
ended_early arguments why status before files said (inl whole) none = ended_whole arguments why status before files said whole none
ended_early arguments why status before files said (inr (five, nothing)) none = inr (inr (inr (inr (inl (
  five,
  record {
    asked = inl refl;
    no_fault = refl;
    settings = inl refl;
    unasked = λ _. refl;
    says = nothing;
  },
)))))

pub status_said : (why : NoScript) (status : ℕ) (before after : Sent) → IsSaid why status before after → (status ≡ status_of why) ⊎ (status ≡ 5)
status_said why status before after (inl whole) = inl whole.status_is
status_said why status before after (inr (five, nothing)) = inr five

seedless : (why : NoScript) (status : ℕ) (none : Type 0) → (status ≡ status_of why) ⊎ (status ≡ 5) → none ⊎ (why ≡ NoMemory) → none ⊎ (status ≡ 5)
seedless why status none said (inl is) = inl is
seedless why status none (inl said) (inr e) = inr (said ∙ ap status_of e)
seedless why status none (inr five) (inr e) = inr five

pub ran_nothing : (arguments : List (List ℕ)) (why : NoScript) (status : ℕ) (before : Standing) (files : Seen) (said : Sent)
    → IsSaid why status before.said said → HasNoScript (args_of arguments) why before.moment.files files
    → HasRun arguments status before (left before files said)
ran_nothing arguments why status before files said told none =
    let is = status_said why status before.said said told in
    let early = early_said why status is in
    record {
      script = [];
      readings = [];
      fits = omega arith;
      is_text = IsUtf8-nil;
      read_as = no_readings;
      begun = files;
      loaded = loaded_said (args_of arguments) why status before.moment.files files is none.loaded;
      later = none.later;
      walked = idle (args_of arguments) (settings_of_arguments before.settings.limits arguments)
          (with_files before.moment files) (with_files before.moment files) status (λ _. refl) refl refl refl refl (same_later files) early.0 early.1 (seedless why status _ is none.seedless);
      silent = λ _ _. refl;
      files = none.later;
      out = sink_later _;
      ended = ended_early arguments why status before files said told none;
    }

-- ---- a script of no text has no statements, so nothing is sent for it

none_before : (part left : List ℕ) → part ++ left ≡ [] → part ≡ []
none_before [] left e = refl
none_before (x ∷ part) left e = cc

silent_with : (s : Settings) (readings : List Reading) (status : ℕ) (before after : Moment) → readings ≡ [] → Walked s readings status before after
    → before.out.told ≡ true → after.out.bytes ≡ before.out.bytes
silent_with s [] status before after e walked on =
    let p = walked.follows.part on in
    p.sent ∙ ap (λ xs. before.out.bytes ++ xs) (none_before p.part p.left p.cut) ∙ append-nil before.out.bytes
silent_with s (reading ∷ readings) status before after e walked on = cc

none_read : readings_of [] ≡ []
unfolding tokens_from
none_read = refl

silent_file : (s : Settings) (script : List ℕ) (status : ℕ) (before after : Moment) → Walked s (readings_of script) status before after
    → script ≡ [] → before.out.told ≡ true → after.out.bytes ≡ before.out.bytes
silent_file s script status before after walked none =
    silent_with s (readings_of script) status before after (ap readings_of none ∙ none_read) walked

-- the text of a demonstration is no empty one
some_demo : (seed : ℕ) → demo_text seed ≡ [] → ⊥
unfolding demo_text
some_demo seed e = cc

silent_for : (asked : Args) (s : Settings) (files : Seen) (script : List ℕ) (status : ℕ) (before after : Moment)
    → IsScriptOf (Some asked) files script → WalkedFor (Some asked) s (readings_of script) status before after
    → script ≡ [] → before.out.told ≡ true → after.out.bytes ≡ before.out.bytes
silent_for (Script path budget explain) s files script status before after is walked = silent_file s script status before after walked
silent_for (Demo seed budget explain) s files script status before after is walked = λ none. absurd (some_demo seed (sym is ∙ none))

has_loaded : (asked : Args) (status : ℕ) (before after : Seen) → LoadsScript asked before after → HasLoaded (Some asked) status before after
has_loaded (Script path budget explain) status before after loaded = inl loaded
has_loaded (Demo seed budget explain) status before after same = ap (λ (s : Seen). s.loads) same

-- ---- how a run over a script ended

no_arguments : (asked : Option Args) (files : Seen) (script : List ℕ) → asked ≡ None → IsScriptOf asked files script → ⊥
no_arguments None files script e is = is
no_arguments (Some args) files script e is = cc

nothing_said : (before after : Sent) → after ≡ before → SaysNothing before after
nothing_said before after same = rw same (record { unsaid = λ _. refl; no_fault = refl; puts = inr refl; later = sink_later before })

ended_over : (arguments : List (List ℕ)) (status : ℕ) (script : List ℕ) (begun : Seen) (before after : Standing)
    → HadScript arguments script before after → (status < 2) ⊎ (status ≡ 4) ⊎ (status ≡ 5)
    → (status ≢ 4 → after.moment.out.faults ≡ before.moment.out.faults) → (status ≡ 4 → Rose before.moment.out.faults after.moment.out.faults)
    → Ended arguments status script begun before after
ended_over arguments status script begun before after had (inl below) quiet fault =
    inl (below, record { had = had; no_fault = quiet (λ four. omega arith) })
ended_over arguments status script begun before after had (inr (inl four)) quiet fault = inr (inr (inr (inl (four, record { had = had; fault = fault four }))))
ended_over arguments status script begun before after had (inr (inr five)) quiet fault = inr (inr (inr (inr (inl (
  five,
  record {
    asked = inr had.asked;
    no_fault = quiet (λ four. omega arith);
    settings = inr had.settings;
    unasked = λ none. absurd (no_arguments (args_of arguments) _ _ none had.asked);
    says = nothing_said _ _ had.said;
  },
)))))

-- a run over the script that its arguments ask for, where this was loaded, or made
pub ran_script : (arguments : List (List ℕ)) (asked : Args) (script : List ℕ) (status : ℕ) (before after : Standing) (begun : Seen)
    → args_of arguments ≡ Some asked → length script ≤ longest_script → IsUtf8 script → IsScriptOf (Some asked) before.moment.files script
    → LoadsScript asked before.moment.files begun → IsLater before.moment.files begun → after.said ≡ before.said
    → RanOver asked script before.settings.limits status after.settings (with_files before.moment begun) after.moment
    → HasRun arguments status before after
ran_script arguments asked script status before after begun e fits text is loaded later said ran =
    let none : Settings = record { limits = before.settings.limits; budget = None; explain = false } in
    let P : Option Args → Type 0 =
    λ o. WalkedFor o (option_map_or (settings_for before.settings.limits) o none) (readings_of script) status (with_files before.moment begun) after.moment in
    record {
      script = script;
      readings = readings_of script;
      fits = fits;
      is_text = text;
      read_as = found script;
      begun = begun;
      loaded = subst (λ o. HasLoaded o status before.moment.files begun) (sym e) (has_loaded asked status before.moment.files begun loaded);
      later = later;
      walked = subst P (sym e) ran.walked;
      silent = silent_for asked (settings_for before.settings.limits asked) before.moment.files script status (with_files before.moment begun) after.moment is ran.walked;
      files = later_twice _ _ _ later ran.files;
      out = ran.out;
      ended = ended_over arguments status script begun before after
          (record {
            asked = subst (λ o. IsScriptOf o before.moment.files script) (sym e) is;
            settings = ran.settings_are ∙ ap (λ a. option_map_or (settings_for before.settings.limits) a none) (sym e);
            said = said;
          })
          ran.statuses ran.no_fault ran.fault;
    }

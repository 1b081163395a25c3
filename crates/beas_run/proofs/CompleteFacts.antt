-- Which statuses are left where nothing stands in the way of a run.
use Rattle.std.proofs.Common.{◌≡◌, ◌≤◌, ◌<◌, ◌⊎◌, ℕ, List, Option, Some, None, inl, inr, arith, length, refl, sym, ◌∙◌, ap, subst}
use Rattle.std.specs.Prelude.{IsSomeAnd, option_and_then}
use Rattle.std.specs.Str.{IsUtf8}
use Rattle.command_line.specs.declared.arguments.Args.{Args}
use Rattle.command_line.specs.declared.arguments.Args.TheVariants.{Script, Demo}
use Rattle.command_line.specs.Arguments.{args_of}
use Rattle.outside.specs.Counts.{Rose}
use Rattle.outside.specs.Seen.{Seen}
use Rattle.beas_run.specs.Runs.{path_of, seed_of, script_name, demo_seed, IsScriptOf, IsContent, IsTooLong, IsNoText, IsReadable, IsComplete, Completes, CompletesWithout, Ended, HasRun, HadScript, Standing, longest_script}

inside : {X : Type 0} (x y : X) → Some x ≡ Some y → x ≡ y
inside x y e = cc

none≢some : {X : Type 0} (x : X) → None ≡ Some x → ⊥
none≢some x e = cc

-- what holds of the value that is there holds of this one
at_value : {X : Type 0} (P : X → Type 0) (o : Option X) (x : X) → o ≡ Some x → IsSomeAnd o P → P x
at_value P None x e h = absurd h
at_value P (Some y) x e h = subst P (inside y x e) h

-- arguments that are refused name no script
unnamed : (asked : Option Args) (name : List ℕ) → option_and_then path_of asked ≡ Some name → asked ≡ None → ⊥
unnamed asked name e none = none≢some name (sym (ap (option_and_then path_of) none) ∙ e)

-- the script that is asked for by name is the file's content
content_at : (files : Seen) (script name : List ℕ) (asked : Option Args) → option_and_then path_of asked ≡ Some name → IsScriptOf asked files script
    → IsContent files script name
content_at files script name None e is = absurd is
content_at files script name (Some (Script path budget explain)) e is = subst (IsContent files script) (inside path name e) is
content_at files script name (Some (Demo seed budget explain)) e is = absurd (none≢some name e)

-- a script of this name and content, while its count of faults doesn't rise
module _ (arguments : List (List ℕ)) (n : ℕ) (before after : Standing) (name script : List ℕ) (e : script_name arguments ≡ Some name)
    (readable : IsReadable name script before.moment.files after.moment.files) where
  three : IsSomeAnd (script_name arguments) (λ m. Rose (before.moment.files.faults m) (after.moment.files.faults m)) → ⊥
  three fault = readable.no_fault (at_value (λ m. Rose (before.moment.files.faults m) (after.moment.files.faults m)) (script_name arguments) name e fault)

  six : IsSomeAnd (script_name arguments) (IsTooLong before.moment.files after.moment.files) → longest_script < length script
  six longer =
      at_value (λ b. longest_script < length b) (before.moment.files.content name) script readable.content
      ((at_value (IsTooLong before.moment.files after.moment.files) (script_name arguments) name e longer).longer readable.told)

  bytes_are : (cause : IsNoText before.moment.files name) → cause.bytes ≡ script
  bytes_are cause = inside _ _ (sym (cause.content_is readable.told) ∙ readable.content)

  seven_is_short : IsSomeAnd (script_name arguments) (IsNoText before.moment.files) → length script ≤ longest_script
  seven_is_short no_text =
      let cause = at_value (IsNoText before.moment.files) (script_name arguments) name e no_text in
      let same = ap length (bytes_are cause) in let fits = cause.fits in omega arith

  seven : IsSomeAnd (script_name arguments) (IsNoText before.moment.files) → IsUtf8 script → ⊥
  seven no_text text =
      let cause = at_value (IsNoText before.moment.files) (script_name arguments) name e no_text in
      cause.no_text (subst IsUtf8 (sym (bytes_are cause)) text)

  run_is : (run : List ℕ) → HadScript arguments run before after → run ≡ script
  run_is run had = inside run script (sym (content_at before.moment.files run name (args_of arguments) e had.asked readable.told) ∙ readable.content)

  pub completes : (run : List ℕ) (begun : Seen) → Ended arguments n run begun before after
      → (Rose before.moment.out.faults after.moment.out.faults → ⊥) → Completes script n
  completes run begun (inl (below, carried)) quiet fits text = inl below
  completes run begun (inr (inl (two, refused))) quiet fits text = absurd (unnamed (args_of arguments) name e refused.refused)
  completes run begun (inr (inr (inl (at, unread)))) quiet fits text = absurd (three unread.fault)
  completes run begun (inr (inr (inr (inl (at, failed))))) quiet fits text = absurd (quiet failed.fault)
  completes run begun (inr (inr (inr (inr (inl (five, want)))))) quiet fits text = inr five
  completes run begun (inr (inr (inr (inr (inr (inl (at, long))))))) quiet fits text = let l = six long.longer in absurd (omega arith)
  completes run begun (inr (inr (inr (inr (inr (inr (at, blank))))))) quiet fits text = absurd (seven blank.no_text text)

  too_long : (run : List ℕ) (begun : Seen) → length run ≤ longest_script → Ended arguments n run begun before after
      → longest_script < length script → (n ≡ 6) ⊎ (n ≡ 5)
  too_long run begun fits (inl (below, carried)) longer = let same = ap length (run_is run carried.had) in absurd (omega arith)
  too_long run begun fits (inr (inl (two, refused))) longer = absurd (unnamed (args_of arguments) name e refused.refused)
  too_long run begun fits (inr (inr (inl (at, unread)))) longer = absurd (three unread.fault)
  too_long run begun fits (inr (inr (inr (inl (at, failed))))) longer = let same = ap length (run_is run failed.had) in absurd (omega arith)
  too_long run begun fits (inr (inr (inr (inr (inl (five, want)))))) longer = inr five
  too_long run begun fits (inr (inr (inr (inr (inr (inl (at, long))))))) longer = inl at
  too_long run begun fits (inr (inr (inr (inr (inr (inr (at, blank))))))) longer = let l = seven_is_short blank.no_text in absurd (omega arith)

  no_text : (run : List ℕ) (begun : Seen) → IsUtf8 run → Ended arguments n run begun before after
      → length script ≤ longest_script → (IsUtf8 script → ⊥) → (n ≡ 7) ⊎ (n ≡ 5)
  no_text run begun text (inl (below, carried)) fits none = absurd (none (subst IsUtf8 (run_is run carried.had) text))
  no_text run begun text (inr (inl (two, refused))) fits none = absurd (unnamed (args_of arguments) name e refused.refused)
  no_text run begun text (inr (inr (inl (at, unread)))) fits none = absurd (three unread.fault)
  no_text run begun text (inr (inr (inr (inl (at, failed))))) fits none = absurd (none (subst IsUtf8 (run_is run failed.had) text))
  no_text run begun text (inr (inr (inr (inr (inl (five, want)))))) fits none = inr five
  no_text run begun text (inr (inr (inr (inr (inr (inl (at, long))))))) fits none = let l = six long.longer in absurd (omega arith)
  no_text run begun text (inr (inr (inr (inr (inr (inr (at, blank))))))) fits none = inl at

  pub completes_without : (run : List ℕ) (begun : Seen) → length run ≤ longest_script → IsUtf8 run
      → Ended arguments n run begun before after → CompletesWithout script n
  completes_without run begun fits text ended = record {
    too_long = λ longer. too_long run begun fits ended longer;
    no_text = λ short none. no_text run begun text ended short none;
  }

-- a demonstration has no file that could stand in its way
named_by : (asked : Option Args) (seed : ℕ) → option_and_then seed_of asked ≡ Some seed → option_and_then path_of asked ≡ None
named_by None seed e = absurd (none≢some seed e)
named_by (Some (Script path budget explain)) seed e = absurd (none≢some seed e)
named_by (Some (Demo s budget explain)) seed e = refl

no_name : (named : Option (List ℕ)) (P : List ℕ → Type 0) → named ≡ None → IsSomeAnd named P → ⊥
no_name None P e h = h
no_name (Some name) P e h = cc

unseeded : (asked : Option Args) (seed : ℕ) → option_and_then seed_of asked ≡ Some seed → asked ≡ None → ⊥
unseeded asked seed e none = none≢some seed (sym (ap (option_and_then seed_of) none) ∙ e)

completes_demo : (arguments : List (List ℕ)) (n : ℕ) (before after : Standing) (run : List ℕ) (begun : Seen) (seed : ℕ)
    → Ended arguments n run begun before after → demo_seed arguments ≡ Some seed
    → (Rose before.moment.out.faults after.moment.out.faults → ⊥) → (n < 2) ⊎ (n ≡ 5)
completes_demo arguments n before after run begun seed (inl (below, carried)) e quiet = inl below
completes_demo arguments n before after run begun seed (inr (inl (two, refused))) e quiet = absurd (unseeded (args_of arguments) seed e refused.refused)
completes_demo arguments n before after run begun seed (inr (inr (inl (at, unread)))) e quiet =
    absurd (no_name (script_name arguments) _ (named_by (args_of arguments) seed e) unread.fault)
completes_demo arguments n before after run begun seed (inr (inr (inr (inl (at, failed))))) e quiet = absurd (quiet failed.fault)
completes_demo arguments n before after run begun seed (inr (inr (inr (inr (inl (five, want)))))) e quiet = inr five
completes_demo arguments n before after run begun seed (inr (inr (inr (inr (inr (inl (at, long))))))) e quiet =
    absurd (no_name (script_name arguments) _ (named_by (args_of arguments) seed e) long.longer)
completes_demo arguments n before after run begun seed (inr (inr (inr (inr (inr (inr (at, blank))))))) e quiet =
    absurd (no_name (script_name arguments) _ (named_by (args_of arguments) seed e) blank.no_text)

-- arguments that are refused have neither a script nor a name
unasked : (asked : Option Args) (files : Seen) (script : List ℕ) → asked ≡ None → IsScriptOf asked files script → ⊥
unasked None files script e is = is
unasked (Some args) files script e is = cc

refused : (arguments : List (List ℕ)) (n : ℕ) (before after : Standing) (run : List ℕ) (begun : Seen)
    → Ended arguments n run begun before after → args_of arguments ≡ None → (n ≡ 2) ⊎ (n ≡ 5)
refused arguments n before after run begun (inl (below, carried)) e = absurd (unasked (args_of arguments) _ _ e carried.had.asked)
refused arguments n before after run begun (inr (inl (two, told))) e = inl two
refused arguments n before after run begun (inr (inr (inl (at, unread)))) e =
    absurd (no_name (script_name arguments) _ (ap (option_and_then path_of) e) unread.fault)
refused arguments n before after run begun (inr (inr (inr (inl (at, failed))))) e = absurd (unasked (args_of arguments) _ _ e failed.had.asked)
refused arguments n before after run begun (inr (inr (inr (inr (inl (five, want)))))) e = inr five
refused arguments n before after run begun (inr (inr (inr (inr (inr (inl (at, long))))))) e =
    absurd (no_name (script_name arguments) _ (ap (option_and_then path_of) e) long.longer)
refused arguments n before after run begun (inr (inr (inr (inr (inr (inr (at, blank))))))) e =
    absurd (no_name (script_name arguments) _ (ap (option_and_then path_of) e) blank.no_text)

pub is_complete : (arguments : List (List ℕ)) (n : ℕ) (before after : Standing) → HasRun arguments n before after → IsComplete arguments n before after
is_complete arguments n before after run = record {
  complete = λ name script named readable. completes arguments n before after name script named readable run.script run.begun run.ended;
  complete_without = λ name script named readable.
      completes_without arguments n before after name script named readable run.script run.begun run.fits run.is_text run.ended;
  complete_demo = λ seed asked quiet. completes_demo arguments n before after run.script run.begun seed run.ended asked quiet;
  complete_refused = λ none. refused arguments n before after run.script run.begun run.ended none;
}

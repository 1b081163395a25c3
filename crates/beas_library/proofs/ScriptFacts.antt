-- Texts that are said one after another, beside a run of their pieces.
use Rattle.std.proofs.Common.{◌≡◌, ◌<◌, ◌≤◌, ◌+◌, ◌-◌, ◌^◌, ◌++◌, ◌∙◌, sym, ap, subst, refl, ℕ, Bool, true, false, List, [], ◌∷◌, Some, length, arith, append_assoc, append-nil}
use Rattle.std.specs.Prelude.{min, option_map, unwrap_or}
use Rattle.std.specs.List.{flat_map}
use Rattle.outside.specs.Counts.{raised}
use Rattle.outside.specs.Seen.{IsLater}
use Rattle.piece_reader.specs.Sayings.{Reading, reading_of}
use Rattle.report.specs.declared.reports.Report.{Report}
use Rattle.report.specs.Reports.{report_text}
use Rattle.session.specs.Effects.{Settings}
use Rattle.session.specs.Turns.{is_refusal}
use Rattle.sql_tokens.specs.declared.token.Token.{Token}
use Rattle.beas_run.specs.Pieces.{IsReported, IsTurn, moment_of as moment_at}
use Rattle.beas_run.specs.Readings.{readings_of}
use Rattle.beas_run.specs.Walks.{Moment, Walked}
use Rattle.beas_run.proofs.ReachedFacts.{Reached, begun, ended, more, status_for}
use Rattle.beas_library.specs.declared.engine.Engine.{Engine}
use Rattle.beas_library.specs.Engines.{HasDone}
use Rattle.beas_library.specs.HandedFiles.{faults_by, seen_of}
use Rattle.beas_library.specs.Scripts.{IsBefore, SaysAll, WritesAsRun, line_of, scene_of}

-- ---- one text

abbrev Anything : List Report → Type 0
Anything reports = Unit {0}

module _ (tokens : List Token) (now after : Engine) (m n : ℕ) (d : HasDone tokens now after m n) where
  later : IsLater (seen_of now.files) (seen_of after.files)
  later = record {
    told = refl;
    content = d.files;
    faults = λ name. let same = ap (λ (c : List ℕ → _). faults_by (c name)) d.files in omega (arith, same);
    taken = omega arith;
  }

  line_is : (place : ℕ) → now.number ≡ place → place < 2 ^ 32 - 1 → line_of after ≡ report_text (place + 1) d.done.turn.effect.report
  line_is place at below =
      let number : after.number ≡ min (now.number + 1) (2 ^ 32 - 1) = ap (λ (e : Engine). e.number) d.held in
      let next : after.number ≡ place + 1 = omega (arith, number, at, below) in
      let report : after.report ≡ Some d.report = ap (λ (e : Engine). e.report) d.held in
      ap (λ r. unwrap_or (option_map (report_text after.number) r) []) report
      ∙ ap (λ k. report_text k d.report) next ∙ ap (report_text (place + 1)) d.done.report_is

  reported : (s : Settings) (place puts : ℕ) (lines : List ℕ) → now.desk.settings ≡ s → now.number ≡ place → place < 2 ^ 32 - 1
      → IsReported s (reading_of tokens) (place + 1) (is_refusal d.done.turn.effect.report) Anything Anything
      (scene_of now m lines puts) (scene_of after n (lines ++ line_of after) (raised 1 puts))
  reported s place puts lines same at below = record {
    turn = d.done.turn;
    is = subst (λ (t : Settings). IsTurn t (reading_of tokens) d.done.turn now.desk after.desk m n (seen_of now.files) (seen_of after.files)) same d.done.is;
    sent = λ _. ap (λ line. lines ++ line) (line_is place at below);
    puts = refl;
    refused_is = refl;
    took = λ _ _. tt;
  }

-- ---- all texts

-- all pieces are done
pub record AreReached (s : Settings) (all : List Reading) (begin : Moment) (after : Engine) (n : ℕ) (lines : List ℕ) : Type 0 where
  pub place : ℕ
  pub refused : Bool
  pub puts : ℕ
  pub reached : Reached s all [] place refused begin (scene_of after n lines puts)

module _ (s : Settings) (all : List Reading) (begin : Moment) where
  all_said : (texts : List (List ℕ)) (place puts : ℕ) (refused : Bool) (now after : Engine) (m n : ℕ) (lines others : List ℕ)
      → now.desk.settings ≡ s → now.number ≡ place → place + length texts ≤ 2 ^ 32 - 1
      → Reached s all (flat_map readings_of texts) place refused begin (scene_of now m lines puts)
      → SaysAll texts now after m n others → AreReached s all begin after n (lines ++ others)
  all_said [] place puts refused now after m n lines others same at few r said = record {
    place = place;
    refused = refused;
    puts = puts;
    reached = rw (said.0, said.1, said.2, append-nil lines) r;
  }
  all_said (text ∷ texts) place puts refused now after m n lines others same at few r said =
      let d = said.said.done in
      let tokens = said.said.tokens in
      let first : flat_map readings_of (text ∷ texts) ≡ reading_of tokens ∷ flat_map readings_of texts = rw said.said.is.one refl in
      let here = subst (λ rs. Reached s all rs place refused begin (scene_of now m lines puts)) first r in
      let below : place < 2 ^ 32 - 1 = omega (arith, few) in
      let then = more s all (flat_map readings_of texts) (reading_of tokens) place refused (is_refusal d.done.turn.effect.report) Anything Anything
      begin (scene_of now m lines puts) (scene_of said.next said.steps (lines ++ line_of said.next) (raised 1 puts)) here
      (reported tokens now said.next m said.steps d s place puts lines same at below) (later tokens now said.next m said.steps d) refl in
      let number : said.next.number ≡ min (now.number + 1) (2 ^ 32 - 1) = ap (λ (e : Engine). e.number) d.held in
      subst (λ ls. AreReached s all begin after n ls)
      (append_assoc lines (line_of said.next) said.lines_after ∙ ap (λ l. lines ++ l) (sym said.lines_are))
      (all_said texts (place + 1) (raised 1 puts) _ said.next after said.steps n (lines ++ line_of said.next) said.lines_after
      (d.settings ∙ same) (omega (arith, number, at, below)) (omega (arith, few)) then said.others)

-- ---- a script

below_two : (refused : Bool) → status_for refused < 2
below_two true = omega arith
below_two false = omega arith

pub says_as_run : (script : List ℕ) (texts : List (List ℕ)) (before after : Engine) (m n : ℕ) (lines : List ℕ)
    → readings_of script ≡ flat_map readings_of texts → length texts < 2 ^ 32 → IsBefore before
    → SaysAll texts before after m n lines → WritesAsRun script lines before after m n
says_as_run script texts before after m n lines pieces few is said =
    let s = before.desk.settings in
    let start = scene_of before m [] 0 in
    let r = all_said s (flat_map readings_of texts) (moment_at start) texts 0 0 false before after m n [] lines refl is.number (omega (arith, few))
    (begun s (flat_map readings_of texts) start is.queries is.shares) said in
    record {
      status = status_for r.refused;
      whole = below_two r.refused;
      puts = r.puts;
      walked = subst (λ rs. Walked s rs (status_for r.refused) (moment_at start) (moment_at (scene_of after n lines r.puts))) (sym pieces)
          (ended s (flat_map readings_of texts) r.place r.refused (moment_at start) (scene_of after n lines r.puts) (status_for r.refused) r.reached refl);
    }

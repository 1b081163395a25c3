-- Where a run is in the turns of its script, before one that takes the reports, and the line of their totals.
use Rattle.std.proofs.Common.{◌≡◌, ◌≢◌, ◌<◌, ◌≤◌, ◌+◌, ◌++◌, ◌||◌, ◌⊎◌, ◌∙◌, sym, ap, subst, refl, inl, inr, ℕ, Bool, true, false, List, [], ◌∷◌, Ok, Err, Result, arith, append-nil}
use Rattle.std.proofs.lemmas.List.{map-append}
use Rattle.demo_gen.specs.Summaries.{Totals, summary_text}
use Rattle.outside.specs.Counts.{Rose, raised}
use Rattle.outside.specs.Parts.{SentPart}
use Rattle.outside.specs.Seen.{IsLater, Sent}
use Rattle.report.specs.declared.reports.Report.{Report}
use Rattle.session.specs.declared.loading.LoadOutcome.{LoadOutcome}
use Rattle.session.specs.Effects.{Settings}
use Rattle.session.specs.Turns.{cost_of}
use Rattle.desk_model.specs.Pieces.{DeskTurn, seen_turns, turns}
use Rattle.beas_run.specs.declared.ending.Ending.{Ending}
use Rattle.beas_run.specs.declared.ending.Ending.TheVariants.{Fault, NoMemory}
use Rattle.beas_run.specs.Audiences.{reports_in, totals_in, totals_over}
use Rattle.beas_run.specs.Demonstrations.{Demonstrated, summary_of, without_outside}
use Rattle.beas_run.specs.Endings.{status_of}
use Rattle.beas_run.specs.Pieces.{IsReported, IsUndone, IsUnreported, Scene, moment_of}
use Rattle.piece_reader.specs.Sayings.{Reading}
use Rattle.beas_run.specs.Walks.{Moment, Walked, WalkedBefore}
use Rattle.beas_run.proofs.NoSessionFacts.{CostsAlone}
use Rattle.beas_run.proofs.ReachedFacts.{Reached, begun, begun_done, ended, ended_turns, more, more_done, status_for, stopped_before, stopped_in_piece, stopped_in_report}

-- these turns are done, and their reports taken
pub record Walking (took : List Report → Type 0) (s : Settings) (all rest : List Reading) (place : ℕ) (refused : Bool) (before : Moment) (now : Scene)
    : Type 0 where
  pub reached : Reached s all rest place refused before now
  pub took_these : took (reports_in reached.done)

pub begun_walk : (took : List Report → Type 0) (s : Settings) (readings : List Reading) (now : Scene) → now.desk.state.queries ≡ []
    → now.desk.shares ≡ [] → took [] → Walking took s readings readings 0 false (moment_of now) now
begun_walk took s readings now idle none nothing = record {
  reached = begun s readings now idle none;
  took_these = subst (λ done. took (reports_in done)) (sym (begun_done s readings now idle none)) nothing;
}

pub walk_more : (took took_after : List Report → Type 0) (s here : Settings) (all rest : List Reading) (reading : Reading) (place : ℕ) (refused is : Bool)
    (before : Moment) (now after : Scene)
    → Walking took s all (reading ∷ rest) place refused before now → here ≡ s
    → IsReported here reading (place + 1) is took took_after now after → IsLater now.files after.files
    → after.out.told ≡ now.out.told → Walking took_after s all rest (place + 1) (refused || is) before after
walk_more took took_after s here all rest reading place refused is before now after w same did later told =
    let P : Settings → Type 0 = λ h. IsReported h reading (place + 1) is took took_after now after in
    let p : IsReported s reading (place + 1) is took took_after now after = subst P same did in
    let done = w.reached.done in
    record {
      reached = more s all rest reading place refused is took took_after before now after w.reached p later told;
      took_these =
          subst took_after
          (sym (map-append (λ (u : DeskTurn). u.effect.report) done (p.turn ∷ []))
          ∙ ap reports_in (sym (more_done s all rest reading place refused is took took_after before now after w.reached p later told)))
          (p.took (reports_in done) w.took_these);
    }

pub walk_ended : (took : List Report → Type 0) (s : Settings) (all : List Reading) (place : ℕ) (refused : Bool) (before : Moment) (now : Scene) (status : ℕ)
    → Walking took s all [] place refused before now → status ≡ status_for refused → WalkedBefore took s all status before (moment_of now)
walk_ended took s all place refused before now status w e = record {
  walked = ended s all place refused before now status w.reached e;
  took_all = λ _. subst (λ ts. took (reports_in ts)) (sym (ended_turns s all place refused before now status w.reached e)) w.took_these;
}

early : (why : Ending) → 2 ≤ status_of (Err why)
early Fault = omega arith
early NoMemory = omega arith

-- the exit after a piece that wasn't carried out, or whose report wasn't taken whole
pub walk_stopped : (took took_after : List Report → Type 0) (s here : Settings) (all rest : List Reading) (reading : Reading) (place : ℕ) (refused : Bool)
    (before : Moment) (now after : Scene) (result : Result Bool Ending) (why : Ending)
    → Walking took s all (reading ∷ rest) place refused before now → here ≡ s → result ≡ Err why
    → ((why ≡ NoMemory) × IsUndone here reading now after) ⊎ IsUnreported here reading (place + 1) why now after
    → IsLater now.files after.files → WalkedBefore took_after s all (status_of result) before (moment_of after)
walk_stopped took took_after s here all rest reading place refused before now after result why w same e (inl h) later =
    let five : status_of result ≡ 5 = ap status_of (e ∙ ap Err h.0) in
    record {
      walked = stopped_in_piece s all rest reading place refused before now after (status_of result) w.reached
          (subst (λ (t : Settings). IsUndone t reading now after) same h.1) later (omega arith) (omega arith);
      took_all = λ below. absurd (omega arith);
    }
walk_stopped took took_after s here all rest reading place refused before now after result why w same e (inr h) later =
    let status : status_of result ≡ status_of (Err why) = ap status_of e in
    let least = early why in
    record {
      walked = stopped_in_report s all rest reading place refused before now after (status_of result) why w.reached
          (subst (λ (t : Settings). IsUnreported t reading (place + 1) why now after) same h) status;
      took_all = λ below. absurd (omega arith);
    }

-- the exit where memory ran out before the next piece was cut out
pub walk_uncut : (took : List Report → Type 0) (s : Settings) (all rest : List Reading) (place : ℕ) (refused : Bool) (before : Moment) (now : Scene)
    (result : Result Bool Ending)
    → Walking took s all rest place refused before now → result ≡ Err NoMemory → WalkedBefore took s all (status_of result) before (moment_of now)
walk_uncut took s all rest place refused before now result w e =
    let five : status_of result ≡ 5 = ap status_of e in
    record {
      walked = stopped_before s all rest place refused before now (status_of result) w.reached (omega arith) (omega arith);
      took_all = λ below. absurd (omega arith);
    }

-- ---- the line of the totals

none_sent : (sent text : List ℕ) → SentPart sent sent text
none_sent sent text = record { part = []; left = text; sent = sym (append-nil sent); cut = refl }

below_two : (refused : Bool) → status_of (Ok refused) < 2
below_two true = omega arith
below_two false = omega arith

-- nothing is told to a count, so nothing fails there
never_failed : Rose 0 0 → ⊥
never_failed rose = omega arith

-- what the pieces did, whatever stands on the output
abbrev pub Counted : Settings → List Reading → ℕ → Totals → Moment → Moment → Type 0
Counted s readings ended sum before after =
    WalkedBefore (λ reports. sum ≡ totals_over reports) s readings ended (without_outside before) (without_outside after)

-- what was put of the line
pub record IsPut (status : ℕ) (sum : Totals) (before after : Sent) : Type 0 where
  pub whole : status < 2 → before.told ≡ true → after.bytes ≡ before.bytes ++ summary_text sum
  pub part : before.told ≡ true → SentPart before.bytes after.bytes (summary_text sum)
  pub unsent : status ≡ 5 → before.told ≡ true → after.bytes ≡ before.bytes
  pub puts : (after.puts ≡ raised 1 before.puts) ⊎ ((status ≡ 5) × (after.puts ≡ before.puts))

module _ (s : Settings) (readings : List Reading) (sum : Totals) (before after : Moment)
    (alone : (outcomes : List LoadOutcome) → CostsAlone (turns s before.state readings outcomes) (without_outside before)) where
  cost_alone : {ended : ℕ} (walked : Walked s readings ended (without_outside before) (without_outside after))
      → after.steps ≤ before.steps + cost_of (seen_turns (turns s before.state readings walked.outcomes))
  cost_alone walked =
      let most = walked.follows.at_most in
      let same = (alone walked.outcomes).at_most in
      omega (arith, most, same)

  -- what is put is the line of the totals of the turns
  pub demonstrated : (refused : Bool) (status : ℕ) → Counted s readings (status_of (Ok refused)) sum before after
      → (status ≡ status_of (Ok refused)) ⊎ (status ≡ 4) ⊎ (status ≡ 5)
      → IsPut status sum before.out after.out → Demonstrated s readings status before after
  demonstrated refused status counted ended put =
      let late = below_two refused in
      let same : sum ≡ totals_in (turns s before.state readings counted.walked.outcomes) = counted.took_all late in
      record {
        ended = status_of (Ok refused);
        walked = counted.walked;
        whole = λ below. (
          whole_ended status (status_of (Ok refused)) below ended,
          λ on. put.whole below on ∙ ap (λ (t : Totals). before.out.bytes ++ summary_text t) same,
        );
        part = λ on. subst (λ (t : Totals). SentPart before.out.bytes after.out.bytes (summary_text t)) same (put.part on);
        unsent = λ early fault. put.unsent (out_of_memory status (status_of (Ok refused)) late early fault ended);
        puts = put.puts;
        early = λ early. absurd (omega arith);
        steps = λ _. (alone counted.walked.outcomes).steps (without_outside after) (counted.walked.follows.whole late);
        at_most = cost_alone counted.walked;
      }
    where
      out_of_memory : (status ended : ℕ) → ended < 2 → 2 ≤ status → status ≢ 4 → (status ≡ ended) ⊎ (status ≡ 4) ⊎ (status ≡ 5) → status ≡ 5
      out_of_memory status ended late early fault (inl e) = absurd (omega arith)
      out_of_memory status ended late early fault (inr (inl four)) = absurd (fault four)
      out_of_memory status ended late early fault (inr (inr five)) = five

      whole_ended : (status ended : ℕ) → status < 2 → (status ≡ ended) ⊎ (status ≡ 4) ⊎ (status ≡ 5) → status ≡ ended
      whole_ended status ended below (inl e) = e
      whole_ended status ended below (inr other) = absurd (omega arith)

  -- out of memory before the line is put
  pub unfinished : (why : Ending) → Counted s readings (status_of (Err why)) sum before after → (why ≡ Fault → Rose 0 0)
      → (before.out.told ≡ true → after.out.bytes ≡ before.out.bytes) → after.out.puts ≡ before.out.puts → Demonstrated s readings 5 before after
  unfinished Fault counted fault same puts = absurd (never_failed (fault refl))
  unfinished NoMemory counted fault same puts = record {
    ended = 5;
    walked = counted.walked;
    whole = λ below. absurd (omega arith);
    part = λ on. rw (same on) (none_sent before.out.bytes (summary_of (turns s before.state readings counted.walked.outcomes)));
    unsent = λ _ _. same;
    puts = inr (refl, puts);
    early = λ _. (refl, refl);
    steps = λ below. absurd (omega arith);
    at_most = cost_alone counted.walked;
  }

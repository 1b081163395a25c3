-- What is done for one piece, by what its events did.
use Rattle.std.proofs.Common.{◌≡◌, ◌++◌, ◌⊎◌, ◌∙◌, inl, inr, ap, subst, sym, refl, ℕ, Bool, true, List, [], ◌∷◌, Option, None, Some, Result, Ok, Err, arith, append-nil, length}
use Rattle.std.specs.Prelude.{IfErr, IfOk, IsErrOf, OnErr}
use Rattle.beas_core.specs.declared.errors.NoMemory.{NoMemory as Out}
use Rattle.beas_core.specs.declared.refusal.Refusal.{Refusal}
use Rattle.outside.specs.Counts.{raised}
use Rattle.outside.specs.Parts.{SentPart}
use Rattle.outside.specs.Seen.{Seen, Sent}
use Rattle.outside.proofs.Counts.{raised_none}
use Rattle.report.specs.declared.reports.Report.{Report}
use Rattle.report.specs.declared.reports.Report.TheVariants.{Refused}
use Rattle.report.specs.Reports.{report_text}
use Rattle.session.specs.declared.loading.LoadOutcome.{LoadOutcome}
use Rattle.session.specs.Effects.{Settings}
use Rattle.session.specs.Ties.{AreTied}
use Rattle.session.specs.Turns.{FileLoad, is_refusal, loads_of, IsWithin}
use Rattle.desk_model.specs.Answers.{effect_by}
use Rattle.desk_model.specs.Desks.{DeskAction, AtOnce, ByLoad, refused}
use Rattle.desk_model.specs.Pieces.{DeskTurn, next, piece_action, seen_turn}
use Rattle.piece_reader.specs.Sayings.{Reading}
use Rattle.version_store.specs.Desks.{IsDesk, Seen as DeskSeen, Takes, TakesSome, loads_by}
use Rattle.beas_run.specs.declared.ending.Ending.{Ending}
use Rattle.beas_run.specs.declared.ending.Ending.TheVariants.{Fault, NoMemory as Want}
use Rattle.beas_run.specs.Endings.{TellsFault}
use Rattle.beas_run.specs.Pieces.{IsDone, IsReported, IsUnreported, Scene}
use Rattle.beas_run.proofs.TieFacts.{same_later, tied_none}
use Rattle.beas_run.proofs.ShareFacts.{shares_fit}

-- ---- the turn of an action

abbrev load_by : DeskAction → LoadOutcome → Option FileLoad
load_by (AtOnce effect) outcome = None
load_by (ByLoad name effect) outcome = Some (record { name = name; outcome = outcome })

abbrev turn_by : DeskAction → LoadOutcome → DeskTurn
turn_by action outcome = record { effect = effect_by action outcome; load = load_by action outcome }

abbrev taken_by : DeskAction → LoadOutcome → List LoadOutcome
taken_by (AtOnce effect) outcome = []
taken_by (ByLoad name effect) outcome = outcome ∷ []

next_taken : (action : DeskAction) (outcome : LoadOutcome) (later : List LoadOutcome)
    → next (Some action) (taken_by action outcome ++ later) ≡ Some (record { turn = turn_by action outcome; left = later })
next_taken (AtOnce effect) outcome later = refl
next_taken (ByLoad name effect) outcome later = refl

loads_are : (action : DeskAction) (outcome : LoadOutcome) → loads_by action outcome ≡ loads_of (seen_turn (turn_by action outcome) ∷ [])
loads_are (AtOnce effect) outcome = refl
loads_are (ByLoad name effect) outcome = refl

pub done_by_action : (s : Settings) (reading : Reading) (action : DeskAction) (report : Report) (before after : DeskSeen) (m n : ℕ) (x y : Seen)
    → piece_action s before.state reading ≡ Some action → IsDesk after → IsWithin report
    → Takes s.limits.file action report before after m n x y → IsDone s reading report before after m n x y
done_by_action s reading action report before after m n x y is told within took =
    let loads = loads_are action took.outcome in
    record {
      turn = turn_by action took.outcome;
      report_is = took.report_is;
      is = record {
        outcomes = taken_by action took.outcome;
        comes = λ later. ap (λ o. next o (taken_by action took.outcome ++ later)) is ∙ next_taken action took.outcome later;
        state = took.state_is;
        shares = λ _. shares_fit after told;
        steps = took.counts;
        within = subst IsWithin took.report_is within;
        tied = subst (λ ls. AreTied s.limits.file ls x y) loads took.tied;
        loads = subst (λ ls. y.loads ≡ raised (length ls) x.loads) loads took.counted;
      };
    }

-- what an event did whose action is the piece's
pub done_by : (s : Settings) (reading : Reading) (o : Option DeskAction) (report : Report) (before after : DeskSeen) (m n : ℕ) (x y : Seen)
    → piece_action s before.state reading ≡ o → IsDesk after → IsWithin report
    → TakesSome s.limits.file o report before after m n x y → IsDone s reading report before after m n x y
done_by s reading None report before after m n x y is told within took = absurd took
done_by s reading (Some action) report before after m n x y is told within took =
    done_by_action s reading action report before after m n x y is told within took

pub event_done : (s : Settings) (reading : Reading) (o : Option DeskAction) (r : Result Report Out) (before after : DeskSeen) (m n : ℕ) (x y : Seen)
    → piece_action s before.state reading ≡ o → IsDesk after → IfOk r IsWithin
    → IfOk r (λ report. TakesSome s.limits.file o report before after m n x y) → IfOk r (λ report. IsDone s reading report before after m n x y)
event_done s reading o (Ok report) before after m n x y is told within took = done_by s reading o report before after m n x y is told within took
event_done s reading o (Err e) before after m n x y is told within took = tt

-- ---- a piece that is refused

pub refused_done : (s : Settings) (reading : Reading) (why : Refusal) (desk : DeskSeen) (m : ℕ) (x : Seen)
    → reading ≡ Err why → IsDone s reading (Refused why) desk desk m m x x
refused_done s reading why desk m x e = record {
  turn = record { effect = refused desk.state why; load = None };
  report_is = refl;
  is = record {
    outcomes = [];
    comes = λ later. ap (λ r. next (piece_action s desk.state r) later) e;
    state = refl;
    shares = λ fit. fit;
    steps = omega arith;
    within = tt;
    tied = tied_none s.limits.file x x (same_later x);
    loads = sym (raised_none x.loads);
  };
}

-- ---- its report

pub reported : (s : Settings) (reading : Reading) (number : ℕ) (report : Report) (is : Bool) (took took_after : List Report → Type 0)
    (before after : Scene)
    → IsDone s reading report before.desk after.desk before.steps after.steps before.files after.files → is ≡ is_refusal report
    → (before.out.told ≡ true → after.out.bytes ≡ before.out.bytes ++ report_text number report)
    → after.out.puts ≡ raised 1 before.out.puts
    → ((reports : List Report) → took reports → took_after (reports ++ report ∷ [])) → IsReported s reading number is took took_after before after
reported s reading number report is took took_after before after a told sent puts takes = record {
  turn = a.turn;
  is = a.is;
  sent = let P : Report → Type 0 = λ r. before.out.told ≡ true → after.out.bytes ≡ before.out.bytes ++ report_text number r in subst P a.report_is sent;
  puts = puts;
  refused_is = let P : Report → Type 0 = λ r. is ≡ is_refusal r in subst P a.report_is told;
  took = let P : Report → Type 0 = λ r. (reports : List Report) → took reports → took_after (reports ++ r ∷ []) in subst P a.report_is takes;
}

-- a failed put was made, and out of memory perhaps none
puts_halted : (why : Ending) (before after : ℕ) → (why ≡ Fault → after ≡ raised 1 before) → (after ≡ before) ⊎ (after ≡ raised 1 before)
    → (after ≡ raised 1 before) ⊎ ((why ≡ Want) × (after ≡ before))
puts_halted Fault before after fault puts = inl (fault refl)
puts_halted Want before after fault (inl same) = inr (refl, same)
puts_halted Want before after fault (inr more) = inl more

pub unreported : (s : Settings) (reading : Reading) (number : ℕ) (report : Report) (why : Ending) (before after : Scene)
    → IsDone s reading report before.desk after.desk before.steps after.steps before.files after.files
    → (before.out.told ≡ true → SentPart before.out.bytes after.out.bytes (report_text number report))
    → (why ≡ Want → before.out.told ≡ true → after.out.bytes ≡ before.out.bytes)
    → (why ≡ Fault → after.out.puts ≡ raised 1 before.out.puts)
    → (after.out.puts ≡ before.out.puts) ⊎ (after.out.puts ≡ raised 1 before.out.puts)
    → IsUnreported s reading number why before after
unreported s reading number report why before after a sent unsent fault puts = record {
  turn = a.turn;
  is = a.is;
  sent = let P : Report → Type 0 = λ r. before.out.told ≡ true → SentPart before.out.bytes after.out.bytes (report_text number r) in subst P a.report_is sent;
  unsent = unsent;
  puts = puts_halted why before.out.puts after.out.puts fault puts;
}

pub none_sent : (sent text : List ℕ) → SentPart sent sent text
none_sent sent text = record { part = []; left = text; sent = sym (append-nil sent); cut = refl }

pub on_error : {A E P : Type 0} (result : Result A E) → P → OnErr result P
on_error (Ok answer) h = tt
on_error (Err why) h = h

-- whatever the error is
pub whichever : {A E : Type 0} (P : E → Type 0) (result : Result A E) → ((why : E) → P why) → IfErr result P
whichever P (Ok answer) h = tt
whichever P (Err why) h = h why

-- what is answered with a report tells no fault, whatever the answer
no_error : {A P : Type 0} (answer : A) (why : Ending) → IsErrOf (Ok answer) why → P
no_error answer why is = cc

pub told_of_answer : {A B : Type 0} (answer : A) (other : B) (before after : Sent) → TellsFault (Ok answer) before after
    → TellsFault (Ok other) before after
told_of_answer answer other before after told = record {
  later = told.later;
  no_fault = told.no_fault;
  no_memory = λ is. no_error other Want is;
  fault = λ is. no_error other Fault is;
}

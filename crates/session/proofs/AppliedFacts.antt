-- From what the parts carry out to what the call for a statement did.
use Rattle.std.proofs.Common.{◌≡◌, ◌≤◌, ◌⊎◌, ℕ, List, [], ◌∷◌, refl, sym, ap, ◌∙◌, subst, arith, Result, Ok, Err}
use Rattle.std.specs.Prelude.{IfOk, OnErr}
use Rattle.beas_core.specs.declared.errors.Fail.{Fail}
use Rattle.beas_core.specs.declared.errors.Fail.TheVariants.{NoMemory, Refused}
use Rattle.beas_core.specs.declared.errors.NoMemory.{NoMemory as Want}
use Rattle.beas_core.specs.declared.limits.Limits.{Limits}
use Rattle.beas_core.specs.declared.refusal.Refusal.{Refusal}
use Rattle.beas_core.specs.declared.schema.TableId.{TableId}
use Rattle.beas_core.specs.Results.{Gives}
use Rattle.catalogue.specs.Database.{Database}
use Rattle.outside.specs.Counts.{raised}
use Rattle.outside.specs.Seen.{IsLater, Seen}
use Rattle.outside.proofs.Counts.{raised_none}
use Rattle.report.specs.declared.reports.Report.{Report}
use Rattle.report.specs.declared.reports.Report.TheVariants.{Refused as Refusing}
use Rattle.session.specs.declared.loading.LoadOutcome.{LoadOutcome}
use Rattle.session.specs.declared.loading.LoadOutcome.TheVariants.{Failed}
use Rattle.session.specs.Applying.{IsApplied, MayCost, MayLoad}
use Rattle.session.specs.Carrying.{CarriesOut, CarriesOutLoad, Happens, HappensByLoad, Performs, reported}
use Rattle.session.specs.Effects.{Action, Does, Loads, Effect, load_action, load_effect, refusal_effect}
use Rattle.session.specs.Ties.{AreTied}
use Rattle.session.specs.Turns.{IsWithin}
use Rattle.session.proofs.CarryFacts.{carries_anywhere, failed, refusal_happens, stops_at}
use Rattle.session.proofs.TieFacts.{tied_none}

applied_at_once : (limit : ℕ) (action : Action) (E : Effect) (report : Report) (a : Database) (s t : ℕ) (before after : Seen) → action ≡ Does E
    → Happens E report a s t
    → IsLater before after → after.loads ≡ before.loads → IsApplied limit action report a s t before after
applied_at_once limit action E report a s t before after e h later same =
    let P : Action → Type 0 = λ x. IsApplied limit x report a s t before after in
    subst P (sym e) (record {
      outcome = Failed;
      report_is = h.report_is;
      db_is = h.db_is;
      cost_is = h.cost_is;
      tied = tied_none limit before after later;
      counted = same ∙ sym (raised_none before.loads);
    })

pub later_same : (files : Seen) → IsLater files files
later_same files = record { told = refl; content = refl; faults = λ name. omega arith; taken = omega arith }

-- ---- LOAD

module _ (limit : ℕ) (limits : Limits) (db : Database) (w : Result TableId Refusal) (file : List ℕ) where
  load_denied_by : (v : Result TableId Refusal) (x : Fail) (y : Seen) → Gives (failed TableId x) v
      → Performs limit (load_action limits db v file) db (failed Report x) db 0 0 y y
  load_denied_by (Ok id) NoMemory y h = (refl, refl)
  load_denied_by (Err why) NoMemory y h = stops_at (refusal_effect db why) db db 0 refl
  load_denied_by (Ok id) (Refused why) y h = absurd (let bad : Ok id ≡ Err why = h in cc)
  load_denied_by (Err other) (Refused why) y h =
      let P : Result TableId Refusal → Type 0 = λ v. Performs limit (load_action limits db v file) db (failed Report (Refused why)) db 0 0 y y in
      subst P (sym h) (refusal_happens why db db 0 refl)

  pub load_denied : (x : Fail) (y : Seen) → Gives (failed TableId x) w → Performs limit (load_action limits db w file) db (failed Report x) db 0 0 y y
  load_denied x y h = load_denied_by w x y h

  module _ (id : TableId) (known : w ≡ Ok id) where
    -- out of memory in the load of the file
    pub load_stopped : (x y : Seen) → Performs limit (load_action limits db w file) db (failed Report NoMemory) db 0 0 x y
    load_stopped x y =
        let P : Result TableId Refusal → Type 0 = λ v. Performs limit (load_action limits db v file) db (failed Report NoMemory) db 0 0 x y in
        subst P (sym known) (refl, refl)

    by_outcome : (outcome : LoadOutcome) (r : Result Report Fail) (a : Database) (x y : Seen) → CarriesOut (load_effect limits db file id outcome) db r a 0 0
        → AreTied limit (record { name = file; outcome = outcome } ∷ []) x y → y.loads ≡ raised 1 x.loads
        → CarriesOutLoad limit file (load_effect limits db file id) db r a 0 0 x y
    by_outcome outcome (Ok report) a x y h tied counted = record { outcome = outcome; happens = h; tied = tied; counted = counted }
    by_outcome outcome (Err NoMemory) a x y h tied counted = h.unchanged
    by_outcome outcome (Err (Refused why)) a x y h tied counted = record { outcome = outcome; happens = h; tied = tied; counted = counted }

    pub load_performed : (outcome : LoadOutcome) (r : Result Report Fail) (a : Database) (x y : Seen)
        → CarriesOut (load_effect limits db file id outcome) db r a 0 0
        → AreTied limit (record { name = file; outcome = outcome } ∷ []) x y → y.loads ≡ raised 1 x.loads
        → Performs limit (load_action limits db w file) db r a 0 0 x y
    load_performed outcome r a x y h tied counted =
        let P : Result TableId Refusal → Type 0 = λ v. Performs limit (load_action limits db v file) db r a 0 0 x y in
        subst P (sym known) (refl, by_outcome outcome r a x y h tied counted)

    -- the load of a known table waits for its file
    pub load_waits : (E : Effect) → load_action limits db w file ≡ Does E → ⊥
    load_waits E e =
        let bad : Loads file (load_effect limits db file id) ≡ Does E = sym (ap (λ v. load_action limits db v file) known) ∙ e in cc

-- ---- each statement

by_load_anywhere : (limit : ℕ) (name : List ℕ) (E : LoadOutcome → Effect) (b a : Database) (r : Result Report Fail) (n : ℕ) (x y : Seen)
    → CarriesOutLoad limit name E b r a 0 0 x y → CarriesOutLoad limit name E b r a n n x y
by_load_anywhere limit name E b a (Ok report) n x y h = record {
  outcome = h.outcome;
  happens = carries_anywhere (E h.outcome) b a (Ok report) n h.happens;
  tied = h.tied;
  counted = h.counted;
}
by_load_anywhere limit name E b a (Err NoMemory) n x y h = h
by_load_anywhere limit name E b a (Err (Refused why)) n x y h = record {
  outcome = h.outcome;
  happens = carries_anywhere (E h.outcome) b a (Err (Refused why)) n h.happens;
  tied = h.tied;
  counted = h.counted;
}

pub performs_anywhere : (limit : ℕ) (action : Action) (b a : Database) (r : Result Report Fail) (n : ℕ) (x y : Seen)
    → Performs limit action b r a 0 0 x y → Performs limit action b r a n n x y
performs_anywhere limit (Does E) b a r n x y h = carries_anywhere E b a r n h
performs_anywhere limit (Loads name E) b a r n x y h = (refl, by_load_anywhere limit name E b a r n x y h.1)

-- what a call did
pub record Did (limit : ℕ) (action : Action) (db : Database) (r : Result Report Want) (a : Database) (s t : ℕ) (x y : Seen) : Type 0 where
  pub applied : IfOk r (λ report. IsApplied limit action report a s t x y)
  pub unchanged : OnErr r (a ≡ db)
  pub at_most : MayCost action s t
  pub no_fewer : s ≤ t

did_at_once : (limit : ℕ) (E : Effect) (db : Database) (r : Result Report Fail) (a : Database) (s t : ℕ) (x y : Seen)
    → CarriesOut E db r a s t → IsLater x y → y.loads ≡ x.loads → Did limit (Does E) db (reported r) a s t x y
did_at_once limit E db (Ok report) a s t x y h later same = record {
  applied = applied_at_once limit (Does E) E report a s t x y refl h later same;
  unchanged = tt;
  at_most = λ outcome. omega (arith, h.cost_is);
  no_fewer = omega (arith, h.cost_is);
}
did_at_once limit E db (Err NoMemory) a s t x y h later same = record {
  applied = tt;
  unchanged = h.unchanged;
  at_most = λ outcome. h.at_most;
  no_fewer = h.no_fewer;
}
did_at_once limit E db (Err (Refused why)) a s t x y h later same = record {
  applied = applied_at_once limit (Does E) E (Refusing why) a s t x y refl h later same;
  unchanged = tt;
  at_most = λ outcome. omega (arith, h.cost_is);
  no_fewer = omega (arith, h.cost_is);
}

applied_by_load : (limit : ℕ) (name : List ℕ) (E : LoadOutcome → Effect) (report : Report) (a : Database) (s t : ℕ) (x y : Seen)
    → HappensByLoad limit name E report a s t x y → IsApplied limit (Loads name E) report a s t x y
applied_by_load limit name E report a s t x y h = record {
  outcome = h.outcome;
  report_is = h.happens.report_is;
  db_is = h.happens.db_is;
  cost_is = h.happens.cost_is;
  tied = h.tied;
  counted = h.counted;
}

did_by_load : (limit : ℕ) (name : List ℕ) (E : LoadOutcome → Effect) (db : Database) (r : Result Report Fail) (a : Database) (s t : ℕ) (x y : Seen) → t ≡ s
    → CarriesOutLoad limit name E db r a s t x y → Did limit (Loads name E) db (reported r) a s t x y
did_by_load limit name E db (Ok report) a s t x y e h = record {
  applied = applied_by_load limit name E report a s t x y h;
  unchanged = tt;
  at_most = λ outcome. omega (arith, e);
  no_fewer = omega (arith, e);
}
did_by_load limit name E db (Err NoMemory) a s t x y e h = record {
  applied = tt;
  unchanged = h;
  at_most = λ outcome. omega (arith, e);
  no_fewer = omega (arith, e);
}
did_by_load limit name E db (Err (Refused why)) a s t x y e h = record {
  applied = applied_by_load limit name E (Refusing why) a s t x y h;
  unchanged = tt;
  at_most = λ outcome. omega (arith, e);
  no_fewer = omega (arith, e);
}

pub did : (limit : ℕ) (action : Action) (db : Database) (r : Result Report Fail) (a : Database) (s t : ℕ) (x y : Seen)
    → Performs limit action db r a s t x y → IsLater x y → MayLoad action x y → Did limit action db (reported r) a s t x y
did limit (Does E) db r a s t x y h later loaded = did_at_once limit E db r a s t x y h later loaded
did limit (Loads name E) db r a s t x y h later loaded = did_by_load limit name E db r a s t x y h.0 h.1

-- a file is loaded for an action that waits for it alone
pub may_load : {F : Type 0} (seen : F → Seen) (action : Action) (x y : F) → ((E : Effect) → action ≡ Does E → y ≡ x)
    → ((seen y).loads ≡ (seen x).loads) ⊎ ((seen y).loads ≡ raised 1 (seen x).loads) → MayLoad action (seen x) (seen y)
may_load seen (Does E) x y unread loaded = ap (λ f. (seen f).loads) (unread E refl)
may_load seen (Loads name E) x y unread loaded = loaded

pub within_reported : (r : Result Report Fail) → IfOk r IsWithin → IfOk (reported r) IsWithin
within_reported (Ok report) within = within
within_reported (Err NoMemory) within = tt
within_reported (Err (Refused why)) within = tt

-- How the parts of a statement's call carry out its effect: refused at each of its rules, or done.
use Rattle.std.proofs.Common.{◌≡◌, ◌≢◌, ◌+◌, ◌≤◌, ℕ, if◌then◌else◌, List, refl, sym, subst, arith, Option, Some, None, Result, Ok, Err}
use Rattle.std.specs.Option.{is_none, option_or}
use Rattle.beas_core.specs.declared.errors.Fail.{Fail}
use Rattle.beas_core.specs.declared.errors.Fail.TheVariants.{NoMemory, Refused}
use Rattle.beas_core.specs.declared.refusal.Refusal.{Refusal}
use Rattle.beas_core.specs.declared.limits.Limits.{Limits}
use Rattle.beas_core.specs.declared.schema.Column.{Column}
use Rattle.beas_core.specs.declared.schema.TableId.{TableId}
use Rattle.beas_core.specs.Results.{Gives, IsRefusedAs}
use Rattle.catalogue.specs.Database.{Database, schema_of, with_table}
use Rattle.catalogue.specs.Refusing.{add_table_refusal}
use Rattle.report.specs.declared.reports.Report.{Report}
use Rattle.report.specs.declared.reports.Report.TheVariants.{Done, Refused as Refusing}
use Rattle.session.specs.Carrying.{CarriesOut, Happens, Stops}
use Rattle.session.specs.Effects.{Effect, create_table_effect, refusal_effect, unless, with_answer}

pub stops_at : (E : Effect) (b a : Database) (s : ℕ) → a ≡ b → Stops E b a s s
stops_at E b a s e = record { unchanged = e; no_fewer = omega arith; at_most = omega arith }

-- the effect of a refusal happens where nothing changes
pub refusal_happens : (why : Refusal) (b a : Database) (s : ℕ) → a ≡ b → Happens (refusal_effect b why) (Refusing why) a s s
refusal_happens why b a s e = record { report_is = refl; db_is = e; cost_is = omega arith }

-- a call that fails
abbrev pub failed : (T : Type 0) → Fail → Result T Fail
failed T x = Err x

pub carries_refused : (T : Type 0) (r : Option Refusal) (E : Effect) (b a : Database) (x : Fail) (s : ℕ) → IsRefusedAs (failed T x) r → a ≡ b
    → CarriesOut (unless r b E) b (Err x) a s s
carries_refused T r E b a NoMemory s h e = stops_at (unless r b E) b a s e
carries_refused T r E b a (Refused why) s h e = let P : Option Refusal
    → Type 0 = λ q. Happens (unless q b E) (Refusing why) a s s in subst P (sym h) (refusal_happens why b a s e)

pub carries_denied : {A : Type 0} (w : Result A Refusal) (f : A → Effect) (b a : Database) (x : Fail) (s : ℕ) → Gives (Err x) w → a ≡ b
    → CarriesOut (with_answer w b f) b (Err x) a s s
carries_denied w f b a NoMemory s h e = stops_at (with_answer w b f) b a s e
carries_denied {A} w f b a (Refused why) s h e =
    let P : Result A Refusal → Type 0 = λ q. Happens (with_answer q b f) (Refusing why) a s s in subst P (sym h) (refusal_happens why b a s e)

pub carries_past : (r : Option Refusal) (E : Effect) (b a : Database) (x : Result Report Fail) (s t : ℕ) → r ≡ None → CarriesOut E b x a s t
    → CarriesOut (unless r b E) b x a s t
carries_past r E b a x s t h c = let P : Option Refusal → Type 0 = λ q. CarriesOut (unless q b E) b x a s t in subst P (sym h) c

pub carries_with : {A : Type 0} (w : Result A Refusal) (f : A → Effect) (answer : A) (b a : Database) (x : Result Report Fail) (s t : ℕ) → w ≡ Ok answer
    → CarriesOut (f answer) b x a s t → CarriesOut (with_answer w b f) b x a s t
carries_with {A} w f answer b a x s t h c = let P : Result A Refusal → Type 0 = λ q. CarriesOut (with_answer q b f) b x a s t in subst P (sym h) c

-- what reads nothing does so at every count
pub carries_anywhere : (E : Effect) (b a : Database) (x : Result Report Fail) (n : ℕ) → CarriesOut E b x a 0 0 → CarriesOut E b x a n n
carries_anywhere E b a (Ok report) n c = record { report_is = c.report_is; db_is = c.db_is; cost_is = omega (arith, c.cost_is) }
carries_anywhere E b a (Err NoMemory) n c = record { unchanged = c.unchanged; no_fewer = omega arith; at_most = omega arith }
carries_anywhere E b a (Err (Refused why)) n c = record { report_is = c.report_is; db_is = c.db_is; cost_is = omega (arith, c.cost_is) }

-- ---- CREATE ACCESS: past the first rules rows are read, whether the last one refuses or not

abbrev pub reading : ℕ → Effect → Effect
reading n E = record E { cost = n }

abbrev pub rows_read : Option Refusal → ℕ → ℕ
rows_read admit n = if is_none admit then n else 0

pub access_done : (admit broken : Option Refusal) (n : ℕ) (b a : Database) (E : Effect) (s t : ℕ) → option_or admit broken ≡ None → a ≡ E.db
    → t ≡ s + rows_read admit n
    → Happens (unless admit b (reading n (unless broken b E))) E.report a s t
access_done None None n b a E s t h d c = record { report_is = refl; db_is = d; cost_is = c }
access_done None (Some why) n b a E s t h d c = absurd (let bad : Some why ≡ None = h in cc)
access_done (Some why) broken n b a E s t h d c = absurd (let bad : Some why ≡ None = h in cc)

pub access_refused : (admit broken : Option Refusal) (n : ℕ) (b a : Database) (E : Effect) (why : Refusal) (s t : ℕ) → option_or admit broken ≡ Some why → a ≡ b
    → t ≡ s + rows_read admit n → Happens (unless admit b (reading n (unless broken b E))) (Refusing why) a s t
access_refused None broken n b a E why s t h d c =
    let P : Option Refusal → Type 0 = λ q. Happens (reading n (unless q b E)) (Refusing why) a s t in
    subst P (sym h) (record { report_is = refl; db_is = d; cost_is = c })
access_refused (Some other) broken n b a E why s t h d c =
    let P : Option Refusal → Type 0 = λ q. Happens (unless q b (reading n (unless broken b E))) (Refusing why) a s t in
    subst P (sym h) (record { report_is = refl; db_is = d; cost_is = c })

pub access_stops : (admit broken : Option Refusal) (n : ℕ) (b a : Database) (E : Effect) (s t : ℕ) → a ≡ b → s ≤ t → t ≤ s + rows_read admit n
    → Stops (unless admit b (reading n (unless broken b E))) b a s t
access_stops None broken n b a E s t d l m = record { unchanged = d; no_fewer = l; at_most = m }
access_stops (Some why) broken n b a E s t d l m = record { unchanged = d; no_fewer = l; at_most = m }

pub access_fails : (T : Type 0) (admit broken : Option Refusal) (n : ℕ) (b a : Database) (E : Effect) (x : Fail) (s t : ℕ)
    → IsRefusedAs (failed T x) (option_or admit broken)
    → a ≡ b → ((failed T x ≢ Err NoMemory) → t ≡ s + rows_read admit n) → s ≤ t → t ≤ s + rows_read admit n
    → CarriesOut (unless admit b (reading n (unless broken b E))) b (Err x) a s t
access_fails T admit broken n b a E NoMemory s t h d c l m = access_stops admit broken n b a E s t d l m
access_fails T admit broken n b a E (Refused why) s t h d c l m = access_refused admit broken n b a E why s t h d (c (λ e. cc))

-- ---- CREATE TABLE, whose names are copied

pub create_denied : (limits : Limits) (db a : Database) (n name : List ℕ) (cs columns : List Column) (x : Fail) → n ≡ name → cs ≡ columns
    → IsRefusedAs (failed TableId x) (add_table_refusal limits (schema_of db) n cs) → a ≡ db
    → CarriesOut (create_table_effect limits db name columns) db (failed Report x) a 0 0
create_denied limits db a n name cs columns x en ecs h e =
    let P : List ℕ → List Column → Type 0 = λ m ds. CarriesOut (create_table_effect limits db m ds) db (failed Report x) a 0 0 in
    subst (λ m. P m columns) en
    (subst (λ ds. P n ds) ecs
    (carries_refused TableId (add_table_refusal limits (schema_of db) n cs) (record { report = Done; cost = 0; db = with_table db n cs }) db a x 0 h e))

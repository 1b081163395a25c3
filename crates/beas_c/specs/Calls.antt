-- What a call of C did to what a database holds, by its status. A closed one is refused.
--     HasOpened asked budget explain before status after      an engine without tables is held
--     HasSet budget explain before status after
--     HasAdded name bytes before status after                 the file was handed over
--     HasSaid text before status after                        the text's one statement was carried out
--     HasPriced text before status after                      what EXPLAIN would report of it is held
--     HasPlanned text before status ..                        the plan of its query is at the front, where there is room
--     HasDropped session before status after
--     HasClosed before status after                           nothing is held any more
use Rattle.std.specs.Prelude.{◌≡◌, ◌≢◌, ◌⊎◌, ℕ, ℤ, Bool, List, Option, None, Some, IsSomeAnd, Result, Err}
use Rattle.std.specs.Result.{result_ok}
use Rattle.std.specs.Str.{IsUtf8}
use Rattle.beas_core.specs.declared.limits.Limits.{Limits}
use Rattle.beas_core.specs.declared.refusal.Refusal.{Refusal}
use Rattle.beas_library.specs.declared.pieces.Why.{Why}
use Rattle.beas_library.specs.declared.pieces.Why.TheVariants.{NoMemory}
use Rattle.beas_library.specs.Engines.{HasFile, HasPriced as IsPriced, HasSaid as IsSaid, HasWanted, IsFresh, IsPlanOf, IsUnpricedFor, with_settings, without_query}
use Rattle.beas_library.specs.OnePiece.{IsRefusedFor}
use Rattle.beas_c.specs.declared.held.Held.{Held}
use Rattle.beas_c.specs.declared.limits.AskedLimits.{AskedLimits}
use Rattle.beas_c.specs.Limits.{AreAsked, IsPastSome}
use Rattle.beas_c.specs.Statuses.{bad_limit, closed, done, no_memory, not_text, status_of}
use Rattle.beas_c.specs.Telling.{CopiesSome}

abbrev pub HasOpened : AskedLimits → Option ℕ → Bool → Option Held → ℤ → Option Held → Type 0
HasOpened asked budget explain before status after =
    ((status ≡ done) × ((limits : Limits) × AreAsked asked limits × IsSomeAnd after (λ held. IsFresh limits budget explain held.engine)))
    ⊎ ((status ≡ bad_limit) × IsPastSome asked × (after ≡ before))
    ⊎ ((status ≡ no_memory) × (after ≡ before))

abbrev pub HasSet : Option ℕ → Bool → Option Held → ℤ → Option Held → Type 0
HasSet budget explain None status after = (status ≡ closed) × (after ≡ None)
HasSet budget explain (Some held) status after =
    (status ≡ done) × (after ≡ Some (record { engine = with_settings budget explain held.engine }))

abbrev pub HasAdded : List ℕ → List ℕ → Option Held → ℤ → Option Held → Type 0
HasAdded name bytes None status after = (status ≡ closed) × (after ≡ None)
HasAdded name bytes (Some held) status after =
    ((status ≡ done) × IsUtf8 name × IsSomeAnd after (λ new. HasFile name bytes held.engine new.engine))
    ⊎ ((status ≡ not_text) × (IsUtf8 name → ⊥) × (after ≡ Some held))
    ⊎ ((status ≡ no_memory) × IsUtf8 name × (after ≡ Some held))

-- a text without a report leaves all as it was
pub record IsRefused (cause : Why → Type 0) (before : Held) (status : ℤ) (after : Option Held) : Type 0 where
  pub why : Why
  pub other : why ≢ NoMemory
  pub status_is : status ≡ status_of (Err why)
  pub stands : cause why
  pub same : after ≡ Some before

-- with so many reads
abbrev pub HasSaid : List ℕ → Option Held → ℤ → Option Held → Type 0
HasSaid text None status after = (status ≡ closed) × (after ≡ None)
HasSaid text (Some held) status after =
    ((status ≡ done) × IsSomeAnd after (λ new. (reads : ℕ) × IsSaid text held.engine new.engine 0 reads))
    ⊎ IsRefused (λ why. IsRefusedFor why text) held status after
    ⊎ ((status ≡ no_memory) × IsSomeAnd after (λ new. (reads : ℕ) × HasWanted text held.engine new.engine 0 reads))

abbrev pub HasPriced : List ℕ → Option Held → ℤ → Option Held → Type 0
HasPriced text None status after = (status ≡ closed) × (after ≡ None)
HasPriced text (Some held) status after =
    ((status ≡ done) × IsSomeAnd after (λ new. IsPriced text held.engine new.engine))
    ⊎ IsRefused (λ why. IsUnpricedFor held.engine.desk why text) held status after
    ⊎ ((status ≡ no_memory) × (after ≡ Some held))

-- a query that is refused has no plan to be copied
pub record Planned (text : List ℕ) (held : Held) (status : ℤ) (old new : List ℕ) (length_old length_new : ℕ) : Type 0 where
  pub plan : Result (List ℕ) Refusal
  pub is : IsPlanOf held.engine.desk text plan
  pub copied : CopiesSome (result_ok plan) status old new length_old length_new

pub record Unplanned (text : List ℕ) (held : Held) (status : ℤ) (old new : List ℕ) (length_old length_new : ℕ) : Type 0 where
  pub why : Why
  pub status_is : status ≡ status_of (Err why)
  pub stands : IsUnpricedFor held.engine.desk why text
  pub same : (new ≡ old) × (length_new ≡ length_old)

abbrev pub HasPlanned : List ℕ → Option Held → ℤ → List ℕ → List ℕ → ℕ → ℕ → Type 0
HasPlanned text None status old new length_old length_new = (status ≡ closed) × (new ≡ old) × (length_new ≡ length_old)
HasPlanned text (Some held) status old new length_old length_new =
    Planned text held status old new length_old length_new ⊎ Unplanned text held status old new length_old length_new

abbrev pub HasDropped : ℕ → Option Held → ℤ → Option Held → Type 0
HasDropped session None status after = (status ≡ closed) × (after ≡ None)
HasDropped session (Some held) status after =
    (status ≡ done) × (after ≡ Some (record { engine = without_query session held.engine }))

abbrev pub HasClosed : Option Held → ℤ → Option Held → Type 0
HasClosed None status after = (status ≡ closed) × (after ≡ None)
HasClosed (Some held) status after = (status ≡ done) × (after ≡ None)

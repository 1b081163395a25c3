-- What a call that may be refused, or run out of memory, is to answer.
--     Gives result wanted             the result is the answer or the refusal that is wanted, or out of memory
--     IsRefusedAs result refusal      the result is this refusal, an answer where there is none, or out of memory
--     refused_if failing why          the refusal, where a test fails
use Rattle.std.specs.Prelude.{◌≡◌, if◌then◌else◌, Bool, Option, Some, None, Result, Ok, Err}
use Rattle.beas_core.specs.declared.errors.Fail.{Fail}
use Rattle.beas_core.specs.declared.errors.Fail.TheVariants.{NoMemory, Refused}
use Rattle.beas_core.specs.declared.refusal.Refusal.{Refusal}

abbrev pub Gives : {A : Type 0} → Result A Fail → Result A Refusal → Type 0
Gives (Ok answer) wanted = wanted ≡ Ok answer
Gives (Err NoMemory) wanted = Unit {0}
Gives (Err (Refused why)) wanted = wanted ≡ Err why

abbrev pub IsRefusedAs : {A : Type 0} → Result A Fail → Option Refusal → Type 0
IsRefusedAs (Ok answer) refusal = refusal ≡ None
IsRefusedAs (Err NoMemory) refusal = Unit {0}
IsRefusedAs (Err (Refused why)) refusal = refusal ≡ Some why

abbrev pub refused_if : Bool → Refusal → Option Refusal
refused_if failing why = if failing then Some why else None

-- Calls that give an answer or a refusal, one after another.
use Rattle.std.proofs.Common.{◌≡◌, sym, ap, ◌∙◌, subst, List, [], ◌∷◌, Option, Some, None, Result, Ok, Err}
use Rattle.std.specs.Prelude.{IfOk}
use Rattle.beas_core.specs.declared.errors.Fail.{Fail}
use Rattle.beas_core.specs.declared.errors.Fail.TheVariants.{NoMemory, Refused}
use Rattle.beas_core.specs.declared.refusal.Refusal.{Refusal}
use Rattle.beas_core.specs.Results.{Gives, IsRefusedAs}
use Rattle.name_resolution.specs.Refusing.{first}
use Rattle.session.specs.Announced.{and_then, unless_refused}
use Rattle.session.specs.Effects.{or_refusal}
use Rattle.session.proofs.CarryFacts.{failed}

none_refused : {A : Type 0} (refusals : List Refusal) (answer a : A) → first refusals ≡ None → a ≡ answer → unless_refused refusals answer ≡ Ok a
none_refused [] answer a h e = ap (λ x. Ok x) (sym e)
none_refused (why ∷ more) answer a h e = absurd (let bad : Some why ≡ None = h in cc)

first_refused : {A : Type 0} (refusals : List Refusal) (answer : A) (why : Refusal) → first refusals ≡ Some why → unless_refused refusals answer ≡ Err why
first_refused [] answer why h = absurd (let bad : None ≡ Some why = h in cc)
first_refused (other ∷ more) answer why h = ap (λ o. unless_refused (other_of o) answer) h
  where
    other_of : Option Refusal → List Refusal
    other_of None = []
    other_of (Some x) = x ∷ []

-- the first of the refusals, or the answer
pub given : {A : Type 0} (r : Result A Fail) (refusals : List Refusal) (answer : A) → IsRefusedAs r (first refusals) → IfOk r (λ a. a ≡ answer)
    → Gives r (unless_refused refusals answer)
given (Ok a) refusals answer told is = none_refused refusals answer a told is
given (Err NoMemory) refusals answer told is = tt
given (Err (Refused why)) refusals answer told is = first_refused refusals answer why told

-- the fault, or the answer
pub given_or_fault : {A : Type 0} (r : Result A Fail) (fault : Option Refusal) (answer : A) → IsRefusedAs r fault → IfOk r (λ a. a ≡ answer)
    → Gives r (or_refusal fault answer)
given_or_fault (Ok a) fault answer refused is = ap (λ f. or_refusal f answer) refused ∙ ap (λ x. Ok x) (sym is)
given_or_fault (Err NoMemory) fault answer refused is = tt
given_or_fault (Err (Refused why)) fault answer refused is = ap (λ f. or_refusal f answer) refused

pub given_fails : (A B : Type 0) (w : Result A Refusal) (next : A → Result B Refusal) (x : Fail) → Gives (failed A x) w → Gives (failed B x) (and_then w next)
given_fails A B w next NoMemory h = tt
given_fails A B w next (Refused why) h = ap (λ v. and_then v next) h

pub given_next : {A B : Type 0} (w : Result A Refusal) (next : A → Result B Refusal) (a : A) (r : Result B Fail) → w ≡ Ok a → Gives r (next a)
    → Gives r (and_then w next)
given_next {B} w next a r e h = subst (λ v. Gives r (and_then v next)) (sym e) h

pub ok_both : {A E : Type 0} (P Q R : A → Type 0) → ((a : A) → P a → Q a → R a) → (r : Result A E) → IfOk r P → IfOk r Q → IfOk r R
ok_both P Q R so (Ok a) p q = so a p q
ok_both P Q R so (Err e) p q = tt

-- Refusals that name no file as unreadable, where they stand in options, lists and results.
use Rattle.std.proofs.Common.{◌≡◌, Bool, true, false, if◌then◌else◌, List, [], ◌∷◌, map, Option, Some, None, Result, Ok, Err}
use Rattle.std.specs.Prelude.{IfSome, IfErr}
use Rattle.std.specs.List.{flat_map}
use Rattle.std.specs.Option.{ok_or, option_map, option_map_or, option_or, option_to_list}
use Rattle.beas_core.specs.declared.refusal.Refusal.{Refusal}
use Rattle.beas_core.specs.Results.{refused_if}
use Rattle.catalogue.specs.Refusing.{first_of}
use Rattle.csv_load.specs.CsvRows.{first_some}
use Rattle.name_resolution.specs.Refusing.{refusals_if}
use Rattle.name_resolution.proofs.Ranges.{Each, each_append}
use Rattle.session.specs.Announced.{and_then, unless_refused}
use Rattle.session.specs.Effects.{or_refusal}
use Rattle.beas_laws.specs.Unreadable.{unreadable_file}

-- a refusal for another reason
abbrev pub Other : Refusal → Type 0
Other why = unreadable_file why ≡ None

-- ---- options

pub either_other : (b : Bool) (o p : Option Refusal) → IfSome o Other → IfSome p Other → IfSome (if b then o else p) Other
either_other true o p h k = h
either_other false o p h k = k

pub if_other : (b : Bool) (why : Refusal) → Other why → IfSome (refused_if b why) Other
if_other b why h = either_other b (Some why) None h tt

pub or_other : (o p : Option Refusal) → IfSome o Other → IfSome p Other → IfSome (option_or o p) Other
or_other None p h k = k
or_other (Some why) p h k = h

some_other : (o p : Option Refusal) → IfSome o Other → IfSome p Other → IfSome (option_map_or Some o p) Other
some_other None p h k = k
some_other (Some why) p h k = h

module _ {X : Type 0} where
  pub map_other : (f : X → Refusal) → ((x : X) → Other (f x)) → (o : Option X) → IfSome (option_map f o) Other
  map_other f h None = tt
  map_other f h (Some x) = h x

  pub first_of_other : (f : X → Option Refusal) → ((x : X) → IfSome (f x) Other) → (xs : List X) → IfSome (first_of (map f xs)) Other
  first_of_other f h [] = tt
  first_of_other f h (x ∷ xs) = or_other (f x) (first_of (map f xs)) (h x) (first_of_other f h xs)

  pub first_some_other : (f : X → Option Refusal) → ((x : X) → IfSome (f x) Other) → (xs : List X) → IfSome (first_some f xs) Other
  first_some_other f h [] = tt
  first_some_other f h (x ∷ xs) = some_other (f x) (first_some f xs) (h x) (first_some_other f h xs)

-- ---- lists

pub list_other : (o : Option Refusal) → IfSome o Other → Each Other (option_to_list o)
list_other None h = tt
list_other (Some why) h = (h, tt)

pub list_if_other : (b : Bool) (why : Refusal) → Other why → Each Other (refusals_if b why)
list_if_other b why h = list_other (refused_if b why) (if_other b why h)

pub flat_other : {X : Type 0} (f : X → List Refusal) → ((x : X) → Each Other (f x)) → (xs : List X) → Each Other (flat_map f xs)
flat_other f h [] = tt
flat_other f h (x ∷ xs) = each_append Other (f x) (flat_map f xs) (h x) (flat_other f h xs)

-- ---- results

module _ {A : Type 0} where
  pub either_err : (b : Bool) (r s : Result A Refusal) → IfErr r Other → IfErr s Other → IfErr (if b then r else s) Other
  either_err true r s h k = h
  either_err false r s h k = k

  pub ok_or_err : (o : Option A) (why : Refusal) → Other why → IfErr (ok_or o why) Other
  ok_or_err None why h = h
  ok_or_err (Some answer) why h = tt

  pub or_refusal_err : (o : Option Refusal) (answer : A) → IfSome o Other → IfErr (or_refusal o answer) Other
  or_refusal_err None answer h = tt
  or_refusal_err (Some why) answer h = h

  pub unless_refused_err : (refusals : List Refusal) (answer : A) → Each Other refusals → IfErr (unless_refused refusals answer) Other
  unless_refused_err [] answer h = tt
  unless_refused_err (why ∷ more) answer h = h.0

  pub and_then_err : {B : Type 0} (r : Result A Refusal) (next : A → Result B Refusal) → IfErr r Other → ((answer : A) → IfErr (next answer) Other)
      → IfErr (and_then r next) Other
  and_then_err (Ok answer) next h k = k answer
  and_then_err (Err why) next h k = h

-- Where no load of a file failed, no report names a file as unreadable.
use Rattle.std.proofs.Common.{◌≡◌, ◌∙◌, ◌+◌, ℕ, Bool, true, false, cond, if◌then◌else◌, ◌&&◌, All, List, [], ◌∷◌, Option, Some, None, bytes_eq, arith, ap, refl, sym}
use Rattle.std.specs.List.{cons_option}
use Rattle.std.proofs.lemmas.List.Elements.{All-cons, All-head, All-nil, All-tail}
use Rattle.std.proofs.lemmas.List.Sums.{sum_by-cons}
use Rattle.std.proofs.lemmas.Slice.Eq.{bytes_eq-Decides}
use Rattle.session.specs.Ties.{failures, is_failed}
use Rattle.session.specs.Turns.{FileLoad, Turn, loads_of}
use Rattle.beas_laws.specs.Unreadable.{NamesNone, TellsFailures, failed_file}

abbrev NoFailures : List FileLoad → Type 0
NoFailures loads = (name : List ℕ) → failures name loads ≡ 0

-- what a load adds to the count of failures
abbrev once : Bool → ℕ
once failed = cond failed 1 0

not_failed : (name : List ℕ) (failed : Bool) → once (bytes_eq name name && failed) ≡ 0 → (if failed then Some name else None) ≡ None
not_failed name false none = refl
not_failed name true none =
    let one : once (bytes_eq name name && true) ≡ 1 = ap (λ same. once (same && true)) ((bytes_eq-Decides name name).1 refl) in
    absurd (omega (arith, one, none))

module _ (load : FileLoad) (loads : List FileLoad) (none : NoFailures (load ∷ loads)) where
  split : (name : List ℕ) → once (bytes_eq load.name name && is_failed load.outcome) + failures name loads ≡ 0
  split name = sym (sum_by-cons (λ l. once (bytes_eq l.name name && is_failed l.outcome)) load loads) ∙ none name

  first_none : failed_file (Some load) ≡ None
  first_none = not_failed load.name (is_failed load.outcome) (let s = split load.name in omega (arith, s))

  later_none : NoFailures loads
  later_none name = let s = split name in omega (arith, s)

this_none : (load : Option FileLoad) (loads : List FileLoad) → NoFailures (cons_option load loads) → failed_file load ≡ None
this_none None loads none = refl
this_none (Some load) loads none = first_none load loads none

rest_none : (load : Option FileLoad) (loads : List FileLoad) → NoFailures (cons_option load loads) → NoFailures loads
rest_none None loads none = none
rest_none (Some load) loads none = later_none load loads none

pub none_named : (turns : List Turn) → All TellsFailures turns → NoFailures (loads_of turns) → All NamesNone turns
none_named [] tells none = All-nil NamesNone
none_named (turn ∷ turns) tells none =
    All-cons NamesNone turn turns (All-head TellsFailures turn turns tells ∙ this_none turn.load (loads_of turns) none)
    (none_named turns (All-tail TellsFailures turn turns tells) (rest_none turn.load (loads_of turns) none))

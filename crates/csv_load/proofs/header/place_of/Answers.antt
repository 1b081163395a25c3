use Rattle.std.proofs.Common.{◌≡◌, ◌+◌, ◌++◌, ◌<◌, ℕ, List, Bool, Option, sym, ◌∙◌, subst, length, arith}
use Rattle.std.specs.Option.{option_to_list}
use Rattle.csv.specs.Records.{fields_of}
use Rattle.csv_load.specs.Fields.{names}
use Rattle.csv_load.specs.CsvRows.{place_of, the_only}
use Rattle.csv_load.proofs.HeaderFacts.{places, place_taken, place_twice, place_passed}
use Rattle.csv_load.proofs.header.place_of.Goals as goal
use Rattle.csv_load.proofs.header.place_of.Goals.{then-is_named_at+else-is_some, else-is_named_at}

pub returns-then-is_some : goal.returns-then-is_some
returns-then-is_some c =
    let l : c.loop-place.place < length (fields_of c.args.header.now) = omega arith in
    place_twice (λ field. names field c.args.column.now) (fields_of c.args.header.now) c.loop-place.place
    (place_of (fields_of c.args.header.now) c.args.column.now)
    l (sym c.is_named_at.ensures ∙ c.if-is_named_at.true) c.loop-place.found (sym c.is_some.ensures ∙ c.if-is_some.true) c.loop-place.invariant

pub loop-place-preserved : goal.loop-place-preserved
loop-place-preserved c =
    let l : c.loop-place.place < length (fields_of c.args.header.now) = omega arith in
    let p : List ℕ → Bool = λ field. names field c.args.column.now in
    let all : Option ℕ = place_of (fields_of c.args.header.now) c.args.column.now in
    let P : Option ℕ → Type 0 = λ o. the_only (option_to_list o ++ places p (fields_of c.args.header.now) (c.loop-place.place + 1)) ≡ all in
    elim c.if-is_named_at.branch [
      | then-is_named_at+else-is_some w ↦
          subst P (sym w.found-is) (place_taken p (fields_of c.args.header.now) c.loop-place.place all l (sym c.is_named_at.ensures ∙ w.if-is_named_at.true)
          c.loop-place.found (sym w.is_some.ensures ∙ w.if-is_some.false) c.loop-place.invariant)
      | else-is_named_at w ↦
          subst P (sym w.found-is) (place_passed p (fields_of c.args.header.now) c.loop-place.place all c.loop-place.found l
          (sym c.is_named_at.ensures ∙ w.if-is_named_at.false) c.loop-place.invariant)
    ]

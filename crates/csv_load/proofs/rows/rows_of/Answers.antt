use Rattle.std.proofs.Common.{◌≡◌, ◌≤◌, ◌+◌, ◌∷◌, Bool, true, false, Option, Some, None, IfOk, MatchOption, length, sym, ◌∙◌, subst, arith}
use Rattle.std.specs.Bool.{MatchBool}
use Rattle.beas_core.specs.Results.{IsRefusedAs}
use Rattle.csv.specs.Records.{fields_of}
use Rattle.csv_load.specs.CsvRows.{is_header, records_of}
use Rattle.csv_load.specs.Layouts.{IsLayout}
use Rattle.csv_load.specs.Reading.{weight}
use Rattle.csv_load.proofs.FitFacts.{rows_fit}
use Rattle.csv_load.proofs.RowFacts.{no_header, other_header, fault_is, rows_are, room}
use Rattle.csv_load.proofs.SlotFacts.{layout_tells}
use Rattle.csv_load.proofs.rows.rows_of.Goals as goal

at_false : (b : Bool) (P Q : Type 0) → b ≡ false → MatchBool b P Q → Q
at_false true P Q e h = cc
at_false false P Q e h = h

at_true : (b : Bool) (P Q : Type 0) → b ≡ true → MatchBool b P Q → P
at_true true P Q e h = h
at_true false P Q e h = cc

at_some : {X : Type 0} (o : Option X) (x : X) (P : Type 0) (Q : X → Type 0) → o ≡ Some x → MatchOption o P Q → Q x
at_some None x P Q e h = cc
at_some {X} (Some y) x P Q e h = let same : y ≡ x = cc in subst Q same h

at_none : {X : Type 0} (o : Option X) (P : Type 0) (Q : X → Type 0) → o ≡ None → MatchOption o P Q → P
at_none None P Q e h = h
at_none (Some y) P Q e h = cc

pub returns-then-not-branch-clause-refused : goal.returns-then-not-branch-clause-refused
returns-then-not-branch-clause-refused c =
    no_header c.args.limits.now.text c.args.columns.now c.args.bytes.now
    (sym c.of-records.ensures.all ∙ at_false c.in_ok-read.field-0 _ _ c.if-not-branch.true c.in_ok-read.ensures.ok)

pub returns-in-None-clause-refused : goal.returns-in-None-clause-refused
returns-in-None-clause-refused c =
    let all : records_of c.args.bytes.now ≡ fields_of c.read.new.fields ∷ c.read.new.self =
    sym c.of-records.ensures.all ∙ at_true c.in_ok-read.field-0 _ _ c.if-not-branch.false c.in_ok-read.ensures.ok in
    let n : is_header c.args.columns.now (fields_of c.read.new.fields) ≡ false =
    subst (λ columns. is_header columns (fields_of c.read.new.fields) ≡ false) c.as_slice.ensures
    (at_none c.in_ok-layout.field-0 _ _ c.in-None.is c.in_ok-layout.ensures) in
    other_header c.args.limits.now.text c.args.columns.now c.args.bytes.now (fields_of c.read.new.fields) c.read.new.self all n

pub rows_left-requires-clause-room : goal.rows_left-requires-clause-room
rows_left-requires-clause-room c =
    let all : records_of c.args.bytes.now ≡ fields_of c.read.new.fields ∷ c.read.new.self =
    sym c.of-records.ensures.all ∙ at_true c.in_ok-read.field-0 _ _ c.if-not-branch.false c.in_ok-read.ensures.ok in
    let l : IsLayout c.args.columns.now (fields_of c.read.new.fields) c.in-Some.layout =
    subst (λ columns. IsLayout columns (fields_of c.read.new.fields) c.in-Some.layout) c.as_slice.ensures
    (at_some c.in_ok-layout.field-0 c.in-Some.layout _ _ c.in-Some.is c.in_ok-layout.ensures) in
    let w : weight (fields_of c.read.new.fields ∷ c.read.new.self) ≤ length c.args.bytes.now + 1 =
    subst (λ records. weight records ≤ length c.args.bytes.now + 1) (at_true c.in_ok-read.field-0 _ _ c.if-not-branch.false c.in_ok-read.ensures.ok)
    c.of-records.ensures.few in
    omega (
      arith,
      c.requires,
      room c.args.limits.now.text c.args.columns.now c.args.bytes.now (fields_of c.read.new.fields) c.read.new.self all c.in-Some.layout
          l w,
    )

pub rows_left-requires-clause-slots : goal.rows_left-requires-clause-slots
rows_left-requires-clause-slots c =
    let l : IsLayout c.args.columns.now (fields_of c.read.new.fields) c.in-Some.layout =
    subst (λ columns. IsLayout columns (fields_of c.read.new.fields) c.in-Some.layout) c.as_slice.ensures
    (at_some c.in_ok-layout.field-0 c.in-Some.layout _ _ c.in-Some.is c.in_ok-layout.ensures) in
    layout_tells c.args.limits.now.text c.args.columns.now (fields_of c.read.new.fields) c.in-Some.layout l

pub returns-clause-rows : goal.returns-clause-rows
returns-clause-rows c =
    let all : records_of c.args.bytes.now ≡ fields_of c.read.new.fields ∷ c.read.new.self =
    sym c.of-records.ensures.all ∙ at_true c.in_ok-read.field-0 _ _ c.if-not-branch.false c.in_ok-read.ensures.ok in
    let l : IsLayout c.args.columns.now (fields_of c.read.new.fields) c.in-Some.layout =
    subst (λ columns. IsLayout columns (fields_of c.read.new.fields) c.in-Some.layout) c.as_slice.ensures
    (at_some c.in_ok-layout.field-0 c.in-Some.layout _ _ c.in-Some.is c.in_ok-layout.ensures) in
    subst (λ wanted. IfOk c.rows_left.result (λ rows. rows ≡ wanted)) (sym (rows_are c.args.limits.now.text c.args.columns.now c.args.bytes.now
    (fields_of c.read.new.fields) c.read.new.self all c.in-Some.layout l)) c.rows_left.ensures.rows

pub returns-clause-refused : goal.returns-clause-refused
returns-clause-refused c =
    let all : records_of c.args.bytes.now ≡ fields_of c.read.new.fields ∷ c.read.new.self =
    sym c.of-records.ensures.all ∙ at_true c.in_ok-read.field-0 _ _ c.if-not-branch.false c.in_ok-read.ensures.ok in
    let l : IsLayout c.args.columns.now (fields_of c.read.new.fields) c.in-Some.layout =
    subst (λ columns. IsLayout columns (fields_of c.read.new.fields) c.in-Some.layout) c.as_slice.ensures
    (at_some c.in_ok-layout.field-0 c.in-Some.layout _ _ c.in-Some.is c.in_ok-layout.ensures) in
    subst (IsRefusedAs c.rows_left.result) (sym (fault_is c.args.limits.now.text c.args.columns.now c.args.bytes.now (fields_of c.read.new.fields)
    c.read.new.self all c.in-Some.layout l)) c.rows_left.ensures.refused

pub returns-clause-fit : goal.returns-clause-fit
returns-clause-fit c =
    rows_fit c.args.limits.now.text c.args.columns.now c.args.bytes.now c.rows_left.result (returns-clause-rows c) (returns-clause-refused c)

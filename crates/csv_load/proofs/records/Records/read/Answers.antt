use Rattle.std.proofs.Common.{◌≡◌, ◌∷◌, [], Bool, true, false, Result, Ok, sym, subst, ◌∙◌, refl}
use Rattle.std.specs.Bool.{MatchBool}
use Rattle.csv.specs.Reading.{has_failed, error_kind}
use Rattle.csv.specs.Records.{fields_of}
use Rattle.csv.specs.declared.error.Error.{Error}
use Rattle.csv_load.specs.Reading.{left_of}
use Rattle.csv_load.proofs.RecordFacts.{left_after, left_failed, failure_stops}
use Rattle.csv_load.proofs.records.Records.read.Goals as goal

same_found : (r : Result Bool Error) (a b : Bool) → r ≡ Ok a → r ≡ Ok b → a ≡ b
same_found r a b d e = cc

-- src/records.rt:44:5
pub returns-in-Err-clause-err : goal.returns-in-Err-clause-err
returns-in-Err-clause-err c = by (has_failed c.self.inside.reader) refl
  where
    by : (b : Bool) → has_failed c.self.inside.reader ≡ b → left_of c.read_byte_record.new.self ≡ []
    by true e = let f = c.read_byte_record.ensures.failed e in let i = c.in-Err.is in cc
    by false e =
        let plain = c.self.invariant e in
        left_failed c.read_byte_record.new.self
        (c.in-Err.ensures.fails ∙ failure_stops c.self.inside.reader c.read_byte_record.new.self (error_kind c.in-Err.field-0) plain.flexible
        (c.in-Err.ensures.why plain.ready))

-- src/records.rt:44:5
pub returns-clause-ok : goal.returns-clause-ok
returns-clause-ok c = by (has_failed c.self.inside.reader) refl
  where
    by : (b : Bool) → has_failed c.self.inside.reader ≡ b
        → MatchBool c.in-Ok.found (c.args.self.now ≡ fields_of c.read_byte_record.new.row ∷ left_of c.read_byte_record.new.self) (c.args.self.now ≡ [])
    by true e =
        let found : false ≡ c.in-Ok.found = same_found c.read_byte_record.result false c.in-Ok.found (c.read_byte_record.ensures.failed e) c.in-Ok.is in
        subst (λ b. MatchBool b (c.args.self.now ≡ fields_of c.read_byte_record.new.row ∷ left_of c.read_byte_record.new.self) (c.args.self.now ≡ [])) found
        (sym c.self.view_is ∙ left_failed c.self.inside.reader e)
    by false e =
        let plain = c.self.invariant e in
        subst (λ view. MatchBool c.in-Ok.found (view ≡ fields_of c.read_byte_record.new.row ∷ left_of c.read_byte_record.new.self) (view ≡ [])) c.self.view_is
        (left_after c.self.inside.reader c.read_byte_record.new.self c.in-Ok.found (fields_of c.read_byte_record.new.row) plain e (c.in-Ok.ensures.goes ∙ e)
        (c.in-Ok.ensures.reads plain.trim plain.ready))

use Rattle.std.proofs.Common.{sym, subst}
use Rattle.code_index.specs.Codes.{AreDistinct}
use Rattle.code_index.specs.Reading.{KeepsCodes}
use Rattle.code_index.proofs.CodeFacts.{are_distinct, code_at}
use Rattle.code_index.proofs.Growth.{kept_extended, kept_codes}
use Rattle.code_index.proofs.interner.Interner.intern.Goals as goal

pub returns-clause-code : goal.returns-clause-code
returns-clause-code c =
    let keys = c.insert_full.new.self.keys in
    let s = c.in_ok-index.ensures.stored in
    code_at keys c.args.value s.0 c.in_ok-index.index (are_distinct keys c.in_ok-index.ensures.unique) s.1 s.2

pub returns-clause-distinct : goal.returns-clause-distinct
returns-clause-distinct c = are_distinct c.insert_full.new.self.keys c.in_ok-index.ensures.unique

pub returns-clause-kept : goal.returns-clause-kept
returns-clause-kept c =
    let keys = c.insert_full.new.self.keys in
    let grown = c.in_ok-index.ensures.keys in
    subst (λ old. KeepsCodes old keys) c.self.view_is (subst (KeepsCodes c.self.inside.values.keys) (sym grown)
    (kept_extended c.self.inside.values.keys c.args.value (subst AreDistinct grown (are_distinct keys c.in_ok-index.ensures.unique))))

pub returns-in_err-index-clause-distinct : goal.returns-in_err-index-clause-distinct
returns-in_err-index-clause-distinct c = are_distinct c.insert_full.new.self.keys c.in_err-index.ensures.unique

pub returns-in_err-index-clause-kept : goal.returns-in_err-index-clause-kept
returns-in_err-index-clause-kept c =
    subst (λ old. KeepsCodes old c.insert_full.new.self.keys) c.self.view_is
    (subst (KeepsCodes c.self.inside.values.keys) (sym c.in_err-index.ensures.err) (kept_codes c.self.inside.values.keys))

pub returns-in_err-make_room-clause-distinct : goal.returns-in_err-make_room-clause-distinct
returns-in_err-make_room-clause-distinct c = are_distinct c.self.inside.values.keys c.self.invariant

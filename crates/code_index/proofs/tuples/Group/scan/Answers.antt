use Rattle.std.proofs.Common.{◌≢◌, ◌<◌, ◌∷◌, [], length, get_or, take, sym, ◌∙◌, subst, arith, true≢false}
use Rattle.std.specs.List.{AllByRecursion}
use Rattle.std.proofs.lemmas.List.{take_all, take_more}
use Rattle.beas_core.specs.Groups.{member_columns}
use Rattle.blocked_list.proofs.Joined.{all_append}
use Rattle.labelled_list.specs.declared.coded.Coded.{Coded}
use Rattle.code_index.specs.Reading.{pick}
use Rattle.code_index.proofs.tuples.Group.scan.Goals as goal

pub returns-then-is_tuple : goal.returns-then-is_tuple
returns-then-is_tuple c = (omega (arith, c.loop-i-test.true, c.len-i-end.ensures), λ d. sym (c.codes.ensures d) ∙ c.is_tuple.ensures.0 c.if-is_tuple.true)

pub loop-i-preserved : goal.loop-i-preserved
loop-i-preserved c =
    let tuples = c.args.self.now in
    let i = c.loop-i.i in
    let d : Coded = record { codes = []; count = 0 } in
    let within : i < length tuples = omega (arith, c.loop-i-test.true, c.len-i-end.ensures) in
    subst (AllByRecursion (λ (tuple : Coded). tuple.codes ≢ pick (member_columns c.args.access.now) c.args.row_codes.now)) (sym (take_more tuples i d within))
    (all_append (λ (tuple : Coded). tuple.codes ≢ pick (member_columns c.args.access.now) c.args.row_codes.now) (take i tuples) (get_or tuples i d ∷ [])
    c.loop-i.invariant ((λ e. true≢false (sym (c.is_tuple.ensures.1 (c.codes.ensures d ∙ e)) ∙ c.if-is_tuple.false)), tt))

pub returns : goal.returns
returns c =
    subst (AllByRecursion (λ (tuple : Coded). tuple.codes ≢ pick (member_columns c.args.access.now) c.args.row_codes.now))
    (take_all c.loop-i.i c.args.self.now (omega (arith, c.loop-i-test.false, c.len-i-end.ensures))) c.loop-i.invariant

use Rattle.std.proofs.Common.{◌≡◌, ◌≢◌, ◌<◌, ◌++◌, ◌∷◌, [], length, get_or, take, ap, sym, ◌∙◌, subst, arith}
use Rattle.std.specs.List.{AllByRecursion}
use Rattle.std.proofs.lemmas.List.{get_or-take, get_or_default, length-take-le, take_more}
use Rattle.labelled_list.specs.declared.coded.Coded.{Coded}
use Rattle.labelled_list.proofs.KeyFacts.{all_by_places, put_last}
use Rattle.labelled_list.proofs.labelled.LabelledList.over.Goals as goal

pub insert-requires-clause-room : goal.insert-requires-clause-room
insert-requires-clause-room c =
    let tuples = c.args.tuples.now in
    let i = c.loop-i.i in
    omega (arith, c.requires.few, c.loop-i-test.true, c.len-i-end.ensures, ap length c.loop-i.invariant.list, length-take-le i tuples (omega (arith, c.loop-i-test.true, c.len-i-end.ensures)))

pub insert-requires-clause-absent : goal.insert-requires-clause-absent
insert-requires-clause-absent c =
    let tuples = c.args.tuples.now in
    let i = c.loop-i.i in
    let x = c.get.result.now in
    let item : x ≡ get_or tuples i x = c.get.ensures.item ∙ ap (λ xs. get_or xs i x) c.loop-i.invariant.walk in
    let within : i < length tuples = omega (arith, c.loop-i-test.true, c.len-i-end.ensures) in
    let long = length-take-le i tuples (omega (arith, within)) in
    subst (AllByRecursion (λ (item : Coded). item.codes ≢ c.in_ok-copy.field-0.codes)) (sym c.loop-i.invariant.list)
    (all_by_places (λ (item : Coded). item.codes ≢ c.in_ok-copy.field-0.codes) (take i tuples) (λ k d l same.
    let before : k < i = omega (arith, l, long) in
    c.requires.distinct k i d before within
    (sym (ap (λ (y : Coded). y.codes) (get_or-take i tuples k d before)) ∙ same ∙ ap (λ (y : Coded). y.codes) (c.in_ok-copy.ensures ∙ item ∙ sym (get_or_default tuples i d x within)))))

pub loop-i-preserved : goal.loop-i-preserved
loop-i-preserved c =
    let tuples = c.args.tuples.now in
    let i = c.loop-i.i in
    let x = c.get.result.now in
    let item : x ≡ get_or tuples i x = c.get.ensures.item ∙ ap (λ xs. get_or xs i x) c.loop-i.invariant.walk in
    let within : i < length tuples = omega (arith, c.loop-i-test.true, c.len-i-end.ensures) in
    let long = length-take-le i tuples (omega (arith, within)) in
    record {
      walk = c.get.ensures.same ∙ c.loop-i.invariant.walk;
      list =
          c.in_ok-insert.ensures.ok
          ∙ put_last c.loop-i.list i c.in_ok-copy.field-0 (sym long ∙ sym (ap length c.loop-i.invariant.list))
          ∙ ap (λ y. c.loop-i.list ++ y ∷ []) (c.in_ok-copy.ensures ∙ item)
          ∙ ap (λ xs. xs ++ get_or tuples i x ∷ []) c.loop-i.invariant.list
          ∙ sym (take_more tuples i x within);
    }

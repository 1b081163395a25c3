use Rattle.std.proofs.Common.{◌≡◌, ◌+◌, ◌++◌, ◌∷◌, [], length, take, ap, sym, ◌∙◌, subst, arith, add-one}
use Rattle.std.specs.Prelude.{slice_get, Some}
use Rattle.std.specs.List.{IsDistinct}
use Rattle.std.proofs.Math.Seq.{take-suc}
use Rattle.std.proofs.lemmas.List.{take_all}
use Rattle.std.proofs.lemmas.Option.{get_or_from_slice_get, slice_get_within}
use Rattle.indexmap.specs.IndexSet.{insert_all, insert_key}
use Rattle.indexmap.proofs.SetLemmas.{set_all_distinct, set_all_push}
use Rattle.code_index.specs.Codes.{same_value}
use Rattle.code_index.proofs.CodeFacts.{same_laws}
use Rattle.code_index.proofs.interner.Interner.copy.Goals as goal

pub loop-i-preserved : goal.loop-i-preserved
loop-i-preserved c =
    let keys = c.args.self.now in
    let i = c.loop-i.i in
    let x = c.index.result.now in
    let at : slice_get keys i ≡ Some x = ap (λ ks. slice_get ks i) (sym c.self.view_is) ∙ c.index.ensures in
    let next : take (i + 1) keys ≡ take i keys ++ x ∷ [] =
    ap (λ n. take n keys) (add-one i) ∙ take-suc keys i x (slice_get_within keys i x at) ∙ ap (λ v. take i keys ++ v ∷ []) (get_or_from_slice_get keys i x x at) in
    c.in_ok-insert.ensures.keys
    ∙ ap (insert_key same_value c.loop-i.values.keys) c.in_ok-copy.ensures
    ∙ ap (λ ks. insert_key same_value ks x) c.loop-i.invariant
    ∙ sym (set_all_push same_value [] (take i keys) x)
    ∙ ap (insert_all same_value []) (sym next)

pub returns : goal.returns
returns c =
    let keys = c.args.self.now in
    let long = ap length c.self.view_is in
    c.loop-i.invariant
    ∙ ap (insert_all same_value []) (take_all c.loop-i.i keys (omega (arith, c.loop-i-test.false, c.len-i-end.ensures.len, long)))
    ∙ set_all_distinct same_laws [] keys (subst (IsDistinct same_value) c.self.view_is c.self.invariant)

pub invariant_of-result : goal.invariant_of-result
invariant_of-result c =
    let keys = c.args.self.now in
    let long = ap length c.self.view_is in
    let whole = c.loop-i.invariant
    ∙ ap (insert_all same_value []) (take_all c.loop-i.i keys (omega (arith, c.loop-i-test.false, c.len-i-end.ensures.len, long)))
    ∙ set_all_distinct same_laws [] keys (subst (IsDistinct same_value) c.self.view_is c.self.invariant) in
    subst (IsDistinct same_value) (c.self.view_is ∙ sym whole) c.self.invariant

use Rattle.std.proofs.Common.{◌≡◌, ◌+◌, ◌++◌, ◌∷◌, ◌∙◌, [], ℕ, List, ap, subst, sym, rules, arith, length}
use Rattle.std.specs.List.{range_with_len}
use Rattle.std.specs.List.Sorted.{IsPermutation}
use Rattle.std.specs.Ordering.{is_lt}
use Rattle.std.proofs.lemmas.Fn.{always_returns_same}
use Rattle.place_chains.specs.TupleOrder.{number_cmp}
use Rattle.place_chains.proofs.OrderFacts.{numbers_weak, one_number_more}
use Rattle.place_chains.proofs.ordering.TupleOrder.new.Goals as goal

pub loop-number-preserved : goal.loop-number-preserved
loop-number-preserved g c =
    let i = c.loop-number.number in
    record {
      items = c.push_reserved.ensures.items ∙ ap (λ (xs : List ℕ). xs ++ i ∷ []) c.loop-number.invariant.items ∙ sym (one_number_more i);
      len = c.push_reserved.ensures.len ∙ ap (λ n. n + 1) c.loop-number.invariant.len;
      room = c.push_reserved.ensures.capacity ∙ c.loop-number.invariant.room;
    }

pub returns : goal.returns
returns g c = λ tuples reading.
    let places = c.args.places.now in
    let whole = reading.whole in
    let n : c.loop-number.number ≡ length tuples = omega (arith, c.loop-number-test.false, c.loop-number.auto.number-end, whole) in
    let items = c.loop-number.invariant.items ∙ ap (range_with_len 0) n in
    record {
      all = subst (λ xs. IsPermutation xs c.sort_unstable_by.new.self.items) items c.sort_unstable_by.ensures.permutation;
      sorted = c.sort_unstable_by.ensures.sorted (λ i j. is_lt (number_cmp places tuples i j)) (numbers_weak places tuples)
          (always_returns_same _ _ _ (λ a r f k. search rules));
    }

use Rattle.std.proofs.Common.{◌≡◌, ◌≤◌, ◌-◌, ◌∙◌, true, false, length, take, drop, ap, subst, sym, rules, arith}
use Rattle.std.proofs.lemmas.List.{length-drop, take_all}
use Rattle.std.proofs.lemmas.List.Sorted.{IsPartitionPoint-from_clause}
use Rattle.std.specs.List.Sorted.{IsPartitionPoint, IsPartitionedBy}
use Rattle.place_chains.specs.Fitting.{IsRun}
use Rattle.place_chains.specs.TupleOrder.{IsOrder, values_at}
use Rattle.place_chains.proofs.OrderFacts.{less, less_first, no_more, no_more_first, run_is}
use Rattle.place_chains.proofs.ordering.TupleOrder.run.Goals as goal

pub returns : goal.returns
returns g c = λ tuples reading order.
    let own = c.args.own.now in
    let values = values_at c.args.places.now c.args.row.now in
    let xs = c.deref.result.now in
    let ys = c.deref-2.result.now in
    let same : ys ≡ xs = c.deref-2.ensures.value ∙ sym c.deref.ensures.value in
    let ordered = subst (IsOrder own tuples) (sym (c.deref.ensures.value ∙ c.self.view_is)) order in
    let from = c.partition_point-from.result in
    let len = c.partition_point-len.result in
    let first = IsPartitionPoint-from_clause (less own tuples values) xs from c.partition_point-from.ensures.partitioned (less_first own tuples xs ordered values)
    (λ a r q k. search rules) in
    let rest : take (length ys - from) (drop from ys) ≡ drop from xs =
    let n = length-drop from ys in take_all (length ys - from) (drop from ys) (omega (arith, n)) ∙ ap (drop from) same in
    let last = IsPartitionPoint-from_clause (no_more own tuples values) (take (length ys - from) (drop from ys)) len c.partition_point-len.ensures.partitioned
    (subst (IsPartitionedBy (no_more own tuples values)) (sym rest) (no_more_first own tuples xs ordered values from))
    (λ a r q k. search rules) in
    subst (λ zs. IsRun own tuples values 0 (take len zs)) (sym rest)
    (run_is own tuples xs ordered values from len c.partition_point-from.ensures.bound (subst (λ zs. len ≤ length zs) rest c.partition_point-len.ensures.bound) first
    (subst (λ zs. IsPartitionPoint (λ i. no_more own tuples values i ≡ true) (λ i. no_more own tuples values i ≡ false) zs len) rest last))

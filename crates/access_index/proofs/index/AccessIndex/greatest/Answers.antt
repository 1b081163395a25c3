use Rattle.std.proofs.Common.{◌≡◌, length, ap, sym, subst, arith}
use Rattle.std.specs.Map.{values_of}
use Rattle.std.proofs.lemmas.List.{length-map}
use Rattle.beas_core.specs.Groups.{greatest}
use Rattle.access_index.specs.Buckets.{IsBest}
use Rattle.access_index.specs.Index.{Index, IsIndexOf}
use Rattle.access_index.proofs.Counting.{tuples_within}
use Rattle.access_index.proofs.Holding.{bucket_at_place, sum_at_place}
use Rattle.access_index.proofs.Indexing.{IsGreatestUpTo, greatest_of_more, greatest_is}
use Rattle.access_index.proofs.index.AccessIndex.greatest.Goals as goal

pub greatest_in-requires-clause-ordered : goal.greatest_in-requires-clause-ordered
greatest_in-requires-clause-ordered c =
    (bucket_at_place (length c.self.inside.columns) (length c.self.inside.access.key) c.self.inside.buckets.entries c.loop-i.i c.index.result.now
    c.self.invariant.1.buckets c.index.ensures).1.ordered

pub greatest_in-requires-clause-few : goal.greatest_in-requires-clause-few
greatest_in-requires-clause-few c =
    let b = bucket_at_place (length c.self.inside.columns) (length c.self.inside.access.key) c.self.inside.buckets.entries c.loop-i.i c.index.result.now
    c.self.invariant.1.buckets c.index.ensures in
    let total = c.self.invariant.1.total_is in
    omega (
      arith,
      total,
      c.recall_few_rows.ensures,
      ap (λ (s : Index). s.total) c.self.view_is,
      tuples_within c.index.result.now b.1.counted,
      sum_at_place c.self.inside.buckets.entries c.loop-i.i c.index.result.now c.index.ensures,
    )

pub loop-i-preserved : goal.loop-i-preserved
loop-i-preserved c =
    let w = length c.self.inside.access.key in
    let all = values_of c.self.inside.buckets.entries in
    subst (IsGreatestUpTo w all _) (sym c.max-best.ensures)
    (greatest_of_more w all c.loop-i.i c.loop-i.best c.greatest_in.result c.index.result.now c.loop-i.invariant c.index.ensures
    (subst (λ v. IsBest v c.index.result.now (length c.index.result.now) c.greatest_in.result) c.len.ensures c.greatest_in.ensures))

pub returns : goal.returns
returns c rows =
    let access = c.self.inside.access in
    let entries = c.self.inside.buckets.entries in
    let end : c.loop-i.i ≡ length (values_of entries) = omega
    (arith, c.loop-i-test.false, c.loop-i.auto.i-end, c.len-i-end.ensures, length-map entries (λ e. e.1)) in
    subst (λ (s : Index). IsIndexOf s rows → c.loop-i.best ≡ greatest rows s.access.key s.access.fetched) c.self.view_is
    (λ is. greatest_is access (length c.self.inside.columns) c.self.inside.total entries c.self.invariant.1 rows is c.loop-i.best
    (subst (λ n. IsGreatestUpTo (length access.key) (values_of entries) n c.loop-i.best) end c.loop-i.invariant))

use Rattle.std.proofs.Common.{◌≡◌, ◌+◌, length, ap, sym, ◌∙◌, subst, arith}
use Rattle.std.specs.Prelude.{max}
use Rattle.beas_core.specs.Groups.{member_columns, greatest}
use Rattle.access_index.proofs.Counting.{tuples_within}
use Rattle.access_index.specs.Index.{IsIndexOf}
use Rattle.code_index.specs.Reading.{CodeIndex, IsInOrderFor, read_index, read_group}
use Rattle.code_index.proofs.GroupFacts.{length_group}
use Rattle.code_index.proofs.Greatest.{IsLongest, longest_more, greatest_is, sum_at}
use Rattle.code_index.proofs.Steps.{group_at}
use Rattle.code_index.proofs.keyed.KeyedIndex.greatest.Goals as goal

pub overflow_cast-len : goal.overflow_cast-len
overflow_cast-len g c =
    let access = c.self.inside.access in
    let es = c.self.inside.groups.entries in
    let w = c.self.invariant.1 in
    let o = w.in_order in
    let g0 = c.index.result.now in
    let b = (group_at w.codes (length (member_columns access)) (length access.key) es c.loop-i.i g0 o.stored.buckets c.index.ensures).1 in
    let sum = o.stored.total_is in
    omega (
      arith,
      c.recall_few_rows.ensures,
      ap (λ (x : CodeIndex). x.total) c.self.view_is,
      c.len.ensures,
      length_group w.codes g0,
      tuples_within (read_group w.codes g0) b.counted,
      sum,
      sum_at w.codes es c.loop-i.i g0 c.index.ensures,
    )

pub loop-i-preserved : goal.loop-i-preserved
loop-i-preserved g c =
    let es = c.self.inside.groups.entries in
    subst (IsLongest es (c.loop-i.i + 1)) (sym (c.max-best.ensures ∙ ap (λ n. max n c.loop-i.best) c.len.ensures))
    (longest_more es c.loop-i.i c.loop-i.best c.index.result.now c.loop-i.invariant c.index.ensures)

pub returns : goal.returns
returns g c codes rows o is =
    let access = c.self.inside.access in
    let es = c.self.inside.groups.entries in
    let end : c.loop-i.i ≡ length es = omega (arith, c.loop-i-test.false, c.loop-i.auto.i-end, c.len-i-end.ensures) in
    subst (λ (x : CodeIndex). c.loop-i.best ≡ greatest rows x.access.key x.access.fetched) c.self.view_is
    (greatest_is access codes c.self.inside.total es (subst (IsInOrderFor codes) (sym c.self.view_is) o) rows
    (subst (λ (x : CodeIndex). IsIndexOf (read_index codes x) rows) (sym c.self.view_is) is) c.loop-i.best
    (subst (λ n. IsLongest es n c.loop-i.best) end c.loop-i.invariant))

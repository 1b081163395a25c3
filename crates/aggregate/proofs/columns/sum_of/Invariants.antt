use Rattle.std.proofs.Common.{◌≡◌, ◌*◌, ◌^◌, ◌≤ℤ◌, neg_ℤ, pos, take}
use Rattle.aggregate.specs.Grouping.{sum_of}
use Rattle.aggregate.proofs.columns.sum_of.Given as goal

abbrev pub invariant-loop-value : goal.invariant-loop-value
invariant-loop-value l = record {
  sum : l.sum ≡ sum_of (take l.value-index l.values);
  least : neg_ℤ (pos (2 ^ 63 * l.value-index)) ≤ℤ l.sum;
  most : l.sum ≤ℤ pos (2 ^ 63 * l.value-index);
}

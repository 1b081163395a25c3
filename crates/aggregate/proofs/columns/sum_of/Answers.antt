use Rattle.std.proofs.Common.{arith}
use Rattle.std.proofs.lemmas.Int.{ints, to_z-of_z}
use Rattle.aggregate.proofs.GroupFacts.{sum_more}
use Rattle.aggregate.proofs.columns.sum_of.Goals as goal

pub loop-value-preserved : goal.loop-value-preserved
loop-value-preserved c = record {
  sum = grind (arith, ints, to_z-of_z, sum_more);
  least = omega (arith, ints);
  most = omega (arith, ints);
}

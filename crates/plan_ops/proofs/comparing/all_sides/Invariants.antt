use Rattle.std.proofs.Common.{◌≡◌, length, take, map}
use Rattle.std.specs.Prelude.{vec_len, vec_capacity}
use Rattle.plan_ops.specs.Comparing.{sides_at}
use Rattle.plan_ops.proofs.comparing.all_sides.Given as goal

abbrev pub invariant-loop-comparison : goal.invariant-loop-comparison
invariant-loop-comparison l = record {
  items : l.sides.items ≡ map (sides_at l.block l.classes) (take l.comparison-index l.block.comparisons);
  len : vec_len l.sides ≡ l.comparison-index;
  room : vec_capacity l.sides ≡ length l.block.comparisons;
}

use Rattle.std.proofs.Common.{◌≡◌, map, take, length}
use Rattle.std.specs.Prelude.{vec_len, vec_capacity}
use Rattle.plan_ops.proofs.starting.classes_equated.Given as goal

abbrev pub invariant-loop-constant : goal.invariant-loop-constant
invariant-loop-constant l = record {
  items : l.classes.items ≡ map (λ c. c.0) (take l.constant-index l.constants);
  len : vec_len l.classes ≡ l.constant-index;
  room : vec_capacity l.classes ≡ length l.constants;
}

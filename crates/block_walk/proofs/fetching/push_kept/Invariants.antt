use Rattle.std.proofs.Common.{◌≡◌, ◌≤◌, true, length, take}
use Rattle.std.specs.List.{filter}
use Rattle.plan_ops.specs.Sieves.{passes}
use Rattle.block_walk.specs.Fetched.{Pushed}
use Rattle.block_walk.proofs.fetching.push_kept.Given as goal

abbrev pub invariant-loop-i : goal.invariant-loop-i
invariant-loop-i g l = record {
  pushed : Pushed (length l.stage.join.picked.0) l.fn.values.items l.values.items
      (filter (passes l.block l.stage.sieve) (take l.i (g.P.AccessPort.members l.port l.hits))) l.kept;
  few : l.kept ≤ l.i;
  none : l.one ≡ true → l.kept ≡ 0;
}

use Rattle.std.proofs.Common.{◌≡◌, true, All}
use Rattle.plan_ops.specs.Over.{set_of}
use Rattle.plan_ops.specs.Sieves.{AreRest, IsOwn}
use Rattle.plan_ops.proofs.sieving.sieve_of.Given as goal

abbrev pub invariant-loop-number : goal.invariant-loop-number
invariant-loop-number l = record {
  own : All (IsOwn l.block l.atom l.columns) l.own.items;
  plain : l.one ≡ true → l.plain ≡ true;
  rest : l.one ≡ true → AreRest l.block (set_of l.block l.before) l.own.items l.number;
}

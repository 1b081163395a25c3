use Rattle.std.proofs.Common.{◌≡◌, ◌++◌, take}
use Rattle.plan_builder.proofs.blocks.push_copies.Given as goal

abbrev pub invariant-loop-access : goal.invariant-loop-access
invariant-loop-access l = l.found ≡ l.initial.found ++ take l.access-index l.more

use Rattle.std.proofs.Common.{◌≡◌, ◌++◌, take}
use Rattle.std.specs.List.{flat_map}
use Rattle.plan_builder.proofs.blocks.joined_all.Given as goal

abbrev pub invariant-loop-more : goal.invariant-loop-more
invariant-loop-more l = l.all ≡ l.accesses ++ flat_map (λ more. more) (take l.more-index l.extra)

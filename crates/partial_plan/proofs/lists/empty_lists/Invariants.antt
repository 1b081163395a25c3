use Rattle.std.proofs.Common.{◌≡◌, [], map, take}
use Rattle.partial_plan.proofs.lists.empty_lists.Given as goal

-- one for each block so far
abbrev pub invariant-loop : goal.invariant-loop
invariant-loop l = l.lists ≡ map (λ block. []) (take l.index l.blocks)

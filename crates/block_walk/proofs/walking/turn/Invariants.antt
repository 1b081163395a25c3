use Rattle.std.specs.Option.{option_copied}
use Rattle.std.specs.List.{sum_by}
use Rattle.block_walk.specs.Worlds.{world}
use Rattle.block_walk.specs.Routes.{route}
use Rattle.block_walk.specs.Stacks.{pending_in}
use Rattle.block_walk.specs.Walks.{work_from}
use Rattle.block_walk.proofs.LoopFacts.{IsVisiting}
use Rattle.block_walk.proofs.walking.turn.Given as goal

abbrev pub invariant-visits : goal.invariant-visits
invariant-visits g l = IsVisiting (route l.block (option_copied l.guide) l.plan) l.initial.walk l.walk l.initial.steps l.steps

-- the valuations that are yet to be visited, with all that they lead to
abbrev pub decreases-visits : goal.decreases-visits
decreases-visits g l = sum_by (work_from (world (g.P.AccessPort.rows l.port) (g.P.AccessPort.accesses l.port))
    (route l.block (option_copied l.guide) l.plan)) (pending_in l.walk.pending)

use Rattle.std.proofs.Common.{◌≡◌, map}
use Rattle.block_walk.specs.Kept.{pending_at}
use Rattle.block_walk.specs.Stacks.{IsStack, pending_in}
use Rattle.block_walk.proofs.stack.Stack.begin.Given as goal

abbrev pub invariant-loop-row : goal.invariant-loop-row
invariant-loop-row l = record { stack : IsStack l.stack; pending : pending_in l.stack ≡ map (pending_at 0) l.yielded }

use Rattle.std.proofs.Common.{◌≡◌, ◌++◌}
use Rattle.demo_gen.specs.Draws.{state_after}
use Rattle.demo_gen.specs.Demo.{friend_at, rows_text}
use Rattle.demo_gen.proofs.inserts.push_friends.Given as goal

-- the rows so far, after a draw for each
abbrev pub invariant-loop-place : goal.invariant-loop-place
invariant-loop-place l = (l.text ≡ l.initial.text ++ rows_text (friend_at l.initial.draws.state) l.place)
    × (l.draws.state ≡ state_after l.initial.draws.state l.place)

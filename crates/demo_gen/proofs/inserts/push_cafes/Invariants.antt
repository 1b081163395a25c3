use Rattle.std.proofs.Common.{◌≡◌, ◌++◌}
use Rattle.demo_gen.specs.Draws.{state_after}
use Rattle.demo_gen.specs.Demo.{cafe_at, rows_text}
use Rattle.demo_gen.proofs.inserts.push_cafes.Given as goal

-- the rows so far, after a draw for each
abbrev pub invariant-loop-cid : goal.invariant-loop-cid
invariant-loop-cid l = (l.text ≡ l.initial.text ++ rows_text (cafe_at l.initial.draws.state) l.cid)
    × (l.draws.state ≡ state_after l.initial.draws.state l.cid)

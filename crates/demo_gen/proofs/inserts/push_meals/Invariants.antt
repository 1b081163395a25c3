use Rattle.std.proofs.Common.{◌≡◌, ◌++◌, ◌*◌}
use Rattle.demo_gen.specs.Draws.{state_after}
use Rattle.demo_gen.specs.Demo.{dine_at, rows_text}
use Rattle.demo_gen.proofs.inserts.push_meals.Given as goal

-- the rows so far, after two draws for each
abbrev pub invariant-loop-place : goal.invariant-loop-place
invariant-loop-place l = (l.text ≡ l.initial.text ++ rows_text (dine_at l.initial.draws.state) l.place)
    × (l.draws.state ≡ state_after l.initial.draws.state (2 * l.place))

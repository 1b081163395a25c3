use Rattle.std.proofs.Common.{◌≡◌, ◌++◌, ◌*◌}
use Rattle.std.specs.List.{flat_map}
use Rattle.demo_gen.specs.Draws.{state_after}
use Rattle.demo_gen.specs.Demo.{with_end, rounds}
use Rattle.demo_gen.proofs.queries.push_rounds.Given as goal

-- the rounds so far, after 31 draws for each
abbrev pub invariant-loop-round : goal.invariant-loop-round
invariant-loop-round l = (l.text ≡ l.initial.text ++ flat_map with_end (rounds l.initial.draws.state l.round))
    × (l.draws.state ≡ state_after l.initial.draws.state (31 * l.round))

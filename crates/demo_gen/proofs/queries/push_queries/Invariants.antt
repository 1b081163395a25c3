use Rattle.std.proofs.Common.{◌≡◌, ◌++◌, ◌*◌}
use Rattle.std.specs.List.{flat_map}
use Rattle.demo_gen.specs.Draws.{state_after}
use Rattle.demo_gen.specs.Demo.{with_end, queries}
use Rattle.demo_gen.proofs.queries.push_queries.Given as goal

-- the queries so far, after three draws for each
abbrev pub invariant-loop-query : goal.invariant-loop-query
invariant-loop-query l = (l.text ≡ l.initial.text ++ flat_map with_end (queries l.initial.draws.state l.query))
    × (l.draws.state ≡ state_after l.initial.draws.state (3 * l.query))

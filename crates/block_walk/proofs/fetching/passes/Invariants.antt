use Rattle.std.proofs.Common.{◌≡◌, [], true, get_or, take}
use Rattle.std.specs.List.{list_all}
use Rattle.plan_ops.specs.Sieves.{is_met_alone}
use Rattle.block_walk.proofs.fetching.passes.Given as goal

abbrev pub invariant-loop-own : goal.invariant-loop-own
invariant-loop-own g l =
    list_all (is_met_alone l.block (get_or (g.P.AccessPort.members l.port l.hits) l.i [])) (take l.own-index l.stage.sieve.own.items) ≡ true

use Rattle.std.proofs.Common.{◌≡◌, map}
use Rattle.std.specs.List.{range_with_len}
use Rattle.attribute_closure.specs.Uses.{as_use}
use Rattle.specialise.specs.Trials.{servers_on}
use Rattle.specialise.proofs.servers.servers_of.Given as goal

abbrev pub invariant-loop-number : goal.invariant-loop-number
invariant-loop-number l = l.servers ≡ map (servers_on l.block l.candidates (map as_use l.found)) (range_with_len 0 l.number)

use Rattle.std.proofs.Common.{◌≡◌, map, take}
use Rattle.attribute_closure.specs.Uses.{as_use}
use Rattle.specialise.specs.Trials.{servers_on}
use Rattle.specialise.proofs.servers.servers_on.Given as goal

abbrev pub invariant-loop-use_at : goal.invariant-loop-use_at
invariant-loop-use_at l = l.servers ≡ servers_on l.block l.candidates (map as_use (take l.use_at-index l.found)) l.atom

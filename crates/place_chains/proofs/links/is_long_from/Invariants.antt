use Rattle.std.proofs.Common.{◌<◌, IfSome, length}
use Rattle.place_chains.proofs.links.is_long_from.Given as goal

abbrev pub invariant-loop : goal.invariant-loop
invariant-loop l = IfSome l.at (λ place. place < length l.links)

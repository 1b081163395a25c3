use Rattle.place_chains.specs.Hashing.{hash_of}
use Rattle.block_walk.proofs.KnownFacts.{Searched, places_left}
use Rattle.block_walk.proofs.known.Known.find.Given as goal

abbrev pub invariant-places : goal.invariant-places
invariant-places l = Searched l.self (hash_of l.step l.key) (l.step, l.key) l.at

abbrev pub decreases-places : goal.decreases-places
decreases-places l = places_left l.at

use Rattle.std.proofs.Common.{◌<◌, ◌≤◌, ℕ, IfSome, length}
use Rattle.place_chains.specs.Chains.{IsLast}
use Rattle.place_chains.specs.Buckets.{AreLinked, bucket, buckets_of}
use Rattle.place_chains.proofs.Search.{IsAhead, way_from}
use Rattle.place_chains.proofs.links.same_from.Given as goal

abbrev pub invariant-places : goal.invariant-places
invariant-places l = IfSome l.at (λ p. p < length l.links)
    × ((count end : ℕ) → AreLinked count l.links (length l.links) → end ≤ length l.links
    → IsLast (bucket l.hash count) (buckets_of count l.links) end l.fn.from → IsAhead l.hash count l.links end l.at)

abbrev pub decreases-places : goal.decreases-places
decreases-places l = way_from l.at

use Rattle.std.proofs.Common.{◌≡◌, length}
use Rattle.place_chains.specs.Buckets.{AreHeads, AreLinked, hashes_of}
use Rattle.place_chains.proofs.links.spread.Given as goal

abbrev pub invariant-loop-place : goal.invariant-loop-place
invariant-loop-place l = (hashes_of l.links ≡ hashes_of l.fn.links) × AreHeads (length l.heads) l.heads l.links l.place
    × AreLinked (length l.heads) l.links l.place

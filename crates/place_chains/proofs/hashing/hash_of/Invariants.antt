use Rattle.std.proofs.Common.{◌≡◌, take}
use Rattle.place_chains.specs.Hashing.{hash_of}
use Rattle.place_chains.proofs.hashing.hash_of.Given as goal

abbrev pub invariant-loop-value : goal.invariant-loop-value
invariant-loop-value l = l.hash ≡ hash_of l.step (take l.value-index l.key)

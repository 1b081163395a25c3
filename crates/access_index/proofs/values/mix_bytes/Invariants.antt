use Rattle.std.proofs.Common.{◌≡◌, take}
use Rattle.std.specs.List.{fold}
use Rattle.seeded_hash.specs.declared.hasher.TheConstants.{FIXED_FACTOR}
use Rattle.seeded_hash.specs.Mixing.{mixed}
use Rattle.access_index.proofs.values.mix_bytes.Given as goal

abbrev pub invariant-loop-byte : goal.invariant-loop-byte
invariant-loop-byte l = l.mixture ≡ fold (mixed FIXED_FACTOR) l.state (take l.byte-index l.bytes)

use Rattle.std.proofs.Common.{◌≡◌, take}
use Rattle.std.specs.List.{fold}
use Rattle.access_index.specs.Hashing.{with_value}
use Rattle.access_index.proofs.values.hash_values.Given as goal

abbrev pub invariant-loop-i : goal.invariant-loop-i
invariant-loop-i g l = l.mixture ≡ fold with_value 0x243F6A8885A308D3 (take l.i (g.W.Values.list l.values))

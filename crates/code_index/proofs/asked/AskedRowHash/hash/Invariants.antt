use Rattle.std.proofs.Common.{◌≡◌, take}
use Rattle.std.specs.List.{fold, flat_map}
use Rattle.std.specs.Hash as fed
use Rattle.code_index.specs.Reading.{pick}
use Rattle.code_index.proofs.asked.AskedRowHash.hash.Given as goal

-- what was fed since the number of codes
abbrev pub invariant-loop-column : goal.invariant-loop-column
invariant-loop-column g l =
    l.state ≡ fold g.H.Hasher.write l.initial.state (flat_map fed.u64 (pick (take l.column-index l.self.columns.now) l.self.codes.now))

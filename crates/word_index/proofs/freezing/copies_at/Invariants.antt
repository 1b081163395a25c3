use Rattle.std.proofs.Common.{◌≡◌, map, take}
use Rattle.word_index.specs.Parts.{access_at}
use Rattle.word_index.proofs.freezing.copies_at.Given as goal

-- the constraints at the places so far
abbrev pub invariant-loop-place : goal.invariant-loop-place
invariant-loop-place l = l.copies ≡ map (access_at l.accesses) (take l.place-index l.places)

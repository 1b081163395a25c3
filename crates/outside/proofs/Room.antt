-- What a sink with a total takes is a prefix.
use Rattle.std.proofs.Common.{◌≡◌, ◌-◌, ◌++◌, [], sym, ℕ, List, Option, Some, None, length, drop, refl}
use Rattle.std.proofs.lemmas.List.{take-append-drop, append-nil}
use Rattle.outside.specs.Parts.{SentPart}
use Rattle.outside.specs.Room.{part_taken}

left_over : Option ℕ → List ℕ → List ℕ → List ℕ
left_over None sent bytes = []
left_over (Some total) sent bytes = drop (total - length sent) bytes

cut_there : (total : Option ℕ) (sent bytes : List ℕ) → part_taken total sent bytes ++ left_over total sent bytes ≡ bytes
unfolding left_over
cut_there None sent bytes = append-nil bytes
cut_there (Some total) sent bytes = take-append-drop (total - length sent) bytes

pub part_sent : (total : Option ℕ) (before now bytes : List ℕ) → now ≡ before ++ part_taken total before bytes → SentPart before now bytes
part_sent total before now bytes sent =
    record { part = part_taken total before bytes; left = left_over total before bytes; sent = sent; cut = cut_there total before bytes }

pub none_sent : (before now bytes : List ℕ) → now ≡ before → SentPart before now bytes
none_sent before now bytes same = record { part = []; left = bytes; sent = rw same (sym (append-nil before)); cut = refl }

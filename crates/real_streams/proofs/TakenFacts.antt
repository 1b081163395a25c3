-- Pieces that were taken from a reader one after another.
use Rattle.std.proofs.Common.{◌≡◌, ◌++◌, ◌<◌, [], sym, ap, refl, ◌∙◌, ℕ, List, Option, Some, None, length, IfSome}
use Rattle.std.proofs.lemmas.List.{append_assoc, append-nil, length-append}
use Rattle.std.specs.Io.KnownBytes.{Consumes, IsAtEnd}
use Rattle.real_streams.specs.Taken.{Took, TooLongFor}

pub consumes_none : (source : Option (List ℕ)) → Consumes source source []
consumes_none None = tt
consumes_none (Some left) = refl

consumes_both : (source middle rest : Option (List ℕ)) (before part : List ℕ) → Consumes source middle before → Consumes middle rest part
    → Consumes source rest (before ++ part)
consumes_both None middle rest before part first second = tt
consumes_both (Some left) None rest before part first second = absurd first
consumes_both (Some left) (Some more) None before part first second = absurd second
consumes_both (Some left) (Some more) (Some last) before part first second = rw (first, second) (sym (append_assoc before part last))

-- one more piece
pub consumes_more : (source middle rest : Option (List ℕ)) (before now : List ℕ) → Consumes source middle before → Took middle rest before now
    → Consumes source rest now
consumes_more source middle rest before now first took =
    rw took.grown (consumes_both source middle rest before took.part first took.consumed)

-- at the end all was taken
pub whole_at_end : (source rest : Option (List ℕ)) (bytes : List ℕ) → Consumes source rest bytes → IsAtEnd rest → IfSome source (λ left. bytes ≡ left)
whole_at_end None rest bytes taken end = tt
whole_at_end (Some left) None bytes taken end = absurd taken
whole_at_end (Some left) (Some more) bytes taken end = sym (taken ∙ ap (λ xs. bytes ++ xs) end ∙ append-nil bytes)

-- what is too long for the bytes so far is too long in all
pub too_long_in_all : (limit : ℕ) (source rest : Option (List ℕ)) (bytes : List ℕ) → Consumes source rest bytes → TooLongFor limit rest bytes
    → IfSome source (λ left. limit < length left)
too_long_in_all limit None rest bytes taken long = tt
too_long_in_all limit (Some left) None bytes taken long = absurd taken
too_long_in_all limit (Some left) (Some more) bytes taken long = rw (taken, length-append bytes more) long

-- What a writer took of the bytes that it was given.
--     GavePart before now bytes    what the writer holds grew by a prefix of the bytes
use Rattle.std.specs.Prelude.{ℕ, List, Option, IfSome, IsSomeAnd}
use Rattle.outside.specs.Parts.{SentPart}

abbrev pub GavePart : Option (List ℕ) → Option (List ℕ) → List ℕ → Type 0
GavePart before now bytes = IfSome before (λ held. IsSomeAnd now (λ holds. SentPart held holds bytes))

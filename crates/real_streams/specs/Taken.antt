-- What was taken from a reader.
--     Took source rest before now      a part that the reader had went after the bytes that there were
--     TooLongFor limit source bytes    the bytes and those that the reader had are more than the limit
use Rattle.std.specs.Prelude.{◌≡◌, ◌++◌, ◌+◌, ◌<◌, ℕ, List, Option, length, IfSome}
use Rattle.std.specs.Io.KnownBytes.{Consumes}

pub record Took (source rest : Option (List ℕ)) (before now : List ℕ) : Type 0 where
  pub part : List ℕ
  pub grown : now ≡ before ++ part
  pub consumed : Consumes source rest part

abbrev pub TooLongFor : ℕ → Option (List ℕ) → List ℕ → Type 0
TooLongFor limit source bytes = IfSome source (λ left. limit < length bytes + length left)

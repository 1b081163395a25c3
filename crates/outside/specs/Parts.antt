-- What a sink took of the bytes that it was to take.
--     SentPart before now whole      what was sent grew by a prefix of whole
use Rattle.std.specs.Prelude.{◌≡◌, ◌++◌, ℕ, List}

pub record SentPart (before now whole : List ℕ) : Type 0 where
  pub part : List ℕ
  pub left : List ℕ
  pub sent : now ≡ before ++ part
  pub cut : part ++ left ≡ whole

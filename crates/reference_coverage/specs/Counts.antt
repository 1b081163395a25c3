-- A whole number as 128 bits hold it.
use Rattle.std.specs.Prelude.{◌≡◌, ◌≤◌, ◌^◌, ℕ, Option, MatchOption}

-- the number itself, nothing where it passes 2^128 - 1
abbrev pub Counts : Option ℕ → ℕ → Type 0
Counts number n = MatchOption number (2 ^ 128 ≤ n) (λ m. m ≡ n)

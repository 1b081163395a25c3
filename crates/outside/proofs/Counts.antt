-- Counts that are raised more than once, or by nothing.
use Rattle.std.proofs.Common.{◌≡◌, ◌+◌, ℕ, arith}
use Rattle.outside.specs.Counts.{raised}

pub raised_none : (count : ℕ) → raised 0 count ≡ count
raised_none count = omega arith

pub raised_twice : (first second count : ℕ) → raised second (raised first count) ≡ raised (first + second) count
raised_twice first second count = omega arith

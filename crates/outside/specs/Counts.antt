-- Counts that never fall, and stand still at the last value of a u64.
--     RoseBy n before now      the count rose by at least n, or stands at its last value
--     Rose before now          it rose, or stands at its last value
--     NoneFell before now      no name's count fell
--     raised n count           the count, raised by exactly n, or as far as its last value
use Rattle.std.specs.Prelude.{◌+◌, ◌-◌, ◌^◌, ◌≤◌, ℕ, List, max, min}

abbrev pub RoseBy : ℕ → ℕ → ℕ → Type 0
RoseBy n before now = min (before + n) (2 ^ 64 - 1) ≤ now

abbrev pub Rose : ℕ → ℕ → Type 0
Rose before now = RoseBy 1 before now

abbrev pub NoneFell : (List ℕ → ℕ) → (List ℕ → ℕ) → Type 0
NoneFell before now = (name : List ℕ) → before name ≤ now name

abbrev pub raised : ℕ → ℕ → ℕ
raised n count = max count (min (count + n) (2 ^ 64 - 1))

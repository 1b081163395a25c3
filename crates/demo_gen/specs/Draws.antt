-- The numbers that a demonstration draws.
--     draw_at state n   draw n from a state on, the first being draw 0
use Rattle.std.specs.Prelude.{◌+◌, ◌*◌, ◌/◌, ◌%◌, ◌^◌, ℕ, zero, suc}

-- a draw changes the state of 64 bits
unfoldable pub next : ℕ → ℕ
next state = (state * 6364136223846793005 + 1442695040888963407) % 2 ^ 64

-- the state after n draws
unfoldable pub state_after : ℕ → ℕ → ℕ
state_after state zero = state
state_after state (suc n) = next (state_after state n)

-- what a draw gives is the upper 31 bits of the state after it
abbrev pub draw_at : ℕ → ℕ → ℕ
draw_at state n = next (state_after state n) / 2 ^ 33

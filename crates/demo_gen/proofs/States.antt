-- The states that draws go through.
use Rattle.std.proofs.Common.{◌≡◌, ◌∙◌, ◌+◌, ◌/◌, ◌%◌, ◌^◌, ℕ, zero, suc, add-one, ap, arith, refl, sym}
use Rattle.demo_gen.specs.Draws.{draw_at, next, state_after}

pub no_draw : (state : ℕ) → state_after state 0 ≡ state
unfolding state_after
no_draw state = refl

pub one_more : (state n : ℕ) → state_after state (n + 1) ≡ next (state_after state n)
unfolding state_after
one_more state n = rw (add-one n) refl

pub after_both : (state m n : ℕ) → state_after (state_after state m) n ≡ state_after state (m + n)
unfolding state_after
after_both state m zero = ap (state_after state) (omega arith)
after_both state m (suc n) = ap next (after_both state m n) ∙ sym (one_more state (m + n)) ∙ ap (state_after state) (omega arith)

-- one draw at a state that is known
pub draw_is : (first n limit now number : ℕ) → now ≡ state_after first n → number ≡ next now / 2 ^ 33 % limit → number ≡ draw_at first n % limit
draw_is first n limit now number reached drew = drew ∙ ap (λ d. next d / 2 ^ 33 % limit) reached

pub state_is : (first n now after : ℕ) → now ≡ state_after first n → after ≡ next now → after ≡ state_after first (n + 1)
state_is first n now after reached stepped = stepped ∙ ap next reached ∙ sym (one_more first n)

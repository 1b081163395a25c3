use Rattle.std.proofs.Common.{inl, inr, refl}
use Rattle.block_walk.proofs.ordered.OrderedKeys.hash_for.Goals as goal

pub returns-then-not-is_long : goal.returns-then-not-is_long
returns-then-not-is_long c = inl (refl, λ step key. refl)

pub returns : goal.returns
returns c = inr c.in_ok-put.ensures

use mathlib.Core.Path.{refl}
use Rattle.std.specs.Hash.FoldHasher.{folded_multiply}
use Rattle.seeded_hash.proofs.hasher.folded_product.Goals as goal

pub returns : goal.returns
unfolding folded_multiply
returns c = refl
